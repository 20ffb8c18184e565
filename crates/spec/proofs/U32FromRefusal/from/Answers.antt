use Rattle.std.proofs.Common.{◌≡◌, refl, ◌+◌}
use Rattle.spec.specs.Answers.{number_of}
use Rattle.spec.specs.declared.Refusal.{Refusal}
use Rattle.spec.specs.contracts.Refusal as stored
use denote.Enum.Declared as enum
use Rattle.spec.proofs.U32FromRefusal.from.Goals as goal

-- a variant's place is its row
by_row : (r : Refusal) → enum.tag_of stored.the_type r + 1 ≡ number_of r
unfolding number_of
by_row Refusal.BadLength = refl
by_row Refusal.ShortWork = refl
by_row Refusal.BadVersion = refl
by_row Refusal.LeftOut = refl
by_row Refusal.BadAreas = refl
by_row Refusal.BadIndex = refl
by_row Refusal.BadPlace = refl
by_row Refusal.BadRun = refl
by_row Refusal.BadBlocks = refl
by_row Refusal.BadCounts = refl
by_row Refusal.ReadOnly = refl
by_row Refusal.BadHeadword = refl
by_row Refusal.BadText = refl
by_row Refusal.ShortOutput = refl
by_row Refusal.Full = refl
by_row Refusal.BadParts = refl

pub returns : goal.returns
returns c = by_row c.args.r
