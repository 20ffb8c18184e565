use Rattle.std.proofs.Common.{arith, refl}
use Rattle.std.proofs.lemmas.Grind.{common_steps}
use Rattle.spec.specs.Entry.{headword_ok}
use Rattle.spec.proofs.PartLaws.{rest_at}
use Rattle.runs.proofs.headword_ok.Goals as goal

pub returns-then-h-le-LONGEST_HEADWORD : goal.returns-then-h-le-LONGEST_HEADWORD
unfolding headword_ok
returns-then-h-le-LONGEST_HEADWORD c =
    let h = c.args.h.now in
    let whole = rest_at h 0 _ refl in
    grind (arith, common_steps)

pub returns-else-h-le-LONGEST_HEADWORD : goal.returns-else-h-le-LONGEST_HEADWORD
unfolding headword_ok
returns-else-h-le-LONGEST_HEADWORD c = grind (arith, common_steps)
