use mathlib.Core.Path.{ap, ◌∙◌}
use Prim.Native.Nat.{ℕ}
use lib.Bits.{bit_or}
use lib.Dec.{eqb}
use Rattle.std.proofs.Common.{rules, tests}
use Rattle.std.proofs.lemmas.Iterator.{YieldsList-from_slice}
use Rattle.std.proofs.lemmas.Iterator.Consumers.{fold_from_yields_List}
use Rattle.scans.proofs.Scans.{zero_flat}
use Rattle.scans.proofs.all_zero_flat.Goals as goal

pub returns : goal.returns
returns c =
    ap (λ (n : ℕ). eqb n 0)
    (fold_from_yields_List _ bit_or 0 c.fold.result c.fold.ensures.ran (YieldsList-from_slice c.args.s.now (cc)) (λ t x u q k. search (rules, tests)))
    ∙ zero_flat c.args.s.now
