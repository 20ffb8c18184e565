use mathlib.Core.Path.{◌∙◌}
use mathlib.Core.Bool.{Bool, true, not, ◌&&◌}
use Prim.Native.Nat.{ℕ}
use lib.Dec.{eqb}
use Rattle.std.proofs.Common.{rules, tests}
use Rattle.std.proofs.lemmas.Iterator.{YieldsList-from_slice}
use Rattle.std.proofs.lemmas.Iterator.Consumers.{fold_from_yields_List}
use Rattle.scans.proofs.Scans.{clear_flat}
use Rattle.scans.proofs.no_zero_flat.Goals as goal

pub returns : goal.returns
returns c =
    fold_from_yields_List _ (λ (t : Bool) (b : ℕ). t && not (eqb b 0)) true c.fold.result c.fold.ensures.ran (YieldsList-from_slice c.args.s.now (cc)) (λ t x u q k. search (rules, tests))
    ∙ clear_flat c.args.s.now
