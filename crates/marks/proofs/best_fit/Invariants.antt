-- `best_fit` meets its contract.
use Prim.Native.Nat.{◌-◌, ◌≤◌}
use mathlib.Core.Path.{◌≡◌}
use lib.ListN.{take, drop}
use Rattle.spec.specs.Blocks.{best_fit}
use Rattle.marks.specs.Marks.{marks}
use Rattle.marks.proofs.Fit.{found}
use Rattle.marks.proofs.best_fit.Given as goal

abbrev pub invariant-loop-from : goal.invariant-loop-from
invariant-loop-from l = (l.from ≤ l.d) × (l.best ≤ l.d) × (found l.n (take l.d (marks l.ws)) l.best l.limit l.from ≡ best_fit l.g l.d (take (l.d - l.g) (drop l.g (marks l.ws))) l.n)

abbrev pub decreases-loop-from : goal.decreases-loop-from
decreases-loop-from l = l.d - l.from
