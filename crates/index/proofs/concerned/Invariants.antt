-- The element concerned of what is left is that of the whole.
use Prim.Native.Nat.{◌-◌, ◌≤◌, ◌<◌}
use mathlib.Core.Path.{◌≡◌}
use lib.ListN.{length}
use Rattle.spec.specs.Order.{below_of}
use Rattle.index.specs.Elements.{element_end, Inside, concerned_from}
use Rattle.index.proofs.concerned.Given as goal

abbrev pub invariant-loop-behind : goal.invariant-loop-behind
invariant-loop-behind l =
    (1 ≤ l.behind) × (l.end < length l.index) × Inside l.width l.index l.at l.behind × (l.end ≡ element_end l.width l.index l.at)
    × (concerned_from l.width (below_of l.order) l.index l.h 0 (l.elements - 1) ≡ concerned_from l.width (below_of l.order) l.index l.h l.at (l.behind - 1))
