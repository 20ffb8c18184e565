-- What is left of the index is accepted as the whole is, and ends where the whole ends.
use Prim.Native.Nat.{◌-◌, ◌≤◌}
use mathlib.Core.Path.{◌≡◌}
use mathlib.Core.List.{[]}
use lib.ListN.{length, drop}
use Rattle.spec.specs.Order.{below_of}
use Rattle.spec.specs.Outcome.{accepted}
use Rattle.spec.specs.Bytes.{bytes_at}
use Rattle.spec.specs.Index.{elements_from}
use Rattle.index.specs.Elements.{elements_end}
use Rattle.index.proofs.read_elements.Given as goal

abbrev pub invariant-loop : goal.invariant-loop
invariant-loop l =
    (l.at ≤ length l.index) × (l.start ≤ l.end) × (l.end ≤ length l.index)
    × (accepted (elements_from l.width (below_of l.order) l.elements [] l.index)
    ≡ accepted (elements_from l.width (below_of l.order) (l.elements - l.counter) (bytes_at l.start (l.end - l.start) l.index) (drop l.at l.index)))
    × (elements_end l.width l.index l.at (l.elements - l.counter) ≡ elements_end l.width l.index 0 l.elements)
