-- What is left of the list, written over what stands there now, is the whole list written.
use Rattle.std.proofs.Common.{◌≡◌, ◌-◌, ◌≤◌, true, take, drop}
use Rattle.marks.specs.Marks.{marks, gap}
use Rattle.chain.specs.Numbers.{numbers}
use Rattle.chain.proofs.Laws.{image_written, numbers_left}
use Rattle.chain.proofs.write_free_list.Given as goal

abbrev pub invariant-loop-b : goal.invariant-loop-b
invariant-loop-b l =
    (l.g ≤ l.b) × (l.b ≤ l.d) × (gap true (drop l.b (take l.d (marks l.free))) ≡ 0)
    × (image_written l.extended l.index (numbers_left l.free l.g l.d l.b) l.image ≡ image_written l.extended l.index (numbers 0 (take (l.d - l.g) (drop l.g (marks l.free)))) l.initial.image)

abbrev pub decreases-loop-b : goal.decreases-loop-b
decreases-loop-b l = l.d - l.b
