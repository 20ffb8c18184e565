-- `set_range` meets its contract.
use Rattle.std.proofs.Common.{◌≡◌, ◌+◌, ◌*◌, ◌%◌, ◌≤◌, ◌<◌, length}
use Rattle.marks.specs.Marks.{marks, with_range}
use Rattle.marks.proofs.set_range.Given as goal

abbrev pub invariant-loop-w : goal.invariant-loop-w
invariant-loop-w l = (l.i < 64) × (64 * l.w-index + l.i + l.left ≤ 64 * length l.w-items)
    × (with_range (64 * l.w-index + l.i) l.left l.v (marks l.w-items) ≡ with_range (l.from % 64) l.n l.v (marks l.initial.w-items))
