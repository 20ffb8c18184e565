-- What was read stands in the slice, and each turn reads more.
use Rattle.std.proofs.Common.{length, ◌-◌, ◌≤◌}
use Rattle.list.proofs.read_full.Given as goal

abbrev pub invariant-loop-n : goal.invariant-loop-n
invariant-loop-n g l = l.n ≤ length l.image

abbrev pub decreases-loop-n : goal.decreases-loop-n
decreases-loop-n g l = length l.image - l.n
