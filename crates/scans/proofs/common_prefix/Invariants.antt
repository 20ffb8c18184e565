-- The bytes passed are equal.
use Prim.Native.Nat.{◌*◌, ◌≤◌}
use Rattle.spec.specs.Order.{common_prefix}
use Rattle.scans.proofs.common_prefix.Given as goal

abbrev pub invariant-loop-i : goal.invariant-loop-i
invariant-loop-i l = 8 * l.i ≤ common_prefix l.a l.b
