-- The parts passed are zero, the others as they were.
use Prim.Native.Nat.{◌*◌}
use mathlib.Core.Path.{◌≡◌}
use Rattle.spec.specs.Bytes.{write, zeros}
use Rattle.scans.proofs.clear.Given as goal

abbrev pub invariant-loop-i : goal.invariant-loop-i
invariant-loop-i l = l.dst ≡ write 0 (zeros (4096 * l.i)) l.initial.dst
