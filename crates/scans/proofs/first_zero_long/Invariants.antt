-- The parts passed hold no zero byte.
use Prim.Native.Nat.{◌*◌}
use mathlib.Core.Path.{◌≡◌}
use mathlib.Core.Bool.{true}
use Rattle.spec.specs.Bytes.{bytes_at, no_zero}
use Rattle.scans.proofs.first_zero_long.Given as goal

abbrev pub invariant-loop-i : goal.invariant-loop-i
invariant-loop-i l = no_zero (bytes_at l.from (16 * l.i) l.s) ≡ true
