-- The bytes passed are copied.
use Prim.Native.Nat.{◌*◌}
use mathlib.Core.Path.{◌≡◌}
use Rattle.spec.specs.Bytes.{bytes_at, write}
use Rattle.byteops.proofs.copy.Given as goal

abbrev pub invariant-loop-i : goal.invariant-loop-i
invariant-loop-i l = l.dst ≡ write l.at (bytes_at l.from (32 * l.i) l.src) l.initial.dst
