-- The bytes passed are copied.
use mathlib.Core.Path.{◌≡◌}
use Rattle.spec.specs.Bytes.{bytes_at, write}
use Rattle.byteops.proofs.copy_few.Given as goal

abbrev pub invariant-loop-i : goal.invariant-loop-i
invariant-loop-i l = l.dst ≡ write l.at (bytes_at l.from l.i l.src) l.initial.dst
