use mathlib.Core.Path.{refl}
use native.Mathlib.Omega.{arith}
use Rattle.byteops.proofs.Stores.{copied_over}
use Rattle.byteops.proofs.copy_ends.Goals as goal

pub returns-clause-dst_after : goal.returns-clause-dst_after
returns-clause-dst_after g c =
    copied_over _ _ _ _ _ _ _ _ _ _ _ c.requires.in_bounds.0 c.requires.in_bounds.1 c.requires.within.0 c.requires.within.0 c.requires.within.1 refl refl c.copy_part.ensures.dst_after
    c.copy_part-2.ensures.dst_after
