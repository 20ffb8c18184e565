use native.Mathlib.Omega.{arith}
use lib.ListN.{length-take, length-drop}
use Rattle.byteops.proofs.Stores.{part_cleared}
use Rattle.byteops.proofs.fill_zero.Goals as goal

pub returns-clause-dst_after : goal.returns-clause-dst_after
returns-clause-dst_after c =
    part_cleared _ _ _ _ _ _ (c.fill.ensures.after (λ y e. e)) (omega arith) (simp (length-take, length-drop) (omega arith))
