use mathlib.Core.Path.{◌∙◌}
use native.Mathlib.Omega.{arith}
use Rattle.byteops.proofs.Stores.{part_copied}
use Rattle.byteops.proofs.copy_part.Goals as goal

pub returns-clause-dst_after : goal.returns-clause-dst_after
returns-clause-dst_after g c =
    part_copied _ _ _ _ _ _ _ _ c.requires.1 (omega arith) (omega arith) (c.copy_from_slice-2.ensures.after ∙ c.copy_from_slice.ensures.after)
