use native.Mathlib.Omega.{arith}
use Rattle.byteops.proofs.Stores.{number_stored}
use Rattle.byteops.proofs.write.Goals as goal

pub returns-clause-dst_after : goal.returns-clause-dst_after
returns-clause-dst_after g c =
    number_stored _ _ _ _ _ _ _ c.requires.0 (omega arith) c.to_le_bytes.ensures c.copy_from_slice.ensures.after
