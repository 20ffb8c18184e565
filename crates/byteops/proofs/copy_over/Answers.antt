use native.Mathlib.Omega.{arith}
use Rattle.byteops.proofs.Stores.{head_written}
use Rattle.byteops.proofs.copy_over.Goals as goal

pub returns-then-src-from-ge32-clause-dst_after : goal.returns-then-src-from-ge32-clause-dst_after
returns-then-src-from-ge32-clause-dst_after c = head_written _ _ _ _ _ _ 32 (omega arith) (omega arith) (omega arith) c.copy_part.ensures.dst_after

pub returns-clause-dst_after : goal.returns-clause-dst_after
returns-clause-dst_after c = head_written _ _ _ _ _ _ _ (omega arith) (omega arith) (omega arith) c.copy.ensures.dst_after
