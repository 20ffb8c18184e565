-- The bytes passed are copied.
use native.Mathlib.Omega.{arith}
use Rattle.byteops.proofs.Stores.{copied_none, copied_byte}
use Rattle.byteops.proofs.copy_few.Goals as goal

pub loop-i-init : goal.loop-i-init
loop-i-init c = copied_none _ _ _ _

pub loop-i-preserved : goal.loop-i-preserved
loop-i-preserved c = copied_byte _ _ _ c.args.at c.args.from c.loop-i.i _ (omega arith) (omega arith) (omega arith) (omega arith) c.loop-i.invariant
