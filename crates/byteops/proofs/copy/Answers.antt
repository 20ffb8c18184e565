-- The bytes passed are copied; the last 32 may go over some of them.
use Prim.Native.Nat.{◌*◌}
use mathlib.Core.Path.{refl}
use native.Mathlib.Omega.{arith}
use Rattle.byteops.proofs.Stores.{copied_none, copied_more, copied_over}
use Rattle.byteops.proofs.copy.Goals as goal

pub loop-i-init : goal.loop-i-init
loop-i-init c = copied_none _ _ _ _

pub loop-i-preserved : goal.loop-i-preserved
loop-i-preserved c =
    copied_more _ _ _ c.args.src.now c.args.at c.args.from (32 * c.loop-i.i) 32 _ _ _ (omega arith) (omega arith) (omega arith) refl refl c.loop-i.invariant
    c.copy_part.ensures.dst_after

pub returns-clause-dst_after : goal.returns-clause-dst_after
returns-clause-dst_after c =
    copied_over _ _ _ c.args.src.now c.args.at c.args.from (32 * c.loop-i.i) 32 _ _ _ (omega arith) (omega arith) (omega arith) (omega arith) (omega arith) refl refl
    c.loop-i.invariant c.copy_part-2.ensures.dst_after
