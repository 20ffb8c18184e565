-- The parts passed hold no zero byte.
use Prim.Native.Nat.{◌*◌}
use mathlib.Core.Path.{refl}
use native.Mathlib.Omega.{arith}
use Rattle.scans.proofs.Scans.{clear_none, clear_next, offset_there, offset_last}
use Rattle.scans.proofs.first_zero_long.Goals as goal

pub loop-i-init : goal.loop-i-init
loop-i-init c = clear_none _ _

pub returns-then-n-lt16-clause-value : goal.returns-then-n-lt16-clause-value
returns-then-n-lt16-clause-value c =
    offset_there _ c.args.from (16 * c.loop-i.i) 16 _ _ _ refl c.loop-i.invariant c.zero_in-n.ensures.value c.if-n-lt16.true (omega arith) (omega arith)

pub loop-i-preserved : goal.loop-i-preserved
loop-i-preserved c = clear_next _ _ (16 * c.loop-i.i) 16 _ _ (omega arith) c.loop-i.invariant c.zero_in-n.ensures.value c.if-n-lt16.false (omega arith)

pub returns-clause-value : goal.returns-clause-value
returns-clause-value c =
    offset_last _ c.args.from (16 * c.loop-i.i) 16 _ _ _ (omega arith) c.loop-i.invariant c.zero_in.ensures.value (omega arith) (omega arith) (omega arith)
