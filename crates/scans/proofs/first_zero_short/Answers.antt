use native.Mathlib.Omega.{arith}
use Rattle.scans.proofs.Scans.{clear_none, clear_by, offset_there, offset_last}
use Rattle.scans.proofs.first_zero_short.Goals as goal

pub returns-then-n-lt8-clause-value : goal.returns-then-n-lt8-clause-value
returns-then-n-lt8-clause-value c =
    offset_there _ c.args.from 0 8 _ _ _ (omega arith) (clear_none _ _) c.zero_in-n.ensures.value c.if-n-lt8.true (omega arith) (omega arith)

-- the first eight bytes hold no zero byte
pub returns-clause-value : goal.returns-clause-value
returns-clause-value c =
    offset_last _ c.args.from 8 8 _ _ _ (omega arith) (clear_by _ _ _ _ c.zero_in-n.ensures.value c.if-n-lt8.false (omega arith)) c.zero_in.ensures.value (omega arith) (omega arith) (omega arith)
