use native.Mathlib.Omega.{arith}
use Rattle.scans.proofs.Scans.{clear_none, offset_there}
use Rattle.scans.proofs.first_zero.Goals as goal

pub returns-then-n-lt32-clause-value : goal.returns-then-n-lt32-clause-value
returns-then-n-lt32-clause-value c =
    offset_there _ c.args.from 0 32 _ _ _ (omega arith) (clear_none _ _) c.zero_in-n.ensures.value c.if-n-lt32.true (omega arith) (omega arith)
