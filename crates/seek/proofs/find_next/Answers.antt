use Rattle.seek.proofs.Returns.{next_none, next_found}
use Rattle.seek.proofs.find_next.Goals as goal

pub returns-in_err-element-clause-as_read : goal.returns-in_err-element-clause-as_read
returns-in_err-element-clause-as_read c = rw c.from_residual.ensures (next_none _ _ _ _ _ _ _ _ c.in_err-element.ensures.steps.0)

pub returns-clause-as_read : goal.returns-clause-as_read
returns-clause-as_read c = next_found _ _ _ _ _ _ _ _ _ _ c.in_ok-element.ensures.steps _ c.find_at.ensures.as_read
