-- `head_length` meets its contract.
use Rattle.parts.proofs.Laws.{head_measured}
use Rattle.parts.proofs.head_length.Goals as goal

pub returns-clause-value : goal.returns-clause-value
returns-clause-value c = λ e es p q. head_measured _ _ e es p _ c.first_zero.ensures.value q
