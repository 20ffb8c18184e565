-- `shared_front` meets its contract.
use Rattle.encoder.proofs.Laws.{front_found}
use Rattle.encoder.proofs.shared_front.Goals as goal

pub returns-clause-value : goal.returns-clause-value
returns-clause-value c = search front_found
