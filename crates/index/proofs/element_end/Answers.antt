use Rattle.index.proofs.Loops.{end_found}
use Rattle.index.proofs.element_end.Goals as goal

pub returns-clause-value : goal.returns-clause-value
returns-clause-value c = search end_found
