-- `nword` meets its contract.
use Rattle.header.proofs.Laws.{read_nword}
use Rattle.header.proofs.nword.Goals as goal

pub returns-clause-value : goal.returns-clause-value
returns-clause-value c = search read_nword
