-- `nblock2` meets its contract.
use Rattle.header.proofs.Laws.{read_nblock2}
use Rattle.header.proofs.nblock2.Goals as goal

pub returns-clause-value : goal.returns-clause-value
returns-clause-value c = search read_nblock2
