-- `nindex2` meets its contract.
use Rattle.header.proofs.Laws.{read_nindex2}
use Rattle.header.proofs.nindex2.Goals as goal

pub returns-clause-value : goal.returns-clause-value
returns-clause-value c = search read_nindex2
