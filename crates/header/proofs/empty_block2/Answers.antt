-- `empty_block2` meets its contract.
use Rattle.header.proofs.Laws.{read_empty_block2}
use Rattle.header.proofs.empty_block2.Goals as goal

pub returns-clause-value : goal.returns-clause-value
returns-clause-value c = search read_empty_block2
