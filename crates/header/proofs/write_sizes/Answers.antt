-- `write_sizes` meets its contract.
use Rattle.header.proofs.Laws.{sizes_stored}
use Rattle.header.proofs.write_sizes.Goals as goal

pub returns-clause-s_after : goal.returns-clause-s_after
returns-clause-s_after c = search sizes_stored
