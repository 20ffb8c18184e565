-- `run_blocks` meets its contract.
use Rattle.encoder.proofs.Laws.{blocks_counted}
use Rattle.encoder.proofs.run_blocks.Goals as goal

pub returns-clause-value : goal.returns-clause-value
returns-clause-value c = blocks_counted c.args.used _ c.div_ceil.ensures
