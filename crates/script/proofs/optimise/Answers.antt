-- `optimise` meets its contract.
use Rattle.script.proofs.Laws.{optimise_told}
use Rattle.script.proofs.optimise.Goals as goal

pub returns : goal.returns
returns c = search optimise_told
