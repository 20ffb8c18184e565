-- `insert` meets its contract.
use Rattle.script.proofs.Laws.{insert_told}
use Rattle.script.proofs.insert.Goals as goal

pub returns : goal.returns
returns c = search insert_told
