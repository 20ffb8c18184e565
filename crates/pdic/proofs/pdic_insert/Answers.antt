-- `pdic_insert` meets its contract.
use Rattle.pdic.proofs.Laws.{change_told}
use Rattle.pdic.proofs.pdic_insert.Goals as goal

pub returns : goal.returns
returns c = search change_told
