-- `pdic_create` meets its contract.
use Rattle.pdic.proofs.Laws.{create_told}
use Rattle.pdic.proofs.pdic_create.Goals as goal

pub returns : goal.returns
returns c = search create_told
