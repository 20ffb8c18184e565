-- `next_update` meets its contract.
use Rattle.header.proofs.Laws.{update_raised}
use Rattle.header.proofs.next_update.Goals as goal

pub returns : goal.returns
returns c = search update_raised
