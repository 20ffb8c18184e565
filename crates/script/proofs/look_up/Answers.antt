-- `look_up` meets its contract.
use Rattle.script.proofs.Laws.{look_up_code}
use Rattle.script.proofs.look_up.Goals as goal

pub returns : goal.returns
returns c = search look_up_code
