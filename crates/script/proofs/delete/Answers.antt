-- `delete` meets its contract.
use Rattle.script.proofs.Laws.{delete_refused, delete_absent, delete_done}
use Rattle.script.proofs.delete.Goals as goal

pub returns-in-Err : goal.returns-in-Err
returns-in-Err c = search delete_refused

pub returns-in-Ok-None : goal.returns-in-Ok-None
returns-in-Ok-None c = search delete_absent

pub returns-in-Ok-Some : goal.returns-in-Ok-Some
returns-in-Ok-Some c = search delete_done
