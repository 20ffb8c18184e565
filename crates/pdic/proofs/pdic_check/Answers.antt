-- `pdic_check` meets its contract.
use Rattle.pdic.proofs.Laws.{check_refused, check_counted}
use Rattle.pdic.proofs.pdic_check.Goals as goal

pub returns-in-Err : goal.returns-in-Err
returns-in-Err c = search check_refused

pub returns-in-Ok : goal.returns-in-Ok
returns-in-Ok c = search check_counted
