-- `pdic_look_up` meets its contract.
use Rattle.pdic.proofs.Laws.{look_up_refused, look_up_absent, look_up_found}
use Rattle.pdic.proofs.pdic_look_up.Goals as goal

pub returns-in-Err : goal.returns-in-Err
returns-in-Err c = search look_up_refused

pub returns-in-Ok-None : goal.returns-in-Ok-None
returns-in-Ok-None c = search look_up_absent

pub returns-in-Ok-Some : goal.returns-in-Ok-Some
returns-in-Ok-Some c = search look_up_found
