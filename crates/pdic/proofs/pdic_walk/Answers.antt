-- `pdic_walk` meets its contract.
use Rattle.pdic.proofs.Laws.{walk_refused, walk_absent, walk_found}
use Rattle.pdic.proofs.pdic_walk.Goals as goal

pub returns-in-Err : goal.returns-in-Err
returns-in-Err c = search walk_refused

pub returns-in-Ok-None : goal.returns-in-Ok-None
returns-in-Ok-None c = search walk_absent

pub returns-in-Ok-Some : goal.returns-in-Ok-Some
returns-in-Ok-Some c = search walk_found
