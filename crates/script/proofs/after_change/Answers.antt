-- `after_change` meets its contract.
use Rattle.script.proofs.Laws.{change_refused, change_done}
use Rattle.script.proofs.after_change.Goals as goal

pub returns-in-Err : goal.returns-in-Err
returns-in-Err c = let told = change_refused c.args.answer c.args.len _ _ c.in-Err.is c.into.ensures in record { code = told.0; len = told.1 }

pub returns-in-Ok : goal.returns-in-Ok
returns-in-Ok c = let told = change_done c.args.answer c.args.len _ c.in-Ok.is in record { code = told.0; len = told.1 }
