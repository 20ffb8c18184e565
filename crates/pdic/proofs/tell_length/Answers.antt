-- `tell_length` meets its contract.
use Rattle.pdic.proofs.Laws.{told_refused, told_done}
use Rattle.pdic.proofs.tell_length.Goals as goal

pub returns-in-Err : goal.returns-in-Err
returns-in-Err c = let told = told_refused c.args.answer _ _ _ c.in-Err.is c.into.ensures in record { returned = told.0; new_len_after = told.1 }

pub returns-in-Ok : goal.returns-in-Ok
returns-in-Ok c = let told = told_done c.args.answer _ _ c.in-Ok.is in record { returned = told.0; new_len_after = told.1 }
