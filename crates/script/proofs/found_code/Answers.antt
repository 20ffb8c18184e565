-- `found_code` meets its contract.
use Rattle.script.proofs.Laws.{code_refused, code_absent, code_found}
use Rattle.script.proofs.found_code.Goals as goal

pub returns-in-Err : goal.returns-in-Err
returns-in-Err g c = search code_refused

pub returns-in-None : goal.returns-in-None
returns-in-None g c = code_absent c.args.answer _ c.in-Ok.is c.in-None.is

pub returns-in-Some : goal.returns-in-Some
returns-in-Some g c = code_found c.args.answer _ _ c.in-Ok.is c.in-Some.is
