-- `part_step` meets its contract.
use Rattle.partlist.proofs.Laws.{step_no_list, step_in_one, step_in_two}
use Rattle.partlist.proofs.part_step.Goals as goal

pub returns-in-None : goal.returns-in-None
returns-in-None c = search step_no_list

pub returns-in-Some-One : goal.returns-in-Some-One
returns-in-Some-One c = search step_in_one

pub returns-in-Some-Two : goal.returns-in-Some-Two
returns-in-Some-Two c = search step_in_two
