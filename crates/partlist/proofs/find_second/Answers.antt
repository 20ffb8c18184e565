-- `find_second` meets its contract.
use Rattle.partlist.proofs.Laws.{list_broken, list_twice, list_open, list_two, two_inside}
use Rattle.partlist.proofs.find_second.Goals as goal

pub returns-in_err-end-clause-result_value : goal.returns-in_err-end-clause-result_value
returns-in_err-end-clause-result_value c = rw c.from_residual.ensures (list_broken _ _ _ c.part_end.ensures.result_value c.in_err-end.was)

pub returns-then-list-second-clause-result_value : goal.returns-then-list-second-clause-result_value
returns-then-list-second-clause-result_value c = let is = c.in_ok-end.was in search list_twice

pub returns-then-not-list_ends-clause-result_value : goal.returns-then-not-list_ends-clause-result_value
returns-then-not-list_ends-clause-result_value c = let is = c.in_ok-end.was in search list_open

pub returns-clause-result_value : goal.returns-clause-result_value
returns-clause-result_value c = let is = c.in_ok-end.was in search list_two

pub returns-clause-spans_inside : goal.returns-clause-spans_inside
returns-clause-spans_inside c = let is = c.in_ok-end.was in search two_inside
