-- `find_parts` meets its contract.
use Rattle.partlist.proofs.Laws.{list_none, list_one, one_inside, list_more}
use Rattle.partlist.proofs.find_parts.Goals as goal

pub returns-in_err-end-clause-result_value : goal.returns-in_err-end-clause-result_value
returns-in_err-end-clause-result_value c = rw c.from_residual.ensures (list_none _ _ c.part_end.ensures.result_value c.in_err-end.was)

pub returns-then-list_ends-clause-result_value : goal.returns-then-list_ends-clause-result_value
returns-then-list_ends-clause-result_value c = let is = c.in_ok-end.was in search list_one

pub returns-then-list_ends-clause-spans_inside : goal.returns-then-list_ends-clause-spans_inside
returns-then-list_ends-clause-spans_inside c = let is = c.in_ok-end.was in search one_inside

pub returns-clause-result_value : goal.returns-clause-result_value
returns-clause-result_value c = let is = c.in_ok-end.was in search list_more
