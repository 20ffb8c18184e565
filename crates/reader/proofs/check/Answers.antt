-- `check` meets its contract.
use Rattle.std.proofs.Common.{rules}
use Rattle.std.proofs.lemmas.Result.{err_from_is_err_and}
use Rattle.marks.proofs.Laws.{marks_zero}
use Rattle.reader.proofs.Laws.{check_slice, check_refused, check_counted, slice_front, slice_header, slice_blocks}
use Rattle.reader.proofs.check.Goals as goal

pub returns-then-not-slice_ok : goal.returns-then-not-slice_ok
returns-then-not-slice_ok c = search check_slice

pub slice_bounds-inspect-end : goal.slice_bounds-inspect-end
slice_bounds-inspect-end c = search slice_front

pub inspect-requires-clause-in_bounds : goal.inspect-requires-clause-in_bounds
inspect-requires-clause-in_bounds c = (search slice_header, search slice_blocks, search rules)

pub inspect-requires-clause-free_value : goal.inspect-requires-clause-free_value
inspect-requires-clause-free_value c = marks_zero 1024

pub returns-in_err-v : goal.returns-in_err-v
returns-in_err-v c =
    let p = err_from_is_err_and c.from_residual.result c.from_residual.ensures.1 in
    let was = c.in_err-v.was in
    rw (p.1, p.2) (search check_refused)

pub returns : goal.returns
returns c = let is = c.in_ok-v.was in search check_counted
