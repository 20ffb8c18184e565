-- `inspect` meets its contract.
use Rattle.std.proofs.lemmas.Result.{err_from_is_err_and}
use Rattle.header.proofs.Laws.{frame_read}
use Rattle.inspect.proofs.Laws.{areas_frame, areas_fit, areas_good, areas_whole, areas_index_few, areas_data_few}
use Rattle.inspect.proofs.inspect.Goals as goal

pub inspect_areas-requires-clause-s_value : goal.inspect_areas-requires-clause-s_value
inspect_areas-requires-clause-s_value c =
    let read = c.frame.ensures in
    (frame_read _ _ read.result_value _ c.in_ok-frame.was, areas_good _ _ read.result_value _ c.in_ok-frame.was read.form_told)

pub inspect_areas-requires-clause-d_value : goal.inspect_areas-requires-clause-d_value
inspect_areas-requires-clause-d_value c =
    let read = c.frame.ensures in
    let is = c.in_ok-frame.was in (
      areas_whole _ _ read.result_value _ is read.form_told c.requires.in_bounds.1,
      areas_index_few _ _ read.result_value _ is,
      areas_data_few _ _ read.result_value _ is,
      areas_fit _ _ read.result_value _ is _ c.requires.in_bounds.2,
    )

pub returns-in_err-frame : goal.returns-in_err-frame
returns-in_err-frame c =
    let p = err_from_is_err_and c.from_residual.result c.from_residual.ensures.1 in
    rw (p.1, p.2) (areas_frame _ _ c.frame.ensures.result_value _ c.in_err-frame.was)
