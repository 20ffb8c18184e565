use Rattle.std.proofs.Common.{ap, ◌∙◌, Ok}
use Rattle.std.proofs.lemmas.Result.{err_from_is_err_and}
use Rattle.runs.proofs.Returns.{step_broken, step_end, step_field}
use Rattle.runs.proofs.read_entry.Goals as goal

pub returns-in_err-field-clause-result_after : goal.returns-in_err-field-clause-result_after
returns-in_err-field-clause-result_after c =
    let exit = err_from_is_err_and c.from_residual.result c.from_residual.ensures.1 in
    rw (exit.1, exit.2) (step_broken _ _ _ _ _ _ c.field_at.ensures.field_told _ c.in_err-field.was)

pub returns-in_default-clause-result_after : goal.returns-in_default-clause-result_after
returns-in_default-clause-result_after c = step_end _ _ _ _ _ _ c.field_at.ensures.field_told (c.in_ok-field.was ∙ ap Ok c.in_default.is)

pub returns-clause-result_after : goal.returns-clause-result_after
returns-clause-result_after c =
    step_field _ _ _ _ _ _ c.field_at.ensures.field_told _ _ (c.in_ok-field.was ∙ ap Ok c.in-Some.is) c.entry_in.ensures.result_after
