use Rattle.std.proofs.Common.{ap, ◌∙◌, Ok, rules}
use Rattle.std.proofs.lemmas.Result.{err_from_is_err_and}
use Rattle.spec.specs.Answers.{number_of}
use Rattle.runs.proofs.Laws.{none_clean}
use Rattle.tally.proofs.RunsLaws.{started_broken, started_none, started_other, started_same}
use Rattle.tally.proofs.first_entry.Goals as goal

pub read_entry-requires-clause-in_bounds : goal.read_entry-requires-clause-in_bounds
read_entry-requires-clause-in_bounds c = (search rules, search rules, none_clean)

pub returns-in_err-entry-clause-started : goal.returns-in_err-entry-clause-started
returns-in_err-entry-clause-started c =
    let exit = err_from_is_err_and c.from_residual.result c.from_residual.ensures.1 in
    rw (exit.1, exit.2) (started_broken _ _ _ _ _ c.read_entry.ensures.result_after _ c.in_err-entry.was)

pub returns-in_default-clause-started : goal.returns-in_default-clause-started
unfolding number_of
returns-in_default-clause-started c = started_none _ _ _ _ _ c.read_entry.ensures.result_after (c.in_ok-entry.was ∙ ap Ok c.in_default.is)

pub returns-then-not-is_equal-clause-started : goal.returns-then-not-is_equal-clause-started
unfolding number_of
returns-then-not-is_equal-clause-started c =
    started_other _ _ _ _ _ c.read_entry.ensures.result_after _ (c.in_ok-entry.was ∙ ap Ok c.in-Some.is) _ c.is_equal.ensures c.if-not-is_equal.true

pub returns-clause-started : goal.returns-clause-started
returns-clause-started c =
    started_same _ _ _ _ _ c.read_entry.ensures.result_after _ (c.in_ok-entry.was ∙ ap Ok c.in-Some.is) _ c.is_equal.ensures c.if-not-is_equal.false
    c.read_entry.ensures.inside (search rules)
