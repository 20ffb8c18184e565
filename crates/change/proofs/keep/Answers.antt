-- `keep` meets its contract.
use mathlib.Core.Path.{refl}
use Rattle.std.proofs.lemmas.Result.{err_from_is_err_and}
use Rattle.change.specs.Ready.{old_length}
use Rattle.change.proofs.Laws.{run_few}
use Rattle.change.proofs.AreasLaws.{all_written}
use Rattle.change.proofs.FinishLaws.{marks_long, ready_form, ready_few, finish_full, copy_ready, finish_done}
use Rattle.change.proofs.keep.Goals as goal

pub fit-requires-clause-good_form : goal.fit-requires-clause-good_form
fit-requires-clause-good_form c = let r = c.requires.ready in (ready_form _ _ _ _ _ _ r, c.requires.g_value.1, ready_few _ _ _ _ _ _ r)

pub fit-requires-clause-size_bound : goal.fit-requires-clause-size_bound
fit-requires-clause-size_bound c = let r = c.requires.ready in (r.inside, run_few _ _ _ _ _ _ r)

pub returns-in_err-last-clause-changed : goal.returns-in_err-last-clause-changed
returns-in_err-last-clause-changed c =
    let p = err_from_is_err_and c.from_residual.result c.from_residual.ensures.1 in
    rw (p.1, p.2) (finish_full c.args.image.now (old_length c.args.v.draft.old) c.args.v _ _ _ _ c.requires.ready _ c.in_err-last.ensures (marks_long _ c.requires.g_value.3))

pub write_kept-requires-clause-roomy : goal.write_kept-requires-clause-roomy
write_kept-requires-clause-roomy c =
    (copy_ready c.args.image.now (old_length c.args.v.draft.old) c.args.v _ _ _ _ c.requires.ready _ c.in_ok-last.ensures (marks_long _ c.requires.g_value.3) c.requires.g_value.1 _ refl).1

pub returns-clause-changed : goal.returns-clause-changed
returns-clause-changed c =
    let k = copy_ready c.args.image.now (old_length c.args.v.draft.old) c.args.v _ _ _ _ c.requires.ready _ c.in_ok-last.ensures (marks_long _ c.requires.g_value.3) c.requires.g_value.1 _ refl in
    let e = c.write_kept.ensures in
    let w = all_written _ c.args.v _ _ _ _ c.requires.ready _ k.1 _ _ _ _ e.areas e.free_after k.2 c.write_rest.ensures.sealed in
    finish_done c.args.image.now _ c.args.v _ _ _ _ c.requires.ready _ c.in_ok-last.ensures (marks_long _ c.requires.g_value.3) c.requires.g_value.1 _ refl _ w _ c.position-new_len.ensures
