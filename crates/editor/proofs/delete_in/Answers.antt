-- `delete_in` meets its contract.
use mathlib.Core.Path.{sym, refl}
use borrow.Author.Tests.{not-true, not-false}
use Rattle.std.proofs.lemmas.Result.{err_from_is_err_and}
use Rattle.editor.proofs.Changes.{draft_front, delete_some, delete_ready, delete_twelve, delete_absent, delete_full, delete_done}
use Rattle.editor.proofs.delete_in.Goals as goal

pub returns-then-not-headword_ok : goal.returns-then-not-headword_ok
returns-then-not-headword_ok c =
    let p = c.requires in
    let r = delete_twelve c.args.image.now c.args.work.now c.args.v p.accepted_image.0 p.v_in_bounds.0 p.v_in_bounds.1 c.args.headword.now p.may (sym
    c.if-not-headword_ok.ensures) in
    record { result_value = r.0; image_after = r.1; work_len_unchanged = refl }

pub returns-then-not-p : goal.returns-then-not-p
returns-then-not-p c =
    let p = c.requires in
    let r = delete_absent c.args.image.now c.args.work.now c.args.v p.accepted_image.0 p.v_in_bounds.0 p.v_in_bounds.1 c.args.headword.now p.may (sym
    c.if-not-headword_ok.ensures) _ _ (draft_front _ c.args.v _ _ _ _ _ c.position-len.ensures c.measure_change-p.ensures) (not-true _ c.if-not-p.true) in
    record { result_value = r.0; image_after = r.1; work_len_unchanged = refl }

pub overflow_sub-v : goal.overflow_sub-v
overflow_sub-v c =
    delete_some _ c.args.v c.requires.accepted_image.0 _ _ _ (draft_front _ c.args.v _ _ _ _ _ c.position-len.ensures c.measure_change-p.ensures) (not-false _ c.if-not-p.false)

pub change-requires-clause-plan_counted : goal.change-requires-clause-plan_counted
change-requires-clause-plan_counted c =
    delete_ready _ c.args.v c.requires.accepted_image.0 _ _ _ (draft_front _ c.args.v _ _ _ _ _ c.position-len.ensures c.measure_change-p.ensures) (not-false _ c.if-not-p.false) _ refl

pub returns-in_err-l : goal.returns-in_err-l
returns-in_err-l c =
    let p = c.requires in
    let e = err_from_is_err_and c.from_residual.result c.from_residual.ensures.1 in
    let r = delete_full c.args.image.now c.args.work.now c.args.v p.accepted_image.0 p.v_in_bounds.0 p.v_in_bounds.1 c.args.headword.now p.may (sym
    c.if-not-headword_ok.ensures) _ _ (draft_front _ c.args.v _ _ _ _ _ c.position-len.ensures c.measure_change-p.ensures) (not-false _ c.if-not-p.false) _ _ c.in_err-l.ensures.changed in
    record { result_value = rw (e.1, e.2) r.0; image_after = r.1; work_len_unchanged = c.in_err-l.ensures.image_len_unchanged.1 }

pub returns : goal.returns
returns c =
    let p = c.requires in
    let r = delete_done c.args.image.now c.args.work.now c.args.v p.accepted_image.0 p.v_in_bounds.0 p.v_in_bounds.1 c.args.headword.now p.may (sym
    c.if-not-headword_ok.ensures) _ _ (draft_front _ c.args.v _ _ _ _ _ c.position-len.ensures c.measure_change-p.ensures) (not-false _ c.if-not-p.false) _ _ c.in_ok-l.ensures.changed in
    record { result_value = r.0; image_after = r.1; work_len_unchanged = c.in_ok-l.ensures.image_len_unchanged.1 }
