-- `finish` meets its contract.
use Rattle.std.proofs.lemmas.Result.{err_from_is_err_and}
use Rattle.change.specs.Ready.{old_length}
use Rattle.change.proofs.Laws.{run_few}
use Rattle.change.proofs.AreasLaws.{rest_asks, all_written}
use Rattle.change.proofs.FinishLaws.{marks_long, ready_form, ready_few, finish_full, copied_image, copy_ready, finish_done}
use Rattle.change.proofs.finish.Goals as goal

pub fit-requires-clause-good_form : goal.fit-requires-clause-good_form
fit-requires-clause-good_form c = let r = c.requires.ready in (ready_form _ _ _ _ _ _ r, c.requires.v_in_bounds.0, ready_few _ _ _ _ _ _ r)

pub fit-requires-clause-size_bound : goal.fit-requires-clause-size_bound
fit-requires-clause-size_bound c = let r = c.requires.ready in (r.inside, run_few _ _ _ _ _ _ r)

pub returns-in_err-last-clause-changed : goal.returns-in_err-last-clause-changed
returns-in_err-last-clause-changed c =
    let p = err_from_is_err_and c.from_residual.result c.from_residual.ensures.1 in
    rw (p.1, p.2) (finish_full c.args.image.now (old_length c.args.v.draft.old) c.args.v _ _ _ _ c.requires.ready _ c.in_err-last.ensures (marks_long _ c.requires.v_in_bounds.2))

pub write_areas-requires-clause-ready : goal.write_areas-requires-clause-ready
write_areas-requires-clause-ready c =
    (copy_ready c.args.image.now (old_length c.args.v.draft.old) c.args.v _ _ _ _ c.requires.ready _ c.in_ok-last.ensures (marks_long _ c.requires.v_in_bounds.2) c.requires.v_in_bounds.0 _
    (copied_image _ _ _ c.args.v.draft.old _ c.position-len.ensures c.requires.v_in_bounds.0 c.copy.ensures.dst_after)).0

pub write_areas-requires-clause-roomy : goal.write_areas-requires-clause-roomy
write_areas-requires-clause-roomy c =
    (copy_ready c.args.image.now (old_length c.args.v.draft.old) c.args.v _ _ _ _ c.requires.ready _ c.in_ok-last.ensures (marks_long _ c.requires.v_in_bounds.2) c.requires.v_in_bounds.0 _
    (copied_image _ _ _ c.args.v.draft.old _ c.position-len.ensures c.requires.v_in_bounds.0 c.copy.ensures.dst_after)).1

pub write_rest-requires : goal.write_rest-requires
write_rest-requires c =
    let k =
    copy_ready c.args.image.now (old_length c.args.v.draft.old) c.args.v _ _ _ _ c.requires.ready _ c.in_ok-last.ensures (marks_long _ c.requires.v_in_bounds.2) c.requires.v_in_bounds.0 _
    (copied_image _ _ _ c.args.v.draft.old _ c.position-len.ensures c.requires.v_in_bounds.0 c.copy.ensures.dst_after) in
    let e = c.write_areas.ensures in
    rest_asks _ c.args.v _ _ _ _ k.0 _ k.1 _ _ e.image_len_unchanged.0 k.2 _ e.image_len_unchanged.1

pub returns-clause-changed : goal.returns-clause-changed
returns-clause-changed c =
    let copied = copied_image _ _ _ c.args.v.draft.old _ c.position-len.ensures c.requires.v_in_bounds.0 c.copy.ensures.dst_after in
    let k =
    copy_ready c.args.image.now (old_length c.args.v.draft.old) c.args.v _ _ _ _ c.requires.ready _ c.in_ok-last.ensures (marks_long _ c.requires.v_in_bounds.2) c.requires.v_in_bounds.0 _ copied in
    let e = c.write_areas.ensures in
    let w = all_written _ c.args.v _ _ _ _ k.0 _ k.1 _ _ _ _ e.areas e.free_after k.2 c.write_rest.ensures.sealed in
    finish_done c.args.image.now _ c.args.v _ _ _ _ c.requires.ready _ c.in_ok-last.ensures (marks_long _ c.requires.v_in_bounds.2) c.requires.v_in_bounds.0 _ copied _ w _ c.position-new_len.ensures
