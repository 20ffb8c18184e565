-- `optimise_tested` meets its contract.
use mathlib.Core.Path.{refl}
use Rattle.std.proofs.lemmas.Result.{err_from_is_err_and}
use Rattle.marks.proofs.Laws.{marks_zero}
use Rattle.editor.proofs.Rows.{copy_is, copy_inside, copy_accepted, copy_blocks, copy_front, optimise_refused, optimise_done}
use Rattle.editor.proofs.optimise_tested.Goals as goal

pub changeable-requires-clause-free_value : goal.changeable-requires-clause-free_value
changeable-requires-clause-free_value c = marks_zero 1024

pub returns-in_err-v : goal.returns-in_err-v
returns-in_err-v c =
    let p = c.requires in
    let e = err_from_is_err_and c.from_residual.result c.from_residual.ensures.1 in
    let r = optimise_refused c.args.image.now c.args.len c.args.work.now p.0 p.1 p.2 p.3 _ (c.in_err-v.ensures.changeable _ p.3) in
    record { result_value = rw (e.1, e.2) r.0; image_after = r.1; work_len_unchanged = refl }

pub pack-requires : goal.pack-requires
pack-requires c =
    let copied = c.copy.ensures.dst_after in
    let p = c.requires in
    record {
      accepted_image = copy_accepted _ _ p.2 _ _ copied _ c.in_ok-v.ensures.changeable.0;
      len = (copy_blocks _ _ p.2 _ _ copied p.1, copy_inside _ _ p.2 _ _ copied, copy_front _ _ p.2 _ _ copied);
    }

pub returns : goal.returns
returns c =
    let p = c.requires in
    let r = optimise_done c.args.image.now c.args.len c.args.work.now p.0 p.1 p.2 p.3 _ c.in_ok-v.ensures.changeable.0 c.in_ok-v.ensures.changeable.2 _ _ (copy_is _ _ p.2 _ _
    c.copy.ensures.dst_after) _ c.pack.ensures.value c.pack.ensures.image_after in
    record { result_value = r.0; image_after = r.1; work_len_unchanged = c.copy.ensures.dst_len_unchanged }
