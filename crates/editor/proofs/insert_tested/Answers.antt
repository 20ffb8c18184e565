-- `insert_tested` meets its contract.
use mathlib.Core.Path.{◌≡◌, refl}
use Rattle.std.proofs.lemmas.Result.{err_from_is_err_and}
use Rattle.marks.proofs.Laws.{marks_zero}
use Rattle.change.specs.Ready.{old_length}
use Rattle.editor.proofs.Rows.{front_whole, words_few, insert_refused}
use borrow.Author.Rules.{rules}
use Rattle.editor.proofs.insert_tested.Goals as goal

pub changeable-requires-clause-free_value : goal.changeable-requires-clause-free_value
changeable-requires-clause-free_value c = marks_zero 2560

pub returns-in_err-v : goal.returns-in_err-v
returns-in_err-v c =
    let p = c.requires in
    let e = err_from_is_err_and c.from_residual.result c.from_residual.ensures.1 in
    let r = insert_refused c.args.image.now c.args.len c.args.work.now p.0 p.1 p.2 p.3 _ (c.in_err-v.ensures.changeable _ p.3) c.args.headword.now c.args.attribute c.args.text.now in
    record { result_value = rw (e.1, e.2) r.0; image_after = r.1; work_len_unchanged = refl }

pub insert_in-requires : goal.insert_in-requires
insert_in-requires c =
    let p = c.requires in
    let v = c.in_ok-v.ensures.changeable in
    let whole : old_length c.in_ok-v.v ≡ c.args.len = front_whole _ _ p.2 p.1 _ v.0 in
    record {
      accepted_image = (rw whole v.0, rw whole v.1);
      v_in_bounds = (rw whole p.2, p.3, search rules, words_few _ _ p.2 p.0 (λ k. search rules) _ v.0);
      may = v.2;
    }

pub returns : goal.returns
returns c =
    let p = c.requires in
    let whole : old_length c.in_ok-v.v ≡ c.args.len = front_whole _ _ p.2 p.1 _ c.in_ok-v.ensures.changeable.0 in
    rw (← whole) (search rules)
