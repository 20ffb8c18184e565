-- `insert` meets its contract.
use mathlib.Core.Path.{sym}
use borrow.Author.Rules.{rules}
use Rattle.editor.proofs.Rows.{insert_slice, insert_short, now_tested, insert_whole}
use Rattle.editor.proofs.insert.Goals as goal

pub returns-then-not-slice_ok : goal.returns-then-not-slice_ok
returns-then-not-slice_ok c = insert_slice _ _ _ (sym c.if-not-slice_ok.ensures) _ _ _

pub returns-then-work-image : goal.returns-then-work-image
returns-then-work-image c = insert_short _ _ _ (sym c.if-not-slice_ok.ensures) c.if-work-image.true _ _ _

pub insert_tested-r-requires : goal.insert_tested-r-requires
insert_tested-r-requires c = now_tested _ _ _ (sym c.if-not-slice_ok.ensures) c.if-work-image.false

pub returns : goal.returns
returns c =
    let call = c.insert_tested-r in
    insert_whole c.args.image.now c.args.len c.args.work.now (sym c.if-not-slice_ok.ensures) c.if-work-image.false (λ k. search rules) call.new.work _
    call.ensures.work_len_unchanged c.clear.ensures.dst_after _ c.args.headword.now c.args.attribute c.args.text.now _ call.ensures.result_value call.ensures.image_after
