-- `delete` meets its contract.
use mathlib.Core.Path.{sym}
use borrow.Author.Rules.{rules}
use Rattle.editor.proofs.Rows.{delete_slice, delete_short, now_tested, delete_whole}
use Rattle.editor.proofs.delete.Goals as goal

pub returns-then-not-slice_ok : goal.returns-then-not-slice_ok
returns-then-not-slice_ok c = delete_slice _ _ _ (sym c.if-not-slice_ok.ensures) _

pub returns-then-work-image : goal.returns-then-work-image
returns-then-work-image c = delete_short _ _ _ (sym c.if-not-slice_ok.ensures) c.if-work-image.true _

pub delete_tested-r-requires : goal.delete_tested-r-requires
delete_tested-r-requires c = now_tested _ _ _ (sym c.if-not-slice_ok.ensures) c.if-work-image.false

pub returns : goal.returns
returns c =
    let call = c.delete_tested-r in
    delete_whole c.args.image.now c.args.len c.args.work.now (sym c.if-not-slice_ok.ensures) c.if-work-image.false (λ k. search rules) call.new.work _
    call.ensures.work_len_unchanged c.clear.ensures.dst_after _ c.args.headword.now _ call.ensures.result_value call.ensures.image_after
