-- `optimise` meets its contract.
use mathlib.Core.Path.{sym}
use borrow.Author.Rules.{rules}
use Rattle.editor.proofs.Rows.{optimise_slice, optimise_short, now_tested, optimise_whole, optimise_promised}
use Rattle.editor.proofs.optimise.Goals as goal

pub returns-then-not-slice_ok : goal.returns-then-not-slice_ok
returns-then-not-slice_ok c =
    let whole = optimise_promised c.args.image.now c.args.len c.args.work.now (λ k. search rules) _ _ _ (optimise_slice _ _ _ (sym c.if-not-slice_ok.ensures)) in
    record { work_after = whole.0; never_fifteen = whole.1.0; known_number = whole.1.1 }

pub returns-then-work-image : goal.returns-then-work-image
returns-then-work-image c =
    let short = optimise_short _ _ _ (sym c.if-not-slice_ok.ensures) c.if-work-image.true in
    let whole = optimise_promised c.args.image.now c.args.len c.args.work.now (λ k. search rules) _ _ _ short in
    record { work_after = whole.0; never_fifteen = whole.1.0; known_number = whole.1.1 }

pub optimise_tested-r-requires : goal.optimise_tested-r-requires
optimise_tested-r-requires c = now_tested _ _ _ (sym c.if-not-slice_ok.ensures) c.if-work-image.false

pub returns : goal.returns
returns c =
    let call = c.optimise_tested-r in
    let done = optimise_whole c.args.image.now c.args.len c.args.work.now (sym c.if-not-slice_ok.ensures) c.if-work-image.false (λ k. search rules) call.new.work _
    call.ensures.work_len_unchanged c.clear.ensures.dst_after _ _ call.ensures.result_value call.ensures.image_after in
    let whole = optimise_promised c.args.image.now c.args.len c.args.work.now (λ k. search rules) _ _ _ done in
    record { work_after = whole.0; never_fifteen = whole.1.0; known_number = whole.1.1 }
