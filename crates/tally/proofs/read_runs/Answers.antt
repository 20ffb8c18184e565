use Rattle.std.proofs.Common.{arith, rules, ap, sym, ◌∙◌, Ok, length-take-le}
use Rattle.std.proofs.lemmas.Result.{err_from_is_err_and}
use Rattle.runs.proofs.SizeLaws.{slice_long}
use Rattle.tally.proofs.RunsLaws.{first_refused, reading_start, reading_turn, reading_end}
use Rattle.tally.proofs.RunsLaws.{given_wait, walk_start, walk_seven, walk_eight, walk_broken, walk_high, walk_on, walk_less, walk_done}
use Rattle.tally.proofs.read_runs.Goals as goal

pub loop-next-init : goal.loop-next-init
loop-next-init c = (
  search rules,
  search rules,
  walk_start _ _ _ _ _ _ _ _ _ (given_wait _ _ _ c.next-next.ensures.steps) c.args.elements.inside c.requires.index_len_bound.0,
)

pub returns-in_err-size : goal.returns-in_err-size
returns-in_err-size c =
    let exit = err_from_is_err_and c.from_residual.result c.from_residual.ensures.1 in
    rw (exit.1, exit.2) (walk_seven _ _ _ _ _ _ _ _ _ _ c.loop-next.invariant.2 _ c.in-Some.is _ c.in_err-size.ensures.value _)

pub returns-in_err-pos : goal.returns-in_err-pos
returns-in_err-pos c =
    let exit = err_from_is_err_and c.from_residual-in_err-pos.result c.from_residual-in_err-pos.ensures.1 in
    rw (exit.1, exit.2)
    (walk_eight _ _ _ _ _ _ _ _ _ _ c.loop-next.invariant.2 _ c.in-Some.is _ c.in_ok-size.ensures.value _ (first_refused _ _ _ _ c.in_err-pos.ensures.started) _)

pub loop-row-init : goal.loop-row-init
loop-row-init c = reading_start _ _ _ _ _ c.in_ok-pos.ensures.started (search rules)

pub read_entry-requires-clause-at_in_bounds : goal.read_entry-requires-clause-at_in_bounds
read_entry-requires-clause-at_in_bounds c = c.loop-row.invariant.inside

pub read_entry-requires-clause-in_bounds : goal.read_entry-requires-clause-in_bounds
read_entry-requires-clause-in_bounds c = let v = c.loop-row.invariant in (v.buffer, v.short, v.clean)

pub overflow_add-count : goal.overflow_add-count
overflow_add-count c =
    let size = c.in_ok-size.ensures.size_inside in
    let v = c.loop-row.invariant in
    omega (arith, size, v.few, v.inside, slice_long _ _ _ _ c.args.area.whole size.2)

pub loop-row-preserved : goal.loop-row-preserved
loop-row-preserved c =
    reading_turn _ _ _ _ _ _ _ c.loop-row.invariant _ _ c.read_entry.ensures.result_after c.read_entry.ensures.inside _
    (c.in-Ok-Some.is ∙ ap Ok c.in-Ok-Some.field-0-is) c.read_entry.ensures.word_len_unchanged

pub slice_bounds-word-end : goal.slice_bounds-word-end
slice_bounds-word-end c =
    let v = c.loop-row.invariant in
    omega (arith, v.short, v.buffer, c.read_entry.ensures.word_len_unchanged)

pub slice_bounds-ends_below-end : goal.slice_bounds-ends_below-end
slice_bounds-ends_below-end c =
    let v = c.loop-row.invariant in
    sym (length-take-le _ _ (omega (arith, v.short, v.buffer, c.read_entry.ensures.word_len_unchanged)))

pub overflow_add-words : goal.overflow_add-words
overflow_add-words c =
    let size = c.in_ok-size.ensures.size_inside in
    let v = c.loop-row.invariant in
    let walked = c.loop-next.invariant.2 in
    omega (arith, size, v.few, v.inside, walked.fewer, walked.few, walked.few_words, slice_long _ _ _ _ c.args.area.whole size.2)

pub returns-in-Err : goal.returns-in-Err
returns-in-Err c =
    walk_broken _ _ _ _ _ _ _ _ _ _ c.loop-next.invariant.2 _ c.in-Some.is _ c.in_ok-size.ensures.value _ _ _ _ c.loop-row.invariant _ _
    c.read_entry.ensures.result_after _ c.in-Err.is _

pub returns-then-not-ends_below : goal.returns-then-not-ends_below
returns-then-not-ends_below c =
    walk_high _ _ _ _ _ _ _ _ _ _ c.loop-next.invariant.2 _ c.in-Some.is _ c.in_ok-size.ensures.value _ _ _
    (reading_end _ _ _ _ _ _ _ c.loop-row.invariant _ _ c.read_entry.ensures.result_after (c.in-Ok-None.is ∙ ap Ok c.in-Ok-None.field-0-is) c.read_entry.ensures.kept)
    _ _ c.next-next-in-Some.ensures.steps _ c.ends_below.ensures c.if-not-ends_below.true _

pub loop-next-smaller : goal.loop-next-smaller
loop-next-smaller c = walk_less _ _ _ _ _ _ _ _ _ _ c.loop-next.invariant.2 _ c.in-Some.is _ _ c.next-next-in-Some.ensures.steps

pub loop-next-preserved : goal.loop-next-preserved
loop-next-preserved c = (
  search rules,
  search rules,
  walk_on _ _ _ _ _ _ _ _ _ _ c.loop-next.invariant.2 _ c.in-Some.is _ c.in_ok-size.ensures.value _ _ _
      (reading_end _ _ _ _ _ _ _ c.loop-row.invariant _ _ c.read_entry.ensures.result_after (c.in-Ok-None.is ∙ ap Ok c.in-Ok-None.field-0-is) c.read_entry.ensures.kept)
      _ _ c.next-next-in-Some.ensures.steps _ c.ends_below.ensures c.if-not-ends_below.false c.args.area.whole _ c.mark_range.ensures,
)

pub returns-in_default : goal.returns-in_default
returns-in_default c = walk_done _ _ _ _ _ _ _ _ _ _ c.loop-next.invariant.2 c.in_default.is
