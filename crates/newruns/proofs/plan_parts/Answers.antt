-- `plan_parts` meets its contract.
use mathlib.Core.Path.{refl}
use native.Mathlib.Omega.{arith}
use Rattle.parts.proofs.Laws.{none_zero, begun_todo}
use Rattle.newruns.proofs.Laws.{planning_start, planning_more, planned, planned_over}
use Rattle.parts.proofs.PartLaws.{none_left, fewer_left}
use Rattle.newruns.proofs.plan_parts.Goals as goal

pub advance-cur-requires-clause-longest_headword_in_bounds : goal.advance-cur-requires-clause-longest_headword_in_bounds
advance-cur-requires-clause-longest_headword_in_bounds c = (omega arith, omega arith, none_zero)

pub loop-form-init : goal.loop-form-init
loop-form-init c = (
  c.advance-cur.ensures.word_len_unchanged,
  refl,
  c.advance-cur.ensures.cursor_ok,
  refl,
  omega arith,
  omega arith,
  omega arith,
  omega arith,
  omega arith,
  planning_start _ _ _ _ _ _ (begun_todo _ _ _ _ _ _ _ c.advance-cur.ensures.result_after c.advance-cur.ensures.fresh_value),
)

pub returns-then-p-eq0-clause-within : goal.returns-then-p-eq0-clause-within
returns-then-p-eq0-clause-within c =
    planned _ _ _ _ _ _ _ _ c.loop-form.invariant.9 _ (none_left _ _ _ c.encode_part-p.ensures.used_value c.if-p-eq0.true)

pub returns-then-most-last-clause-within : goal.returns-then-most-last-clause-within
returns-then-most-last-clause-within c = planned_over _ _ _ _ _ _ _ _ (planning_more _ _ _ c.encode_part-p.ensures.used_value c.if-p-eq0.false _
    c.encode_part-p.ensures.cursor_after _ _ _ _ _ _ _ c.run_blocks-size.ensures.value c.place.ensures.value
    c.max-last.ensures c.place.ensures.free_after _ _ _ c.loop-form.invariant.9) _ c.if-most-last.true

pub loop-form-smaller : goal.loop-form-smaller
loop-form-smaller c = fewer_left _ _ _ c.encode_part-p.ensures.used_value c.if-p-eq0.false _ c.encode_part-p.ensures.cursor_after

pub loop-form-preserved : goal.loop-form-preserved
loop-form-preserved c = (
  omega arith,
  omega arith,
  c.encode_part-p.ensures.next_cursor_ok,
  omega arith,
  omega arith,
  omega arith,
  omega arith,
  omega arith,
  omega arith,
  planning_more _ _ _ c.encode_part-p.ensures.used_value c.if-p-eq0.false _ c.encode_part-p.ensures.cursor_after _ _ _ _ _ _ _
      c.run_blocks-size.ensures.value c.place.ensures.value c.max-last.ensures c.place.ensures.free_after _ _ _
      c.loop-form.invariant.9,
)
