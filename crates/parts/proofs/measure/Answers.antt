-- `measure` meets its contract.
use mathlib.Core.Path.{refl, ◌∙◌}
use native.Mathlib.Omega.{arith}
use Rattle.parts.proofs.MeasureLaws.{counted, parts_more, bytes_more, blocks_more}
use Rattle.parts.proofs.PartLaws.{used_some, fewer_left}
use Rattle.parts.proofs.Laws.{none_zero, todo_short, measure_start, measure_bounds}
use Rattle.parts.proofs.MetLaws.{met_begun, met_part, met_all}
use Rattle.parts.proofs.measure.Goals as goal

pub advance-cur-requires-clause-longest_headword_in_bounds : goal.advance-cur-requires-clause-longest_headword_in_bounds
advance-cur-requires-clause-longest_headword_in_bounds c = (omega arith, omega arith, none_zero)

pub loop-form-init : goal.loop-form-init
loop-form-init c =
    let a = c.advance-cur.ensures in
    let p = c.requires in
    let b = measure_bounds _ _ _ _ _ _ _ a.result_after a.fresh_value _ _ p.width.0.1 p.width.1 a.cursor_ok p.h_value.0 p.h_value.1 p.h_value.2 in (
      a.word_len_unchanged,
      refl,
      a.cursor_ok,
      measure_start _ _ _ _ _ _ _ a.result_after a.fresh_value _ _,
      b.0,
      b.1,
      b.2,
      met_begun _ _ _ _ _ a.result_after,
    )

pub returns-then-p-eq0 : goal.returns-then-p-eq0
returns-then-p-eq0 c =
    let k = c.loop-form.invariant in
    let p = c.encode_part-p.ensures in
    record {
      measured = counted _ _ _ _ _ _ _ _ k.3 p.used_value c.if-p-eq0.true;
      parts_bound = (omega (arith, k.3.parts_all, k.4), omega (arith, k.3.bytes_all, k.5), omega (arith, k.3.blocks_all, k.6));
      found_value = met_all _ _ _ _ (met_part _ _ _ _ _ _ k.7 p.met) (p.none_ahead c.if-p-eq0.true);
    }

pub head_length-requires : goal.head_length-requires
head_length-requires c = (
  omega (arith, used_some _ _ _ c.encode_part-p.ensures.used_value c.if-p-eq0.false),
  omega (arith, c.encode_part-p.ensures.used_le_longest_entry.0, c.encode_part-p.ensures.used_le_longest_entry.1, c.loop-form.invariant.1),
)

pub loop-form-smaller : goal.loop-form-smaller
loop-form-smaller c =
    fewer_left _ _ _ c.encode_part-p.ensures.used_value c.if-p-eq0.false _
    c.encode_part-p.ensures.cursor_after

pub loop-form-preserved : goal.loop-form-preserved
loop-form-preserved c = (
  c.encode_part-p.ensures.used_le_longest_entry.2 ∙ c.loop-form.invariant.0,
  c.encode_part-p.ensures.used_le_longest_entry.1 ∙ c.loop-form.invariant.1,
  c.encode_part-p.ensures.next_cursor_ok,
  record {
    parts_all = parts_more _ _ _ _ _ _ _ _ c.loop-form.invariant.3 c.encode_part-p.ensures.used_value
        c.if-p-eq0.false _ c.encode_part-p.ensures.cursor_after;
    bytes_all = bytes_more _ _ _ _ _ _ _ _ c.loop-form.invariant.3 c.encode_part-p.ensures.used_value
        c.if-p-eq0.false _ c.encode_part-p.ensures.cursor_after _ _ _
        (todo_short _ _ _ _ _ _ c.loop-form.invariant.2 c.requires.h_value.0
        c.requires.h_value.1)
        c.encode_part-p.ensures.part_after c.head_length.ensures.value;
    blocks_all = blocks_more _ _ _ _ _ _ _ _ c.loop-form.invariant.3 c.encode_part-p.ensures.used_value
        c.if-p-eq0.false _ c.encode_part-p.ensures.cursor_after _ c.run_blocks-blocks.ensures.value;
  },
  c.loop-form.invariant.4,
  c.loop-form.invariant.5,
  c.loop-form.invariant.6,
  met_part _ _ _ _ _ _ c.loop-form.invariant.7 c.encode_part-p.ensures.met,
)
