-- `write_parts` meets its contract.
use Prim.Native.Nat.{◌+◌, ◌-◌, ◌*◌, ◌≤◌}
use mathlib.Core.Path.{refl, ◌∙◌}
use native.Mathlib.Omega.{arith}
use lib.ListN.{length}
use Rattle.parts.proofs.PartLaws.{none_left, used_some, fewer_left}
use Rattle.parts.proofs.Laws.{none_zero, begun_todo, todo_short}
use Rattle.newruns.proofs.Laws.{planning_under, run_fits, writing_start, writing_more, written_image, written_size, written_free, length_lent, run_room, element_fits, element_past, head_stands, part_stored}
use Rattle.newruns.proofs.write_parts.Goals as goal

pub advance-cur-requires-clause-longest_headword_in_bounds : goal.advance-cur-requires-clause-longest_headword_in_bounds
advance-cur-requires-clause-longest_headword_in_bounds c = (omega arith, omega arith, none_zero)

pub loop-form-init : goal.loop-form-init
loop-form-init c =
    let p = c.requires in
    let a = c.advance-cur.ensures in (
      a.word_len_unchanged,
      refl,
      a.cursor_ok,
      refl,
      refl,
      p.width.2,
      p.parts_fit.0.0,
      p.parts_fit.0.1,
      p.parts_fit.1,
      writing_start _ _ _ _ _ _ _ _ _ _ _ (begun_todo _ _ _ _ _ _ _ a.result_after a.fresh_value),
    )

pub returns-then-p-eq0-clause-parts_put : goal.returns-then-p-eq0-clause-parts_put
returns-then-p-eq0-clause-parts_put c =
    let none = none_left _ _ _ c.encode_part-p.ensures.used_value c.if-p-eq0.true in
    let w = c.loop-form.invariant.9 in (
      written_image _ _ _ _ _ _ _ _ _ _ _ _ _ _ _ w none,
      written_size _ _ _ _ _ _ _ _ _ _ _ _ _ _ _ w none,
      written_free _ _ _ _ _ _ _ _ _ _ _ _ _ _ _ w none,
    )

pub place-b-requires : goal.place-b-requires
place-b-requires c = (omega arith, omega (arith, planning_under _ _ _ _ _ _ _ _ c.loop-form.invariant.9.planning), omega arith)

pub overflow_add-b : goal.overflow_add-b
overflow_add-b c = omega (arith, planning_under _ _ _ _ _ _ _ _ c.loop-form.invariant.9.planning, c.loop-form.invariant.7)

pub position-start-requires : goal.position-start-requires
position-start-requires c =
    let i = c.loop-form.invariant in
    let p = c.encode_part-p.ensures in
    let fits = run_fits _ _ _ p.used_value c.if-p-eq0.false _ p.cursor_after _ _ _ _ _ _ _ c.run_blocks-size.ensures.value c.place-b.ensures.value refl refl _ _ _
    i.9.planning _ _ _ _ i.7 refl in
    omega (arith, fits)

pub slice_bounds-write_run-count : goal.slice_bounds-write_run-count
slice_bounds-write_run-count c =
    let i = c.loop-form.invariant in
    let p = c.encode_part-p.ensures in
    let fits = run_fits _ _ _ p.used_value c.if-p-eq0.false _ p.cursor_after _ _ _ _ _ _ _ c.run_blocks-size.ensures.value c.place-b.ensures.value refl refl _ _ _
    i.9.planning _ _ _ _ i.7 c.position-start.ensures in
    omega (arith, fits, i.3)

pub slice_bounds-write_run-start : goal.slice_bounds-write_run-start
slice_bounds-write_run-start c =
    let i = c.loop-form.invariant in
    let p = c.encode_part-p.ensures in
    let fits = run_fits _ _ _ p.used_value c.if-p-eq0.false _ p.cursor_after _ _ _ _ _ _ _ c.run_blocks-size.ensures.value c.place-b.ensures.value refl refl _ _ _
    i.9.planning _ _ _ _ i.7 c.position-start.ensures in
    omega (arith, fits, i.3)

pub write_run-requires-clause-entries_in_bounds : goal.write_run-requires-clause-entries_in_bounds
write_run-requires-clause-entries_in_bounds c =
    let i = c.loop-form.invariant in
    let p = c.encode_part-p.ensures in
    let n = c.run_blocks-size.ensures.value in
    let fits = run_fits _ _ _ p.used_value c.if-p-eq0.false _ p.cursor_after _ _ _ _ _ _ _ n c.place-b.ensures.value refl refl _ _ _ i.9.planning _ _ _ _ i.7
    c.position-start.ensures in
    (run_room _ _ _ _ _ c.loop-form.image p.used_le_longest_entry.0 (omega (arith, p.used_le_longest_entry, i.1)) n refl (omega (arith, fits, i.3))).1

pub head_length-end-requires : goal.head_length-end-requires
head_length-end-requires c =
    let p = c.encode_part-p.ensures in
    (omega (arith, used_some _ _ _ p.used_value c.if-p-eq0.false), omega (arith, p.used_le_longest_entry, c.loop-form.invariant.1))

pub put_element-out-requires : goal.put_element-out-requires
put_element-out-requires c =
    let i = c.loop-form.invariant in
    let p = c.encode_part-p.ensures in
    let n = c.run_blocks-size.ensures.value in
    let at = c.place-b.ensures.value in
    let fits = run_fits _ _ _ p.used_value c.if-p-eq0.false _ p.cursor_after _ _ _ _ _ _ _ n at refl refl _ _ _ i.9.planning _ _ _ _ i.7 c.position-start.ensures in
    let kept = length_lent _ _ c.loop-form.image c.write_run.new.dst refl (omega (arith, fits, i.3)) c.write_run.ensures.dst_len_unchanged in
    let head = head_stands _ _ _ _ _ p.used_value p.part_after c.if-p-eq0.false (todo_short _ _ _ _ _ _ i.2 c.requires.h_value.0 c.requires.h_value.1) _
    c.head_length-end.ensures.value (3 + c.head_length-end.result - 3) (omega arith) in (
      c.requires.width.0,
      element_fits _ _ _ p.used_value c.if-p-eq0.false _ p.cursor_after _ _ _ _ _ _ _ n at refl refl _ _ _ _ _ _ _ _ _ _ _ _ head i.9 i.8 i.3 kept,
    )

pub loop-form-smaller : goal.loop-form-smaller
loop-form-smaller c = fewer_left _ _ _ c.encode_part-p.ensures.used_value c.if-p-eq0.false _ c.encode_part-p.ensures.cursor_after

pub loop-form-preserved : goal.loop-form-preserved
loop-form-preserved c =
    let i = c.loop-form.invariant in
    let p = c.encode_part-p.ensures in
    let n = c.run_blocks-size.ensures.value in
    let at = c.place-b.ensures.value in
    let here = c.position-start.ensures in
    let there : c.position-start.result + 256 * c.run_blocks-size.result ≤ length c.loop-form.image =
    let fits = run_fits _ _ _ p.used_value c.if-p-eq0.false _ p.cursor_after _ _ _ _ _ _ _ n at refl refl _ _ _ i.9.planning _ _ _ _ i.7 here in omega (arith, fits, i.3) in
    let kept = length_lent _ _ c.loop-form.image c.write_run.new.dst refl (omega (arith, there)) c.write_run.ensures.dst_len_unchanged in
    let head = head_stands _ _ _ _ _ p.used_value p.part_after c.if-p-eq0.false (todo_short _ _ _ _ _ _ i.2 c.requires.h_value.0 c.requires.h_value.1) _
    c.head_length-end.ensures.value (3 + c.head_length-end.result - 3) (omega arith) in
    let stored = part_stored _ _ _ _ _ p.used_value p.part_after _ _ _ _ _ _ _ _ _ _ n refl there c.write_run.ensures.dst_after head c.put_element-out.ensures.dst_after in (
      p.used_le_longest_entry.2 ∙ i.0,
      p.used_le_longest_entry.1 ∙ i.1,
      p.next_cursor_ok,
      c.put_element-out.ensures.dst_len_unchanged ∙ kept ∙ i.3,
      c.place-b.ensures.free_len_unchanged ∙ i.4,
      omega (arith, c.max-last.ensures, i.5),
      i.6,
      i.7,
      i.8,
      writing_more _ _ _ p.used_value c.if-p-eq0.false _ p.cursor_after _ _ _ _ _ _ _ n at c.max-last.ensures c.place-b.ensures.free_after _ _ _ _ _ _ _ _ _
          _ _ _ _ here stored (element_past _ _ _ _ _ _ head c.put_element-out.ensures.value) i.9,
    )
