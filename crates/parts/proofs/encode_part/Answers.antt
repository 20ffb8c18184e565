-- `encode_part` meets its contract.
use mathlib.Core.Path.{◌∙◌}
use native.Mathlib.Omega.{arith}
use Rattle.spec.proofs.RunLaws.{head_bounds}
use Rattle.parts.proofs.Laws.{first_bytes, part_done, part_skips, part_full_old, part_keeps, part_full_new, part_enters, skip_less, old_less, new_less, skip_placed, old_placed, word_few, body_few, cursor_taken}
use Rattle.parts.proofs.MetLaws.{met_skip, met_old, met_new, met_done, full_some}
use Rattle.parts.proofs.encode_part.Goals as goal

pub next_turn-t-requires : goal.next_turn-t-requires
next_turn-t-requires c = λ e p. omega (arith, (c.loop-e.invariant.5.placed e p).short, c.loop-e.invariant.5.room)

-- ---- an old entry is dropped
pub advance-cursor-requires-clause-at_in_bounds : goal.advance-cursor-requires-clause-at_in_bounds
advance-cursor-requires-clause-at_in_bounds c = (skip_placed _ _ _ _ _ _ c.next_turn-t.ensures c.loop-e.invariant.5 _ c.in-Skip.is).inside

pub advance-cursor-requires-clause-longest_headword_in_bounds : goal.advance-cursor-requires-clause-longest_headword_in_bounds
advance-cursor-requires-clause-longest_headword_in_bounds c =
    let k = c.loop-e.invariant.5 in
    let p = skip_placed _ _ _ _ _ _ c.next_turn-t.ensures k _ c.in-Skip.is in
    (k.room, p.short, p.clean)

pub loop-e-smaller-in-Skip : goal.loop-e-smaller-in-Skip
loop-e-smaller-in-Skip c =
    skip_less _ _ _ _ _ _ c.next_turn-t.ensures _ _ _ c.advance-cursor.ensures.result_after c.advance-cursor.ensures.fresh_value c.in-Skip.is

pub loop-e-preserved-in-Skip : goal.loop-e-preserved-in-Skip
loop-e-preserved-in-Skip c =
    let l = c.loop-e.invariant in
    let a = c.advance-cursor.ensures in
    let t = c.next_turn-t.ensures in (
      l.0,
      l.1,
      l.2,
      a.word_len_unchanged ∙ l.3,
      l.4,
      a.cursor_ok,
      part_skips _ _ _ _ _ _ _ _ _ _ _ _ _ t l.6 _ _ _ c.in-Skip.is a.result_after a.fresh_value,
      met_skip _ _ _ _ _ _ t _ _ l.7 _ _ _ a.result_after c.in-Skip.is,
    )

-- ---- an old entry is kept
pub overflow_add-old_body : goal.overflow_add-old_body
overflow_add-old_body c =
    let p = old_placed _ _ _ _ _ _ c.next_turn-t.ensures c.loop-e.invariant.5 _ c.in-Old.is in
    omega (arith, p.body)

pub slice_bounds-old_body-count : goal.slice_bounds-old_body-count
slice_bounds-old_body-count c =
    let p = old_placed _ _ _ _ _ _ c.next_turn-t.ensures c.loop-e.invariant.5 _ c.in-Old.is in
    omega (arith, p.body)

pub slice_bounds-old_body-start : goal.slice_bounds-old_body-start
slice_bounds-old_body-start c =
    let p = old_placed _ _ _ _ _ _ c.next_turn-t.ensures c.loop-e.invariant.5 _ c.in-Old.is in
    omega (arith, p.body)

pub slice_bounds-old_body-end : goal.slice_bounds-old_body-end
slice_bounds-old_body-end c = (old_placed _ _ _ _ _ _ c.next_turn-t.ensures c.loop-e.invariant.5 _ c.in-Old.is).inside

pub slice_bounds-append-end-in-Old : goal.slice_bounds-append-end-in-Old
slice_bounds-append-end-in-Old c =
    let p = old_placed _ _ _ _ _ _ c.next_turn-t.ensures c.loop-e.invariant.5 _ c.in-Old.is in
    omega (arith, p.short, c.loop-e.invariant.5.room)

pub slice_bounds-append-end-in-Old-2 : goal.slice_bounds-append-end-in-Old-2
slice_bounds-append-end-in-Old-2 c =
    let p = old_placed _ _ _ _ _ _ c.next_turn-t.ensures c.loop-e.invariant.5 _ c.in-Old.is in
    first_bytes _ _ (omega (arith, p.short, c.loop-e.invariant.5.room))

pub append-fit-requires-clause-in_bounds : goal.append-fit-requires-clause-in_bounds
append-fit-requires-clause-in_bounds c =
    let p = old_placed _ _ _ _ _ _ c.next_turn-t.ensures c.loop-e.invariant.5 _ c.in-Old.is in
    let w = word_few _ _ c.loop-e.invariant.5.room p.some p.short in
    (w.0, w.1, body_few _ _ _ p.body_short)

pub advance-cursor-requires-in-Old-clause-at_in_bounds : goal.advance-cursor-requires-in-Old-clause-at_in_bounds
advance-cursor-requires-in-Old-clause-at_in_bounds c = (old_placed _ _ _ _ _ _ c.next_turn-t.ensures c.loop-e.invariant.5 _ c.in-Old.is).inside

pub advance-cursor-requires-in-Old-clause-longest_headword_in_bounds : goal.advance-cursor-requires-in-Old-clause-longest_headword_in_bounds
advance-cursor-requires-in-Old-clause-longest_headword_in_bounds c =
    let k = c.loop-e.invariant.5 in
    let p = old_placed _ _ _ _ _ _ c.next_turn-t.ensures k _ c.in-Old.is in
    (k.room, p.short, p.clean)

pub loop-e-smaller-in-Old : goal.loop-e-smaller-in-Old
loop-e-smaller-in-Old c =
    old_less _ _ _ _ _ _ c.next_turn-t.ensures _ _ _ c.advance-cursor-in-Old.ensures.result_after c.advance-cursor-in-Old.ensures.fresh_value c.in-Old.is

pub loop-e-preserved-in-Old : goal.loop-e-preserved-in-Old
loop-e-preserved-in-Old c =
    let l = c.loop-e.invariant in
    let a = c.advance-cursor-in-Old.ensures in
    let f = c.append-fit.ensures in
    let t = c.next_turn-t.ensures in
    let p = old_placed _ _ _ _ _ _ t l.5 _ c.in-Old.is in (
      p.short,
      (f.appended.1 _ c.in-Some.is).4,
      f.part_len_unchanged.1 ∙ l.2,
      a.word_len_unchanged ∙ l.3,
      f.part_len_unchanged.0 ∙ l.4,
      a.cursor_ok,
      part_keeps _ _ _ _ _ _ _ _ _ _ _ _ _ t l.6 _ _ _ _ f.appended _ _ c.in-Old.is _ c.in-Some.is (omega (arith, l.1, l.4, c.requires.h_value.2)) (omega
          (arith, p.short, l.5.room)) a.result_after a.fresh_value,
      met_old _ _ _ _ _ _ t _ _ l.7 _ _ _ a.result_after c.in-Old.is,
    )

-- ---- the new entry enters
pub append-fit-requires-in-New-clause-in_bounds : goal.append-fit-requires-in-New-clause-in_bounds
append-fit-requires-in-New-clause-in_bounds c =
    let b = head_bounds _ c.requires.h_value.0 in
    (b.0, b.1, c.requires.h_value.1)

pub loop-e-smaller : goal.loop-e-smaller
loop-e-smaller c = new_less _ _ _ _ _ _ c.next_turn-t.ensures c.in-New.is

pub loop-e-preserved : goal.loop-e-preserved
loop-e-preserved c =
    let l = c.loop-e.invariant in
    let f = c.append-fit-in-New.ensures in (
      (head_bounds _ c.requires.h_value.0).1,
      (f.appended.1 _ c.in-Some-fit.is).4,
      f.part_len_unchanged.1 ∙ l.2,
      l.3,
      f.part_len_unchanged.0 ∙ l.4,
      cursor_taken _ _ _ l.5,
      part_enters _ _ _ _ _ _ _ _ _ _ _ _ _ c.next_turn-t.ensures l.6 _ _ _ c.in-New.is f.appended _ c.in-Some-fit.is (omega (
        arith,
        l.1,
        l.4,
        c.requires.h_value.2,
      )),
      met_new _ _ _ _ _ _ _ l.7,
    )

-- ---- the part is done
pub returns-in-Done : goal.returns-in-Done
returns-in-Done c =
    let l = c.loop-e.invariant in
    let f = part_done _ _ _ _ _ _ _ _ _ _ _ _ _ c.next_turn-t.ensures l.6 c.in-Done.is in
    record {
      part_after = f.whole;
      used_value = f.size;
      cursor_after = f.behind;
      next_cursor_ok = l.5;
      used_le_longest_entry = (l.1, l.4, l.3);
      met = l.7;
      none_ahead = λ z. met_done _ _ _ _ _ _ c.next_turn-t.ensures c.in-Done.is;
    }

pub returns-in_default : goal.returns-in_default
returns-in_default c =
    let l = c.loop-e.invariant in
    let a = c.append-fit.ensures in
    let f = part_full_old _ _ _ _ _ _ _ _ _ _ _ _ _ c.next_turn-t.ensures l.6 _ _ _ _ a.appended c.in-Old.is c.in_default.is in
    record {
      part_after = f.whole;
      used_value = f.size;
      cursor_after = f.behind;
      next_cursor_ok = l.5;
      used_le_longest_entry = (l.1, a.part_len_unchanged.0 ∙ l.4, l.3);
      met = l.7;
      none_ahead = λ z. absurd (full_some _ _ _ _ _ _ _ _ a.appended c.in_default.is z);
    }

pub returns-in_default-fit : goal.returns-in_default-fit
returns-in_default-fit c =
    let l = c.loop-e.invariant in
    let a = c.append-fit-in-New.ensures in
    let f = part_full_new _ _ _ _ _ _ _ _ _ _ _ _ _ c.next_turn-t.ensures l.6 _ _ _ c.in-New.is a.appended c.in_default-fit.is in
    record {
      part_after = f.whole;
      used_value = f.size;
      cursor_after = f.behind;
      next_cursor_ok = l.5;
      used_le_longest_entry = (l.1, a.part_len_unchanged.0 ∙ l.4, l.3);
      met = l.7;
      none_ahead = λ z. absurd (full_some _ _ _ _ _ _ _ _ a.appended c.in_default-fit.is z);
    }
