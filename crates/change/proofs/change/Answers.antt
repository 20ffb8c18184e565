-- `change` meets its contract.
use mathlib.Core.Path.{◌≡◌, refl, ap, ◌∙◌}
use mathlib.Core.Bool.{true}
use native.Mathlib.Omega.{arith}
use lib.ListN.{length, take}
use Rattle.marks.specs.Marks.{marks}
use Rattle.marks.proofs.Laws.{length_marks, length_range}
use Rattle.inspect.proofs.Accepted.{accepted_blocks}
use Rattle.change.specs.Ready.{old_length}
use Rattle.change.specs.Drafted.{Begun}
use Rattle.change.proofs.FinishLaws.{marks_long, change_index, begins, still_ready}
use borrow.Author.Rules.{rules}
use Rattle.change.proofs.change.Goals as goal

pub returns-then-old-p-gt-MOST_INDEX_BLOCKS : goal.returns-then-old-p-gt-MOST_INDEX_BLOCKS
returns-then-old-p-gt-MOST_INDEX_BLOCKS c =
    let a = c.args in
    record {
      changed = change_index a.image.now (old_length a.p.old) _ _ a.p c.requires.drafted c.if-old-p-gt-MOST_INDEX_BLOCKS.true;
      image_len_unchanged = (refl, refl);
    }

pub mark_range-requires : goal.mark_range-requires
mark_range-requires c =
    let p = c.requires in
    omega (arith, p.drafted.inside, accepted_blocks _ _ p.drafted.accepted, p.p_in_bounds.2)

pub grow-requires : goal.grow-requires
grow-requires c =
    let begun : Begun (take (old_length c.args.p.old) c.args.image.now) c.args.p (marks c.mark_range.new.ws) c.args.h.now c.args.body.now c.args.words
    =
    let a = c.args in let p = c.requires in begins a.image.now a.h.now a.body.now a.words a.p (marks a.free.now) (marks c.mark_range.new.ws)
    p.p_in_bounds.0 p.drafted p.free_marked p.plan_counted c.mark_range.ensures (omega (
      arith,
      accepted_blocks _ _ p.drafted.accepted,
      length_marks a.free.now,
      p.p_in_bounds.2,
    )) c.if-old-p-gt-MOST_INDEX_BLOCKS.false p.h_value.0 p.h_value.1 in
    let p = c.requires in
    record { begun = begun; le_g = (c.if-p-gt0.true, p.p_in_bounds.0, p.p_in_bounds.1, search rules) }

pub keep-requires : goal.keep-requires
keep-requires c =
    let begun : Begun (take (old_length c.args.p.old) c.args.image.now) c.args.p (marks c.mark_range.new.ws) c.args.h.now c.args.body.now c.args.words
    =
    let a = c.args in let p = c.requires in begins a.image.now a.h.now a.body.now a.words a.p (marks a.free.now) (marks c.mark_range.new.ws)
    p.p_in_bounds.0 p.drafted p.free_marked p.plan_counted c.mark_range.ensures (omega (
      arith,
      accepted_blocks _ _ p.drafted.accepted,
      length_marks a.free.now,
      p.p_in_bounds.2,
    )) c.if-old-p-gt-MOST_INDEX_BLOCKS.false p.h_value.0 p.h_value.1 in
    let long : length (marks c.mark_range.new.ws) ≡ 163_840 =
    let a = c.args in let p = c.requires in let m = marks_long a.free.now p.p_in_bounds.2 in ap length c.mark_range.ensures ∙ length_range _ _
    true (marks a.free.now) (omega (arith, m, p.drafted.inside, accepted_blocks _ _ p.drafted.accepted)) ∙ m in
    let p = c.requires in
    record {
      ready = still_ready _ c.args.p _ _ _ _ begun long (omega (arith, c.if-p-gt0.false));
      g_value = (omega (arith, c.if-p-gt0.false), p.p_in_bounds.0, p.p_in_bounds.1, search rules);
    }
