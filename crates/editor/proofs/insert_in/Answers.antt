-- `insert_in` meets its contract.
use native.Mathlib.Omega.{arith}
use Prim.Native.Nat.{ℕ, ◌+◌, ◌-◌}
use mathlib.Core.Path.{◌≡◌, sym, refl}
use mathlib.Core.Logic.{◌⊎◌, inl, inr}
use mathlib.Core.Bool.{true, false}
use Rattle.spec.specs.Entry.{text_ok, attribute_ok}
use lib.ListN.{length, replicate, length-replicate}
use Rattle.editor.proofs.Changes.{text_short, body_made, draft_front, insert_ready, insert_twelve, insert_thirteen, insert_changed}
use Rattle.editor.proofs.insert_in.Goals as goal
use Rattle.editor.proofs.insert_in.Goals.{then-not-text_ok-via-then-not-text_ok, then-not-text_ok-via-else-not-text_ok+then-not-attribute_ok}

pub returns-then-not-headword_ok : goal.returns-then-not-headword_ok
returns-then-not-headword_ok c =
    let p = c.requires in
    let r = insert_twelve c.args.image.now c.args.work.now c.args.v p.accepted_image.0 p.v_in_bounds.0 p.v_in_bounds.1 c.args.headword.now p.may (sym
    c.if-not-headword_ok.ensures) _ _ in
    record { result_value = r.0; image_after = r.1; work_len_unchanged = refl }

pub returns-then-not-text_ok : goal.returns-then-not-text_ok
returns-then-not-text_ok c =
    let p = c.requires in
    let bad : (text_ok c.args.text.now ≡ false) ⊎ ((text_ok c.args.text.now ≡ true) × (attribute_ok c.args.attribute ≡ false)) =
    elim c.then-not-text_ok.branch [
      | then-not-text_ok-via-then-not-text_ok w ↦ inl (sym w.if-not-text_ok.ensures)
      | then-not-text_ok-via-else-not-text_ok+then-not-attribute_ok w ↦ inr (sym w.if-not-text_ok.ensures, sym w.if-not-attribute_ok.ensures)
    ] in
    let r = insert_thirteen c.args.image.now c.args.work.now c.args.v p.accepted_image.0 p.v_in_bounds.0 p.v_in_bounds.1 c.args.headword.now p.may (sym
    c.if-not-headword_ok.ensures) _ _ bad in
    record { result_value = r.0; image_after = r.1; work_len_unchanged = refl }

pub slice_bounds-body-end : goal.slice_bounds-body-end
slice_bounds-body-end c = omega (arith, text_short c.args.text.now (sym c.if-not-text_ok.ensures))

pub change-requires-clause-plan_counted : goal.change-requires-clause-plan_counted
change-requires-clause-plan_counted c =
    let made = body_made c.args.attribute c.args.text.now (replicate 3001 0) _ (1 + length c.args.text.now - 1) c.copy_from_slice.ensures.after (omega (arith, length-replicate {A = ℕ} 3001 0)) in
    insert_ready _ c.args.v c.requires.accepted_image.0 _ (sym c.if-not-headword_ok.ensures) _ (sym c.if-not-text_ok.ensures) _ (sym c.if-not-attribute_ok.ensures) _ made _
    (draft_front _ c.args.v _ _ _ _ _ c.position-len.ensures c.measure_change-p.ensures) _ c.words_after-words.ensures

pub returns : goal.returns
returns c =
    let p = c.requires in
    let made = body_made c.args.attribute c.args.text.now (replicate 3001 0) _ (1 + length c.args.text.now - 1) c.copy_from_slice.ensures.after (omega (arith, length-replicate {A = ℕ} 3001 0)) in
    let r = insert_changed c.args.image.now c.args.work.now c.args.v p.accepted_image.0 p.v_in_bounds.0 p.v_in_bounds.1 c.args.headword.now p.may (sym
    c.if-not-headword_ok.ensures) _ _ (sym c.if-not-text_ok.ensures) (sym c.if-not-attribute_ok.ensures) _ made _ (draft_front _ c.args.v _ _ _ _ _ c.position-len.ensures
    c.measure_change-p.ensures) _ _ c.change.ensures.changed in
    record { result_value = r.0; image_after = r.1; work_len_unchanged = c.change.ensures.image_len_unchanged.1 }
