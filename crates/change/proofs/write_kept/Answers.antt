-- `write_kept` meets its contract.
use mathlib.Core.Path.{refl}
use native.Mathlib.Omega.{arith}
use Rattle.change.proofs.FinishLaws.{ready_form, ready_few}
use Rattle.change.proofs.KeptLaws.{end_inside, at_inside, kept_asks, kept_marks, new_inside, kept_areas}
use borrow.Author.Rules.{rules}
use Rattle.change.proofs.write_kept.Goals as goal

pub overflow_sub-rest : goal.overflow_sub-rest
overflow_sub-rest c = end_inside _ _ _ _ _ _ c.requires.ready _ c.requires.roomy c.requires.g_value.0 (λ k. search rules)

pub save_old-size-requires-clause-good_form : goal.save_old-size-requires-clause-good_form
save_old-size-requires-clause-good_form c = (
  ready_form _ _ _ _ _ _ c.requires.ready,
  omega (arith, c.requires.ready.few_index),
  omega (arith, ready_few _ _ _ _ _ _ c.requires.ready),
)

pub save_old-size-requires-clause-size_bound : goal.save_old-size-requires-clause-size_bound
save_old-size-requires-clause-size_bound c = (
  c.requires.ready.inside,
  end_inside _ _ _ _ _ _ c.requires.ready _ c.requires.roomy c.requires.g_value.0 (λ k. search rules),
)

pub overflow_add-front-2 : goal.overflow_add-front-2
overflow_add-front-2 c =
    omega (
      arith,
      at_inside _ _ _ _ _ _ c.requires.ready _ c.requires.roomy c.requires.g_value.0 (λ k. search rules),
      c.requires.ready.few_index,
      (ready_form _ _ _ _ _ _ c.requires.ready).2,
    )

pub write_parts-b-requires : goal.write_parts-b-requires
write_parts-b-requires c =
    let whole =
    kept_asks _ _ _ _ _ _ c.requires.ready _ c.requires.roomy c.requires.g_value.0 (λ k. search rules) _ _
    c.save_old-size.ensures.saved _ refl in
    record { h_value = whole.0; width = whole.1.0; parts_fit = whole.1.1 }

pub put_rest-requires : goal.put_rest-requires
put_rest-requires c =
    let i = new_inside _ _ _ _ _ _ c.requires.ready _ c.requires.roomy c.requires.g_value.0 (λ k. search rules)
    _ _ c.save_old-size.ensures.saved _ c.write_parts-b.ensures.parts_put.1 in
    (omega (arith, i.0, c.position-start.ensures), omega (arith, i.1, c.position-start.ensures, c.write_parts-b.ensures.image_len_unchanged.0))

pub returns-clause-areas : goal.returns-clause-areas
returns-clause-areas c = kept_areas _ _ _ _ _ _ c.requires.ready _ c.requires.roomy c.requires.g_value.0 (λ k. search rules)
    _ _ c.save_old-size.ensures.saved _ c.write_parts-b.ensures.parts_put.1 _ _ _ c.position-start.ensures
    c.write_parts-b.ensures.parts_put.0 c.write_parts-b.ensures.image_len_unchanged.0 c.put_rest.ensures.image_after

pub returns-clause-free_after : goal.returns-clause-free_after
returns-clause-free_after c =
    kept_marks _ _ _ _ _ _ c.requires.ready _ c.requires.roomy c.requires.g_value.0 (λ k. search rules) _ _
    c.save_old-size.ensures.saved _ c.write_parts-b.ensures.parts_put.2
