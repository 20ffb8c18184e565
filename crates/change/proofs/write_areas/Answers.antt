-- `write_areas` meets its contract.
use mathlib.Core.Path.{◌≡◌, ◌∙◌}
use lib.ListN.{length}
use native.Mathlib.Omega.{arith}
use borrow.Author.Rules.{rules}
use Rattle.change.proofs.AreasLaws.{
  starts_inside,
  area_long,
  area_asks,
  before_stands,
  after_stands,
  moved_asks,
  before_asks,
  run_asks,
  parts_asks,
  after_asks,
  index_end,
  run_inside,
  parts_bytes,
  parts_image,
  parts_marks,
  areas_written,
}
use Rattle.change.proofs.write_areas.Goals as goal

pub overflow_add-front : goal.overflow_add-front
overflow_add-front c = omega (arith, c.requires.ready.accepted.good.2)

pub position-start-requires : goal.position-start-requires
position-start-requires c = omega (arith, c.requires.ready.accepted.good.2, c.requires.ready.few_index)

pub overflow_add-n : goal.overflow_add-n
overflow_add-n c = omega (arith, c.requires.ready.few_index)

pub position-end-requires : goal.position-end-requires
position-end-requires c = omega (arith, c.requires.ready.accepted.good.2, c.requires.ready.few_index)

pub slice_bounds-index-count : goal.slice_bounds-index-count
slice_bounds-index-count c =
    omega (arith, starts_inside _ _ _ _ _ _ c.requires.ready _ c.requires.roomy _ c.position-start.ensures, c.position-start.ensures)

pub slice_bounds-index-start : goal.slice_bounds-index-start
slice_bounds-index-start c =
    omega (arith, starts_inside _ _ _ _ _ _ c.requires.ready _ c.requires.roomy _ c.position-start.ensures, c.position-start.ensures)

pub slice_bounds-index-end : goal.slice_bounds-index-end
slice_bounds-index-end c =
    omega (arith, starts_inside _ _ _ _ _ _ c.requires.ready _ c.requires.roomy _ c.position-start.ensures, c.position-start.ensures)

pub slice_bounds-area-count : goal.slice_bounds-area-count
slice_bounds-area-count c =
    omega (arith, starts_inside _ _ _ _ _ _ c.requires.ready _ c.requires.roomy _ c.position-start.ensures, c.position-start.ensures)

pub slice_bounds-area-start : goal.slice_bounds-area-start
slice_bounds-area-start c =
    omega (arith, starts_inside _ _ _ _ _ _ c.requires.ready _ c.requires.roomy _ c.position-start.ensures, c.position-start.ensures)

pub slice_bounds-area-end : goal.slice_bounds-area-end
slice_bounds-area-end c =
    omega (arith, starts_inside _ _ _ _ _ _ c.requires.ready _ c.requires.roomy _ c.position-start.ensures, c.position-start.ensures)

pub invariant_of-area : goal.invariant_of-area
invariant_of-area c =
    let a = area_asks _ _ _ _ _ _ c.requires.ready _ c.requires.roomy _ c.position-start.ensures in
    record { whole = a.0; few = a.1 }

pub copy_moved-requires : goal.copy_moved-requires
copy_moved-requires c =
    record { all = moved_asks _ _ _ _ _ _ c.requires.ready _ c.requires.roomy _ c.position-start.ensures }

pub entries_start-from-requires : goal.entries_start-from-requires
entries_start-from-requires c = run_asks _ _ _ _ _ _ c.requires.ready _ c.requires.roomy

pub overflow_add-run : goal.overflow_add-run
overflow_add-run c =
    omega (
      arith,
      run_asks _ _ _ _ _ _ c.requires.ready _ c.requires.roomy,
      c.entries_start-from.ensures,
      run_inside _ _ _ _ _ _ c.requires.ready _ c.requires.roomy,
      area_long _ _ _ _ _ _ c.requires.ready _ c.requires.roomy _ c.position-start.ensures,
    )

pub overflow_mul-run : goal.overflow_mul-run
overflow_mul-run c =
    omega (
      arith,
      run_asks _ _ _ _ _ _ c.requires.ready _ c.requires.roomy,
      c.entries_start-from.ensures,
      run_inside _ _ _ _ _ _ c.requires.ready _ c.requires.roomy,
      area_long _ _ _ _ _ _ c.requires.ready _ c.requires.roomy _ c.position-start.ensures,
    )

pub slice_bounds-run-count : goal.slice_bounds-run-count
slice_bounds-run-count c =
    omega (
      arith,
      run_asks _ _ _ _ _ _ c.requires.ready _ c.requires.roomy,
      c.entries_start-from.ensures,
      run_inside _ _ _ _ _ _ c.requires.ready _ c.requires.roomy,
      area_long _ _ _ _ _ _ c.requires.ready _ c.requires.roomy _ c.position-start.ensures,
    )

pub slice_bounds-run-start : goal.slice_bounds-run-start
slice_bounds-run-start c =
    omega (
      arith,
      run_asks _ _ _ _ _ _ c.requires.ready _ c.requires.roomy,
      c.entries_start-from.ensures,
      run_inside _ _ _ _ _ _ c.requires.ready _ c.requires.roomy,
      area_long _ _ _ _ _ _ c.requires.ready _ c.requires.roomy _ c.position-start.ensures,
    )

pub slice_bounds-run-end : goal.slice_bounds-run-end
slice_bounds-run-end c =
    omega (
      arith,
      run_asks _ _ _ _ _ _ c.requires.ready _ c.requires.roomy,
      c.entries_start-from.ensures,
      run_inside _ _ _ _ _ _ c.requires.ready _ c.requires.roomy,
      area_long _ _ _ _ _ _ c.requires.ready _ c.requires.roomy _ c.position-start.ensures,
    )

pub invariant_of-before : goal.invariant_of-before
invariant_of-before c =
    let stands = before_stands _ _ _ _ _ _ c.requires.ready _ c.requires.roomy _ c.position-start.ensures in
    record { width_taken = stands.0; inside = stands.1 }

pub copy_elements-a-requires : goal.copy_elements-a-requires
copy_elements-a-requires c =
    let moved-kept : length c.copy_moved.new.image ≡ length c.args.image.now = c.copy_moved.ensures.image_len_unchanged in
    record { left_in_bounds = before_asks _ _ _ _ _ _ c.requires.ready _ c.requires.roomy _ c.position-start.ensures _ moved-kept }

pub write_parts-b-requires : goal.write_parts-b-requires
write_parts-b-requires c =
    let moved-kept : length c.copy_moved.new.image ≡ length c.args.image.now = c.copy_moved.ensures.image_len_unchanged in
    let before-kept : length c.copy_elements-a.new.dst ≡ length c.args.image.now = c.copy_elements-a.ensures.dst_len_unchanged ∙ moved-kept in
    let whole =
    parts_asks _ _ _ _ _ _ c.requires.ready _ c.requires.roomy _ c.position-start.ensures _ _ _ before-kept c.entries_start-from.ensures.value
    c.copy_elements-a.ensures.value in
    record { h_value = whole.0; width = whole.1.0; parts_fit = whole.1.1 }

pub invariant_of-after : goal.invariant_of-after
invariant_of-after c =
    let stands = after_stands _ _ _ _ _ _ c.requires.ready _ c.requires.roomy _ c.position-start.ensures in
    record { width_taken = stands.0; inside = stands.1 }

pub copy_elements-c-requires : goal.copy_elements-c-requires
copy_elements-c-requires c =
    let moved-kept : length c.copy_moved.new.image ≡ length c.args.image.now =
    c.copy_moved.ensures.image_len_unchanged in
    let before-kept : length c.copy_elements-a.new.dst ≡ length c.args.image.now =
    c.copy_elements-a.ensures.dst_len_unchanged ∙ moved-kept in
    let parts-kept : length c.write_parts-b.new.image ≡ length c.args.image.now =
    c.write_parts-b.ensures.image_len_unchanged.0 ∙ before-kept in
    let asks = after_asks _ _ _ _ _ _ c.requires.ready _ c.requires.roomy _ c.position-start.ensures _ _ _ parts-kept c.copy_elements-a.ensures.value
    (parts_bytes _ _ _ _ _ _ c.requires.ready _ c.requires.roomy _ c.position-start.ensures _ c.entries_start-from.ensures.value _ _
    c.write_parts-b.ensures.parts_put.1) in record { left_in_bounds = asks }

pub overflow_sub-end : goal.overflow_sub-end
overflow_sub-end c =
    omega (
      arith,
      index_end _ _ _ _ _ _ c.requires.ready _ c.requires.roomy _ c.position-start.ensures _ _ _ c.copy_elements-a.ensures.value
          (parts_bytes _ _ _ _ _ _ c.requires.ready _ c.requires.roomy _ c.position-start.ensures _ c.entries_start-from.ensures.value _ _
          c.write_parts-b.ensures.parts_put.1) c.copy_elements-c.ensures.value,
      c.position-end.ensures,
    )

pub fill_zero-requires : goal.fill_zero-requires
fill_zero-requires c =
    let moved-kept : length c.copy_moved.new.image ≡ length c.args.image.now =
    c.copy_moved.ensures.image_len_unchanged in
    let before-kept : length c.copy_elements-a.new.dst ≡ length c.args.image.now =
    c.copy_elements-a.ensures.dst_len_unchanged ∙ moved-kept in
    let parts-kept : length c.write_parts-b.new.image ≡ length c.args.image.now =
    c.write_parts-b.ensures.image_len_unchanged.0 ∙ before-kept in
    let after_kept : length c.copy_elements-c.new.dst ≡ length c.args.image.now =
    c.copy_elements-c.ensures.dst_len_unchanged ∙ parts-kept in
    omega (
      arith,
      index_end _ _ _ _ _ _ c.requires.ready _ c.requires.roomy _ c.position-start.ensures _ _ _ c.copy_elements-a.ensures.value
          (parts_bytes _ _ _ _ _ _ c.requires.ready _ c.requires.roomy _ c.position-start.ensures _ c.entries_start-from.ensures.value _ _
          c.write_parts-b.ensures.parts_put.1) c.copy_elements-c.ensures.value,
      after_kept,
      c.position-end.ensures,
    )

pub shape_of-image : goal.shape_of-image
shape_of-image c =
    let moved-kept : length c.copy_moved.new.image ≡ length c.args.image.now =
    c.copy_moved.ensures.image_len_unchanged in
    let before-kept : length c.copy_elements-a.new.dst ≡ length c.args.image.now =
    c.copy_elements-a.ensures.dst_len_unchanged ∙ moved-kept in
    let parts-kept : length c.write_parts-b.new.image ≡ length c.args.image.now =
    c.write_parts-b.ensures.image_len_unchanged.0 ∙ before-kept in
    let after_kept : length c.copy_elements-c.new.dst ≡ length c.args.image.now =
    c.copy_elements-c.ensures.dst_len_unchanged ∙ parts-kept in
    c.fill_zero.ensures.dst_len_unchanged ∙ after_kept

pub returns-clause-areas : goal.returns-clause-areas
returns-clause-areas c =
    areas_written _ _ _ _ _ _ c.requires.ready _ c.requires.roomy _ c.position-start.ensures _ _ _ _ _ _ _ _ _ c.copy_moved.ensures.image_after
    c.copy_elements-a.ensures.dst_after c.copy_elements-a.ensures.value (parts_image _ _ _ _ _ _ c.requires.ready _ c.requires.roomy _
    c.position-start.ensures _ c.entries_start-from.ensures.value _ _ _ c.write_parts-b.ensures.parts_put.0) (parts_bytes _ _ _ _ _ _
    c.requires.ready _ c.requires.roomy _ c.position-start.ensures _ c.entries_start-from.ensures.value _ _ c.write_parts-b.ensures.parts_put.1)
    c.copy_elements-c.ensures.dst_after c.copy_elements-c.ensures.value c.position-end.ensures c.fill_zero.ensures.dst_after

pub returns-clause-free_after : goal.returns-clause-free_after
returns-clause-free_after c = parts_marks _ _ _ _ _ _ c.requires.ready _
    c.requires.roomy _ c.position-start.ensures _ c.entries_start-from.ensures.value _ c.write_parts-b.ensures.parts_put.2

pub returns-clause-image_len_unchanged : goal.returns-clause-image_len_unchanged
returns-clause-image_len_unchanged c =
    let moved-kept : length c.copy_moved.new.image ≡ length c.args.image.now =
    c.copy_moved.ensures.image_len_unchanged in
    let before-kept : length c.copy_elements-a.new.dst ≡ length c.args.image.now =
    c.copy_elements-a.ensures.dst_len_unchanged ∙ moved-kept in
    let parts-kept : length c.write_parts-b.new.image ≡ length c.args.image.now =
    c.write_parts-b.ensures.image_len_unchanged.0 ∙ before-kept in
    let after_kept : length c.copy_elements-c.new.dst ≡ length c.args.image.now =
    c.copy_elements-c.ensures.dst_len_unchanged ∙ parts-kept in
    (c.fill_zero.ensures.dst_len_unchanged ∙ after_kept, search rules)
