-- `measure_change` meets its contract.
use mathlib.Core.Path.{refl}
use native.Mathlib.Omega.{arith}
use Rattle.inspect.proofs.Accepted.{accepted_index, accepted_blocks, accepted_area, accepted_inside}
use Rattle.change.proofs.Laws.{run_short}
use Rattle.change.proofs.FinishLaws.{index_short, element_short, blocks_short, drafted}
use Rattle.change.proofs.measure_change.Goals as goal

pub position-start-requires : goal.position-start-requires
position-start-requires c = omega (arith, accepted_index _ _ c.requires.accepted_image)

pub slice_bounds-elements-end : goal.slice_bounds-elements-end
slice_bounds-elements-end c = omega (arith, accepted_index _ _ c.requires.accepted_image, c.position-start.ensures)

pub slice_bounds-area-count : goal.slice_bounds-area-count
slice_bounds-area-count c = omega (arith, accepted_index _ _ c.requires.accepted_image, c.position-start.ensures)

pub slice_bounds-area-start : goal.slice_bounds-area-start
slice_bounds-area-start c = omega (arith, accepted_index _ _ c.requires.accepted_image, c.position-start.ensures)

pub nindex2-requires : goal.nindex2-requires
nindex2-requires c = omega (arith, accepted_index _ _ c.requires.accepted_image)

pub invariant_of-elements : goal.invariant_of-elements
invariant_of-elements c =
    let a = c.requires.accepted_image in
    record { width_taken = a.good.0; inside = accepted_inside _ _ a _ c.position-start.ensures _ c.nindex2.ensures.value }

pub invariant_of-area : goal.invariant_of-area
invariant_of-area c =
    let a = c.requires.accepted_image in
    record { whole = omega (arith, accepted_area _ _ a _ c.position-start.ensures c.requires.image_len.0); few = omega (arith, accepted_blocks _ _ a) }

pub entries_start-from-requires : goal.entries_start-from-requires
entries_start-from-requires c = omega (arith, c.find_run-t.ensures.size_bound.0, accepted_blocks _ _ c.requires.accepted_image)

pub overflow_mul-t : goal.overflow_mul-t
overflow_mul-t c = omega (arith, c.find_run-t.ensures.size_bound.0, accepted_blocks _ _ c.requires.accepted_image)

pub slice_bounds-measure-end : goal.slice_bounds-measure-end
slice_bounds-measure-end c =
    omega (arith, c.find_run-t.ensures.size_bound.0, accepted_area _ _ c.requires.accepted_image _ c.position-start.ensures c.requires.image_len.0)

pub measure-m-requires : goal.measure-m-requires
measure-m-requires c =
    let good = c.requires.accepted_image.good in
    record {
      h_value = (
        c.requires.image_len.1,
        c.requires.image_len.2,
        run_short _ _ _ _ c.entries_start-from.ensures.value
            c.find_run-t.ensures.size_bound.1,
      );
      width = (good.0, omega (arith, good.1));
    }

pub overflow_sub-bytes-2 : goal.overflow_sub-bytes-2
overflow_sub-bytes-2 c =
    element_short _ _ c.requires.accepted_image _ c.position-start.ensures _ c.nindex2.ensures.value _ _ c.find_run-t.ensures.target_told

pub overflow_add-bytes : goal.overflow_add-bytes
overflow_add-bytes c =
    let m = c.measure-m.ensures.parts_bound in
    let i = index_short _ _ c.requires.accepted_image in
    omega (arith, m.1, i)

pub growth-g-requires : goal.growth-g-requires
growth-g-requires c =
    let m = c.measure-m.ensures.parts_bound in
    let i = index_short _ _ c.requires.accepted_image in
    omega (arith, m.1, i)

pub nblock2-requires : goal.nblock2-requires
nblock2-requires c = omega (arith, accepted_index _ _ c.requires.accepted_image)

pub overflow_sub-blocks : goal.overflow_sub-blocks
overflow_sub-blocks c =
    blocks_short _ _ c.requires.accepted_image _ c.position-start.ensures _ c.nindex2.ensures.value _ _ c.find_run-t.ensures.target_told _
    c.nblock2.ensures.value

pub returns : goal.returns
returns c =
    let a = c.args in
    let m = c.measure-m.ensures in (
      refl,
      refl,
      drafted a.image.now a.old c.requires.accepted_image _ c.position-start.ensures _ c.nindex2.ensures.value a.h.now c.find_run-t.result
          c.find_run-t.ensures.target_told a.body.now a.fresh _ _ _ _ _ _ _ c.find_run-t.ensures.size_bound.0 c.entries_start-from.ensures.value
          m.measured c.nblock2.ensures.value c.growth-g.ensures m.parts_bound.1 m.found_value,
    )
