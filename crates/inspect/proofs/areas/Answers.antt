-- `areas` meets its contract.
use Rattle.std.proofs.Common.{arith, ap, List, ℕ, Bor}
use Rattle.inspect.proofs.Accepted.{accepted_index, accepted_blocks, accepted_area, accepted_inside, runs_same}
use Rattle.inspect.proofs.areas.Goals as goal

pub position-start-requires : goal.position-start-requires
position-start-requires c = omega (arith, accepted_index _ _ c.requires.accepted_image)

pub nindex2-count-requires : goal.nindex2-count-requires
nindex2-count-requires c = omega (arith, accepted_index _ _ c.requires.accepted_image)

pub slice_bounds-index-end : goal.slice_bounds-index-end
slice_bounds-index-end c = omega (arith, accepted_index _ _ c.requires.accepted_image)

pub slice_bounds-data-count : goal.slice_bounds-data-count
slice_bounds-data-count c = omega (arith, accepted_index _ _ c.requires.accepted_image)

pub slice_bounds-data-start : goal.slice_bounds-data-start
slice_bounds-data-start c = omega (arith, accepted_index _ _ c.requires.accepted_image)

pub new-elements-requires-clause-inside : goal.new-elements-requires-clause-inside
new-elements-requires-clause-inside c = accepted_inside _ _ c.requires.accepted_image _ c.position-start.ensures _ c.nindex2-count.ensures.value

pub new-area-requires-clause-whole : goal.new-area-requires-clause-whole
new-area-requires-clause-whole c = omega (arith, accepted_area _ _ c.requires.accepted_image _ c.position-start.ensures c.requires.in_blocks)

pub new-area-requires-clause-few : goal.new-area-requires-clause-few
new-area-requires-clause-few c = omega (arith, accepted_blocks _ _ c.requires.accepted_image)

pub returns-clause-runs_told : goal.returns-clause-runs_told
returns-clause-runs_told c i o =
    let bytes = ap (λ (b : Bor (List ℕ)). b.now) c.new-area.ensures.0 in
    rw (c.new-area.ensures.1, bytes, c.new-elements.ensures.given)
    (runs_same _ _ c.requires.accepted_image _ c.position-start.ensures _ c.nindex2-count.ensures.value i o)
