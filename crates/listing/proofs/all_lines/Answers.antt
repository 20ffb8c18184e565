-- The lines of the runs still to come, stored in what stands there now, are the lines of all runs.
use native.Mathlib.Omega.{arith}
use Rattle.listing.proofs.Runs.{walking_start, walking_end, walking_broken, walking_some, walking_room, walking_next}
use Rattle.listing.proofs.all_lines.Goals as goal

pub loop-element-init : goal.loop-element-init
loop-element-init c =
    let (first, blocks, room) = c.requires.in_bounds in
    rw c.into_iter-element-iterator.ensures.into_iter_gives (walking_start _ _ c.requires.accepted _ _ _ c.areas.ensures.runs_told _ _ first blocks room)

pub returns-in_default-clause-all_printed : goal.returns-in_default-clause-all_printed
returns-in_default-clause-all_printed c =
    walking_broken c.loop-element.invariant _ _ c.in-Some.ensures.steps _ c.run_size.ensures.value _ c.in_default.is

pub slice_bounds-run-end : goal.slice_bounds-run-end
slice_bounds-run-end c = omega (arith, c.in-Ok.ensures.size_inside)

pub run_lines-printed-requires : goal.run_lines-printed-requires
run_lines-printed-requires c =
    let v = c.loop-element.invariant in
    let next = c.in-Some.ensures.steps in
    let told = c.run_size.ensures.value in (
      walking_some v _ _ next _ told c.areas.result.1.whole _ c.in-Ok.is,
      v.few,
      walking_room v _ _ next _ told c.areas.result.1.whole _ c.in-Ok.is,
    )

pub loop-element-preserved : goal.loop-element-preserved
loop-element-preserved c =
    walking_next c.loop-element.invariant _ _ c.in-Some.ensures.steps _ c.run_size.ensures.value c.areas.result.1.whole _ c.in-Ok.is
    _ _ c.run_lines-printed.ensures.run_printed (omega arith) c.run_lines-printed.ensures.out_len_unchanged (omega arith)

pub returns-clause-all_printed : goal.returns-clause-all_printed
returns-clause-all_printed c = walking_end c.loop-element.invariant c.in-None.ensures.steps.0
