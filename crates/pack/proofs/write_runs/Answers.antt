-- What is left, written where the code stands, is the whole written.
use Rattle.std.proofs.Common.{arith, rules, sym, ◌∙◌}
use Rattle.pack.proofs.Laws.{underway_start, underway_placed, run_inside, run_fits, element_fits, underway_turn, underway_out, underway_end}
use Rattle.pack.proofs.write_runs.Goals as goal

pub loop-element-init : goal.loop-element-init
loop-element-init c =
    rw c.into_iter-element-iterator.ensures.into_iter_gives (search rules, search rules, underway_start _ _ _ _ _ _ _ _ _ c.requires)

pub unwrap-size-requires : goal.unwrap-size-requires
unwrap-size-requires c = rw c.run_size.ensures.value (underway_placed _ _ _ _ _ _ _ _ _ _ _ _ _ c.loop-element.invariant.2 _ _ c.in-Some.ensures.steps)

pub copy-requires : goal.copy-requires
copy-requires c =
    let v = c.loop-element.invariant.2 in
    let next = c.in-Some.ensures.steps in
    let size = sym c.run_size.ensures.value ∙ c.unwrap-size.ensures in
    let inside = run_inside _ _ _ _ _ _ _ _ _ _ _ _ _ v _ _ next _ size in
    let fits = run_fits _ _ _ _ _ _ _ _ _ _ _ _ _ v _ _ next _ size in
    (omega (arith, fits, c.position-to.ensures), omega (arith, inside, c.args.area.whole))

pub put_element-out-requires : goal.put_element-out-requires
put_element-out-requires c =
    let size = sym c.run_size.ensures.value ∙ c.unwrap-size.ensures in
    let fits = element_fits _ _ _ _ _ _ _ _ _ _ _ _ _ c.loop-element.invariant.2 _ _ c.in-Some.ensures.steps _ size in
    (search rules, omega (arith, c.requires.index_room, fits))

pub loop-element-preserved : goal.loop-element-preserved
loop-element-preserved c =
    let v = c.loop-element.invariant.2 in
    let next = c.in-Some.ensures.steps in
    let size = sym c.run_size.ensures.value ∙ c.unwrap-size.ensures in
    let fits = run_fits _ _ _ _ _ _ _ _ _ _ _ _ _ v _ _ next _ size in (
      search rules,
      omega (arith, fits),
      underway_turn _ _ _ _ _ _ _ _ _ _ _ _ _ v _ _ next _ size c.args.area.whole _ c.position-to.ensures _ _ _ c.requires.index_room c.copy.ensures.dst_after
          c.put_element-out.ensures.dst_after c.put_element-out.ensures.value,
    )

pub returns-clause-image_after : goal.returns-clause-image_after
returns-clause-image_after c = underway_end _ _ _ _ _ _ _ _ _ _ _ _ _ c.loop-element.invariant.2 c.in-None.ensures.steps.0

pub returns-clause-value : goal.returns-clause-value
returns-clause-value c = underway_out _ _ _ _ _ _ _ _ _ _ _ _ _ c.loop-element.invariant.2 c.in-None.ensures.steps.0
