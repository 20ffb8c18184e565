-- What is left, written where the code stands, is the whole written.
use Rattle.std.proofs.Common.{rules, arith}
use Rattle.elements.proofs.Laws.{here_fits, room_turn, room_end, copy_turn, copy_end}
use Rattle.elements.proofs.copy_elements.Goals as goal

pub put_element-out-requires : goal.put_element-out-requires
put_element-out-requires c = (search rules, here_fits _ _ _ _ c.in-Some.ensures.steps _ _ c.loop-element.invariant.0 _ (omega arith))

pub loop-element-preserved : goal.loop-element-preserved
loop-element-preserved c =
    let v = c.loop-element.invariant in
    let next = c.in-Some.ensures.steps in
    let p = c.put_element-out.ensures in
    (room_turn _ _ _ _ next _ _ v.0 _ p.value, copy_turn _ _ _ _ next _ _ v.0 _ _ _ _ _ _ _ v.1 c.number_after-b.ensures p.dst_after p.value (omega arith))

pub returns-clause-dst_after : goal.returns-clause-dst_after
returns-clause-dst_after c = copy_end _ _ c.in-None.ensures.steps.0 _ _ _ _ _ c.loop-element.invariant.1

pub returns-clause-value : goal.returns-clause-value
returns-clause-value c = room_end _ _ c.in-None.ensures.steps.0 _ _ c.loop-element.invariant.0
