use Rattle.std.proofs.Common.{arith}
use Rattle.index.specs.Walk.{stored}
use Rattle.seek.proofs.Returns.{at_unplaced, at_end, at_entry, at_inside}
use Rattle.seek.proofs.find_at.Goals as goal

pub returns-in_default-clause-as_read : goal.returns-in_default-clause-as_read
returns-in_default-clause-as_read c = at_unplaced _ _ _ _ _ _ _ _ _ c.in_default.ensures.value

pub returns-in_err-entry-clause-as_read : goal.returns-in_err-entry-clause-as_read
returns-in_err-entry-clause-as_read c =
    rw c.from_residual.ensures (at_end _ _ _ _ _ _ _ c.args.area.whole _ c.in-Ok.ensures.value _ _ c.find_in_run.ensures.as_read c.in_err-entry.was)

pub overflow_add-zero : goal.overflow_add-zero
overflow_add-zero c =
    let inside = at_inside _ _ _ _ _ _ (stored c.args.element) c.args.area.whole _ c.in-Ok.ensures.value _ _ c.find_in_run.ensures.as_read c.find_in_run.ensures.inside _ c.in_ok-entry.was in
    omega (arith, inside)

pub overflow_add-next : goal.overflow_add-next
overflow_add-next c =
    let inside = at_inside _ _ _ _ _ _ (stored c.args.element) c.args.area.whole _ c.in-Ok.ensures.value _ _ c.find_in_run.ensures.as_read c.find_in_run.ensures.inside _ c.in_ok-entry.was in
    omega (arith, inside)

pub returns-clause-as_read : goal.returns-clause-as_read
returns-clause-as_read c =
    at_entry _ _ _ _ _ _ _ c.args.area.whole _ c.in-Ok.ensures.value _ _ c.find_in_run.ensures.as_read c.find_in_run.ensures.inside _ c.in_ok-entry.was

pub returns-clause-spot_inside : goal.returns-clause-spot_inside
returns-clause-spot_inside c =
    at_inside _ _ _ _ _ _ (stored c.args.element) c.args.area.whole _ c.in-Ok.ensures.value _ _ c.find_in_run.ensures.as_read c.find_in_run.ensures.inside _ c.in_ok-entry.was
