-- `copy_moved` meets its contract.
use Rattle.std.proofs.Common.{rules, arith}
use Rattle.moves.proofs.Laws.{copy_none, copy_run, ready_run, copy_ready, copy_turn, copy_end}
use Rattle.moves.proofs.copy_moved.Goals as goal
use Rattle.moves.proofs.copy_moved.Goals.{then-number-ne0, else-number-ne0}

pub position-at-requires : goal.position-at-requires
position-at-requires c =
    let ready = copy_ready _ _ _ _ _ _ _ _ _ c.loop-b.invariant c.loop-b-test.true c.loop-b.auto.image in
    omega (arith, ready_run _ _ _ _ _ _ _ c.if-number-ne0.true ready)

pub overflow_mul-b : goal.overflow_mul-b
overflow_mul-b c =
    let ready = copy_ready _ _ _ _ _ _ _ _ _ c.loop-b.invariant c.loop-b-test.true c.loop-b.auto.image in
    omega (arith, ready_run _ _ _ _ _ _ _ c.if-number-ne0.true ready)

pub copy-requires : goal.copy-requires
copy-requires c =
    let ready = copy_ready _ _ _ _ _ _ _ _ _ c.loop-b.invariant c.loop-b-test.true c.loop-b.auto.image in
    let r = ready_run _ _ _ _ _ _ _ c.if-number-ne0.true ready in
    (omega arith, omega arith)

pub loop-b-preserved : goal.loop-b-preserved
loop-b-preserved c =
    let turn = copy_turn _ _ _ _ _ _ _ _ _ c.loop-b.invariant c.loop-b-test.true c.loop-b.auto.image in
    let ready = copy_ready _ _ _ _ _ _ _ _ _ c.loop-b.invariant c.loop-b-test.true c.loop-b.auto.image in
    elim c.if-number-ne0.branch [
      | then-number-ne0 w ↦ turn _ (rw w.image-is (copy_run _ _ _ _ _ _ _ _ _ _ w.if-number-ne0.true ready w.size_at.ensures.value w.position-at.ensures w.copy.ensures.dst_after))
      | else-number-ne0 w ↦ turn _ (rw w.image-is (copy_none _ _ _ _ _ _ _ w.if-number-ne0.false))
    ]

pub returns-clause-image_after : goal.returns-clause-image_after
returns-clause-image_after c = search (copy_end, rules)
