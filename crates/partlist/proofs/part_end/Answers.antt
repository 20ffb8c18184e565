-- `part_end` meets its contract.
use Rattle.std.proofs.Common.{refl}
use Rattle.partlist.proofs.Laws.{part_past, part_open, part_told}
use Rattle.partlist.proofs.part_end.Goals as goal

pub returns-in_err-kind-clause-result_value : goal.returns-in_err-kind-clause-result_value
returns-in_err-kind-clause-result_value c = rw c.from_residual.ensures (part_past _ _ c.in_err-kind.ensures.lookup.3)

pub returns-then-end-zero-clause-result_value : goal.returns-then-end-zero-clause-result_value
returns-then-end-zero-clause-result_value c = part_open _ _ _ _ refl c.in_ok-kind.ensures.lookup.3.0 c.first_zero-zero.ensures.value c.if-end-zero.true

pub returns-clause-result_value : goal.returns-clause-result_value
returns-clause-result_value c =
    let there = c.in_ok-kind.ensures.lookup.3 in
    rw c.then_some.ensures (part_told _ _ _ _ refl there.0 c.first_zero-zero.ensures.value c.if-end-zero.false _ (there.1 0) _ c.kind_takes.ensures)
