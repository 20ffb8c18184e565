-- `find_run` meets its contract.
use Rattle.std.proofs.Common.{arith}
use Rattle.target.proofs.Laws.{told_none, told_broken, told_some, none_bounds, left_fewer, end_inside}
use Rattle.target.proofs.find_run.Goals as goal

pub returns-then-count-eq0-clause-target_told : goal.returns-then-count-eq0-clause-target_told
returns-then-count-eq0-clause-target_told c rs read = told_none _ _ _ _ _ _ _ c.if-count-eq0.true _ c.no_run.ensures rs (rw c.requires.from_start at read)

pub returns-then-count-eq0-clause-size_bound : goal.returns-then-count-eq0-clause-size_bound
returns-then-count-eq0-clause-size_bound c = none_bounds _ _ _ _ c.no_run.ensures

pub concerned-p-requires-clause-inside : goal.concerned-p-requires-clause-inside
concerned-p-requires-clause-inside c = rw c.requires.from_start at c.args.elements.inside

pub overflow_sub-before : goal.overflow_sub-before
overflow_sub-before c =
    omega (
      arith,
      left_fewer _ _ _ _ _ c.if-count-eq0.false (rw c.requires.from_start at c.args.elements.inside)
          _ c.concerned-p.ensures.value c.concerned-p.ensures.le_left.0,
    )

pub returns-in_default-clause-target_told : goal.returns-in_default-clause-target_told
returns-in_default-clause-target_told c rs read =
    told_broken _ _ _ _ _ c.if-count-eq0.false (rw c.requires.from_start at c.args.elements.inside)
    _ c.concerned-p.ensures.value c.concerned-p.ensures.le_left.0 _ _ _ c.read_number-block.ensures.value _
    c.in_default.ensures.value _ rs (rw c.requires.from_start at read)

pub returns-clause-target_told : goal.returns-clause-target_told
returns-clause-target_told c rs read =
    told_some _ _ _ _ _ c.if-count-eq0.false (rw c.requires.from_start at c.args.elements.inside)
    _ c.concerned-p.ensures.value c.concerned-p.ensures.le_left.0 _ _ _ c.read_number-block.ensures.value _
    c.element_end-next.ensures.value _ c.in-Ok.ensures.value rs (rw c.requires.from_start at read)

pub returns-clause-size_bound : goal.returns-clause-size_bound
returns-clause-size_bound c =
    let size = c.in-Ok.ensures.size_inside in
    let fewer =
    left_fewer _ _ _ _ _ c.if-count-eq0.false (rw c.requires.from_start at c.args.elements.inside) _ c.concerned-p.ensures.value c.concerned-p.ensures.le_left.0 in
    let ends =
    end_inside _ _ _ _ _ c.if-count-eq0.false (rw c.requires.from_start at c.args.elements.inside)
    _ c.concerned-p.ensures.value c.concerned-p.ensures.le_left.0 _ c.element_end-next.ensures.value in
    (size.2, size.1, omega (arith, c.element_end-next.ensures.lower_bound), ends, omega (arith, fewer))
