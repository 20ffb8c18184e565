-- `whole_front` meets its contract.
use Rattle.pairs.proofs.Laws.{front_all, front_shorter, front_same, front_some}
use Rattle.pairs.proofs.whole_front.Goals as goal
use Rattle.pairs.proofs.whole_front.Goals.{else-n-s-via-then-n-s+else-is_second, else-n-s-via-else-n-s}

pub overflow_sub-result : goal.overflow_sub-result
overflow_sub-result c = search front_some

pub returns-then-is_second-clause-value : goal.returns-then-is_second-clause-value
returns-then-is_second-clause-value c = search front_shorter

pub returns-clause-value : goal.returns-clause-value
returns-clause-value c =
    elim c.else-n-s.branch [
      | else-n-s-via-then-n-s+else-is_second w ↦ search front_same
      | else-n-s-via-else-n-s w ↦ search front_all
    ]
