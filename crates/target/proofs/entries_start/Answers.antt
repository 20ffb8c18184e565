-- `entries_start` meets its contract.
use Rattle.target.proofs.Laws.{start_none, start_some}
use Rattle.target.proofs.entries_start.Goals as goal

pub returns-then-size-eq0-clause-value : goal.returns-then-size-eq0-clause-value
returns-then-size-eq0-clause-value c = search start_none

pub returns-clause-value : goal.returns-clause-value
returns-clause-value c = search start_some
