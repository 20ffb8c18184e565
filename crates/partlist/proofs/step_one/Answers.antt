-- `step_one` meets its contract.
use Rattle.partlist.proofs.Laws.{step_first, one_at_end, one_elsewhere}
use Rattle.partlist.proofs.step_one.Goals as goal

pub returns-then-offset-eq0 : goal.returns-then-offset-eq0
returns-then-offset-eq0 c = search step_first

pub returns-then-offset-end : goal.returns-then-offset-end
returns-then-offset-end c = search one_at_end

pub returns : goal.returns
returns c = search one_elsewhere
