-- `step_two` meets its contract.
use Rattle.partlist.proofs.Laws.{step_first, two_at_second, two_at_end, two_elsewhere}
use Rattle.partlist.proofs.step_two.Goals as goal

pub returns-then-offset-eq0 : goal.returns-then-offset-eq0
returns-then-offset-eq0 c = search step_first

pub returns-then-offset-second : goal.returns-then-offset-second
returns-then-offset-second c = search two_at_second

pub returns-then-offset-end : goal.returns-then-offset-end
returns-then-offset-end c = search two_at_end

pub returns : goal.returns
returns c = search two_elsewhere
