-- `growth` meets its contract.
use Rattle.change.proofs.CodeLaws.{growth_none, growth_some}
use Rattle.change.proofs.growth.Goals as goal

pub returns-then-elements-eq0 : goal.returns-then-elements-eq0
returns-then-elements-eq0 c = search growth_none

pub returns : goal.returns
returns c = search growth_some
