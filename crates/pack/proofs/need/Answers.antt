-- The number of blocks by the two cases of the code.
use Rattle.pack.proofs.Laws.{need_none, need_some}
use Rattle.pack.proofs.need.Goals as goal

pub returns-then-elements-eq0 : goal.returns-then-elements-eq0
returns-then-elements-eq0 c = search need_none

pub returns : goal.returns
returns c = search need_some
