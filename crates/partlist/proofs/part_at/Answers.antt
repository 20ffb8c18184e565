-- `part_at` meets its contract.
use Rattle.partlist.proofs.Laws.{step_tells}
use Rattle.partlist.proofs.part_at.Goals as goal

pub returns : goal.returns
returns c = search step_tells
