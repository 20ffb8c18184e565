-- `walk` meets its contract.
use Rattle.script.proofs.Laws.{walk_code}
use Rattle.script.proofs.walk.Goals as goal

pub returns : goal.returns
returns c = search walk_code
