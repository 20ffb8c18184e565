-- `read_index` meets its contract.
use Rattle.inspect.proofs.Laws.{index_empty, index_none, index_some}
use Rattle.inspect.proofs.read_index.Goals as goal

pub returns-in-0-eq0 : goal.returns-in-0-eq0
returns-in-0-eq0 c = search index_empty

pub returns-in-0-default : goal.returns-in-0-default
returns-in-0-default c = search index_none

pub returns-in_default : goal.returns-in_default
returns-in_default c = search index_some
