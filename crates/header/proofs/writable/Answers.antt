-- `writable` meets its contract.
use Rattle.header.proofs.Laws.{version_writable}
use Rattle.header.proofs.writable.Goals as goal

pub returns : goal.returns
returns c = search version_writable
