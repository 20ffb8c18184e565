-- `version` meets its contract.
use Rattle.header.proofs.Laws.{version_read}
use Rattle.header.proofs.version.Goals as goal

pub returns : goal.returns
returns c = search version_read
