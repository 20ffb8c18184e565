-- `places` meets its contract.
use Rattle.header.proofs.Laws.{places_named}
use Rattle.header.proofs.places.Goals as goal

pub returns-clause-placed : goal.returns-clause-placed
returns-clause-placed c = search places_named
