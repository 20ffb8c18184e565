-- `places_of` meets its contract.
use Rattle.header.proofs.Laws.{places_moved, places_kept}
use Rattle.header.proofs.places_of.Goals as goal

pub returns-then-version-eq-VERSION_5-clause-placed : goal.returns-then-version-eq-VERSION_5-clause-placed
returns-then-version-eq-VERSION_5-clause-placed c = search places_moved

pub returns-else-version-eq-VERSION_5-clause-placed : goal.returns-else-version-eq-VERSION_5-clause-placed
returns-else-version-eq-VERSION_5-clause-placed c = search places_kept
