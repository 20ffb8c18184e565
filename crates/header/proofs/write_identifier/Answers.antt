-- `write_identifier` meets its contract.
use Rattle.header.proofs.Laws.{identifier_stored, identifier_none}
use Rattle.header.proofs.write_identifier.Goals as goal

pub returns-then-version-eq-VERSION_5-clause-s_after : goal.returns-then-version-eq-VERSION_5-clause-s_after
returns-then-version-eq-VERSION_5-clause-s_after c = search identifier_stored

pub returns-else-version-eq-VERSION_5-clause-s_after : goal.returns-else-version-eq-VERSION_5-clause-s_after
returns-else-version-eq-VERSION_5-clause-s_after c = search identifier_none
