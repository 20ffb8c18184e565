use Rattle.byteops.proofs.Stores.{four_as, two_as}
use Rattle.byteops.proofs.read_number.Goals as goal

pub returns-then-width-eq4-clause-value : goal.returns-then-width-eq4-clause-value
returns-then-width-eq4-clause-value c = search four_as

pub returns-clause-value : goal.returns-clause-value
returns-clause-value c = search two_as
