-- `known_version` meets its contract.
use Rattle.std.proofs.Common.{arith}
use Rattle.std.proofs.lemmas.Bool.Decides.{nat_tests}
use Rattle.spec.specs.Header.{known_version}
use Rattle.header.proofs.known_version.Goals as goal

pub returns-then-version-eq-VERSION_4 : goal.returns-then-version-eq-VERSION_4
unfolding known_version
returns-then-version-eq-VERSION_4 c = grind (arith, nat_tests)

pub returns-else-version-eq-VERSION_4 : goal.returns-else-version-eq-VERSION_4
unfolding known_version
returns-else-version-eq-VERSION_4 c = grind (arith, nat_tests)
