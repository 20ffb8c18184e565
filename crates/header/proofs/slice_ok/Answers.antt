-- `slice_ok` meets its contract.
use Rattle.std.proofs.Common.{arith}
use Rattle.std.proofs.lemmas.Bool.Decides.{nat_tests}
use Rattle.spec.specs.Outcome.{accepted}
use Rattle.spec.specs.Check.{slice_ok}
use Rattle.header.proofs.slice_ok.Goals as goal

pub returns-then-len-eq0 : goal.returns-then-len-eq0
unfolding slice_ok accepted
returns-then-len-eq0 c = grind (arith, nat_tests)

pub returns-else-len-eq0 : goal.returns-else-len-eq0
unfolding slice_ok accepted
returns-else-len-eq0 c = grind (arith, nat_tests)
