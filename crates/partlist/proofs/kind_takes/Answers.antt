-- `kind_takes` meets its contract.
use Rattle.std.proofs.Common.{arith}
use Rattle.std.proofs.lemmas.Bool.Decides.{nat_tests}
use Rattle.spec.specs.PartList.{kind_takes}
use Rattle.partlist.proofs.kind_takes.Goals as goal

pub returns-in-1 : goal.returns-in-1
unfolding kind_takes
returns-in-1 c = grind (arith, nat_tests)

pub returns-in-2 : goal.returns-in-2
unfolding kind_takes
returns-in-2 c = grind (arith, nat_tests)

pub returns-in_default : goal.returns-in_default
unfolding kind_takes
returns-in_default c = grind (arith, nat_tests)
