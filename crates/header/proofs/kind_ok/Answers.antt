-- `kind_ok` meets its contract.
use Rattle.std.proofs.Common.{arith}
use Rattle.std.proofs.lemmas.Bool.Decides.{nat_tests}
use Rattle.header.proofs.Laws.{kind_tests}
use Rattle.header.proofs.kind_ok.Goals as goal

pub returns-then-read_u16-eq256-2 : goal.returns-then-read_u16-eq256-2
returns-then-read_u16-eq256-2 c = grind (arith, nat_tests, kind_tests)

pub returns-else-read_u16-eq256-2 : goal.returns-else-read_u16-eq256-2
returns-else-read_u16-eq256-2 c = grind (arith, nat_tests, kind_tests)
