-- `start_ok` meets its contract.
use Rattle.std.proofs.Common.{arith}
use Rattle.std.proofs.lemmas.Bool.Decides.{nat_tests}
use Rattle.reader.proofs.Found.{start_long, start_clear}
use Rattle.reader.proofs.start_ok.Goals as goal

pub returns-then-h-le-LONGEST_HEADWORD : goal.returns-then-h-le-LONGEST_HEADWORD
returns-then-h-le-LONGEST_HEADWORD c = search start_clear

pub returns-else-h-le-LONGEST_HEADWORD : goal.returns-else-h-le-LONGEST_HEADWORD
returns-else-h-le-LONGEST_HEADWORD c = let long = start_long c.args.h.now (omega arith) in grind (arith, nat_tests)
