-- `options_ok` meets its contract.
use Rattle.std.proofs.Common.{arith}
use Rattle.std.proofs.lemmas.Bool.Decides.{nat_tests}
use Rattle.header.proofs.Laws.{options_tests}
use Rattle.header.proofs.options_ok.Goals as goal

pub returns-then-s-at-eq0-2 : goal.returns-then-s-at-eq0-2
returns-then-s-at-eq0-2 c = let t = options_tests _ c.requires _ c.places-at.ensures.placed c.places-at.ensures.in_header in grind (arith, nat_tests)

pub returns-else-s-at-eq0-2 : goal.returns-else-s-at-eq0-2
returns-else-s-at-eq0-2 c = let t = options_tests _ c.requires _ c.places-at.ensures.placed c.places-at.ensures.in_header in grind (arith, nat_tests)
