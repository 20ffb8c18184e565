-- `list_ends` meets its contract.
use Rattle.std.proofs.Common.{arith}
use Rattle.std.proofs.lemmas.Bool.Decides.{nat_tests}
use Rattle.partlist.proofs.Laws.{ends_not_last, ends_last}
use Rattle.partlist.proofs.list_ends.Goals as goal

pub returns-then-list-at : goal.returns-then-list-at
returns-then-list-at c = search ends_last

pub returns-else-list-at : goal.returns-else-list-at
returns-else-list-at c = let n = ends_not_last _ _ c.if-list-at.false in grind (arith, nat_tests)
