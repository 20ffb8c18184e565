-- `filled` meets its contract.
use Rattle.marks.proofs.Words.{filled_true, filled_false}
use borrow.Author.Rules.{rules}
use Rattle.marks.proofs.filled.Goals as goal

pub returns-then-v : goal.returns-then-v
returns-then-v c = search (filled_true, rules)

pub returns-else-v : goal.returns-else-v
returns-else-v c = search (filled_false, rules)
