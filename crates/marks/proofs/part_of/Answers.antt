-- `part_of` meets its contract.
use Rattle.marks.proofs.Words.{part_true, part_false, part_lt, part_not_lt}
use borrow.Author.Rules.{rules}
use Rattle.marks.proofs.part_of.Goals as goal

pub returns-then-v : goal.returns-then-v
returns-then-v c = (search (part_lt, rules), search (part_true, rules))

pub returns-else-v : goal.returns-else-v
returns-else-v c = (search (part_not_lt, rules), search (part_false, rules))
