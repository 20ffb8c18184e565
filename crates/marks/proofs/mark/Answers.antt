-- `mark` meets its contract.
use Rattle.marks.proofs.Laws.{mark_set}
use borrow.Author.Rules.{rules}
use Rattle.marks.proofs.mark.Goals as goal

pub returns : goal.returns
returns c = search (mark_set, rules)
