-- `put_element` meets its contract.
use Rattle.elements.proofs.Laws.{element_put}
use borrow.Author.Rules.{rules}
use Rattle.elements.proofs.put_element.Goals as goal

pub returns-clause-dst_after : goal.returns-clause-dst_after
returns-clause-dst_after c = search (element_put, rules)
