-- `link` meets its contract.
use Rattle.chain.proofs.Laws.{link_below, link_end}
use Rattle.chain.proofs.link.Goals as goal

pub returns-then-b-d : goal.returns-then-b-d
returns-then-b-d c = link_below _ _ _ c.if-b-d.true

pub returns-else-b-d : goal.returns-else-b-d
returns-else-b-d c = link_end _ _ _ c.if-b-d.false
