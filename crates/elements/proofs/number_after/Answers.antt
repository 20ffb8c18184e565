-- `number_after` meets its contract.
use Rattle.std.proofs.Common.{sym, ◌∙◌}
use Rattle.elements.proofs.Laws.{number_moved, number_kept}
use Rattle.elements.proofs.number_after.Goals as goal

pub returns-then-b-g : goal.returns-then-b-g
returns-then-b-g c = c.saturating_sub.ensures ∙ sym (number_moved _ _ _ c.if-b-g.true)

pub returns-else-b-g : goal.returns-else-b-g
returns-else-b-g c = sym (number_kept _ _ _ c.if-b-g.false)
