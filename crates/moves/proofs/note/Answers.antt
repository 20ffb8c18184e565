-- `note` meets its contract.
use Rattle.std.proofs.Common.{rules}
use Rattle.moves.proofs.Laws.{note_below, note_above}
use Rattle.moves.proofs.note.Goals as goal

pub returns-then-b-numbers-clause-numbers_after : goal.returns-then-b-numbers-clause-numbers_after
returns-then-b-numbers-clause-numbers_after c = search (note_below, rules)

pub returns-else-b-numbers-clause-numbers_after : goal.returns-else-b-numbers-clause-numbers_after
returns-else-b-numbers-clause-numbers_after c = search (note_above, rules)
