-- `note_starts` meets its contract.
use Rattle.moves.proofs.Laws.{note_turn, note_end}
use Rattle.moves.proofs.note_starts.Goals as goal

pub loop-element-preserved : goal.loop-element-preserved
loop-element-preserved c = note_turn _ _ _ _ _ _ _ c.loop-element.invariant c.in-Some.ensures.steps c.loop-element.auto.numbers c.note.ensures.numbers_after

pub returns-clause-numbers_after : goal.returns-clause-numbers_after
returns-clause-numbers_after c = note_end _ _ _ _ c.loop-element.invariant c.in-None.ensures.steps.0
