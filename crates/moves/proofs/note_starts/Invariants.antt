-- `note_starts` meets its contract: the elements still to come, noted in what stands there now, are all of them.
use mathlib.Core.Path.{◌≡◌}
use lib.ListN.{length}
use Rattle.index.specs.Walk as walk
use Rattle.moves.specs.Moved.{noted}
use Rattle.moves.proofs.Laws.{blocks}
use Rattle.moves.proofs.note_starts.Given as goal

abbrev pub invariant-loop-element : goal.invariant-loop-element
invariant-loop-element l =
    noted (length l.initial.numbers) (blocks (walk.elements l.element-iterator)) l.numbers
    ≡ noted (length l.initial.numbers) (blocks (walk.elements l.elements)) l.initial.numbers
