-- `free_moved` meets its contract.
use lib.ListN.{length}
use Rattle.marks.specs.Marks.{marks}
use Rattle.moves.proofs.Laws.{Freeing}
use Rattle.moves.proofs.free_moved.Given as goal

abbrev pub invariant-loop-b : goal.invariant-loop-b
invariant-loop-b l = Freeing l.area.bytes.now l.numbers l.area.blocks (length l.numbers) l.b (marks l.initial.free) (marks l.free)
