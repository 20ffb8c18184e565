-- `copy_moved` meets its contract.
use lib.ListN.{length}
use Rattle.moves.proofs.Laws.{Copying}
use Rattle.moves.proofs.copy_moved.Given as goal

abbrev pub invariant-loop-b : goal.invariant-loop-b
invariant-loop-b l = Copying l.extended l.index l.area.bytes.now l.numbers l.area.blocks (length l.numbers) l.initial.image l.b l.image
