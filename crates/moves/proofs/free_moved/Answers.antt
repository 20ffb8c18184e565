-- `free_moved` meets its contract.
use Rattle.std.proofs.Common.{rules}
use Rattle.moves.proofs.Laws.{free_none, free_run, free_turn, free_end}
use Rattle.moves.proofs.free_moved.Goals as goal
use Rattle.moves.proofs.free_moved.Goals.{then-number-ne0, else-number-ne0}

pub loop-b-preserved : goal.loop-b-preserved
loop-b-preserved c =
    elim c.if-number-ne0.branch [
      | then-number-ne0 w ↦ rw w.free-is (search (free_turn, free_run, rules))
      | else-number-ne0 w ↦ rw w.free-is (search (free_turn, free_none, rules))
    ]

pub returns-clause-free_after : goal.returns-clause-free_after
returns-clause-free_after c = search (free_end, rules)
