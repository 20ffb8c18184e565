-- `place_moved` meets its contract.
use lib.ListN.{length}
use Rattle.std.proofs.Common.{◌≤◌}
use Rattle.marks.specs.Marks.{marks}
use Rattle.moves.proofs.Laws.{Placing}
use Rattle.moves.proofs.place_moved.Given as goal

abbrev pub invariant-loop-b : goal.invariant-loop-b
invariant-loop-b l =
    (l.end ≤ l.last) × (l.last ≤ l.limit) × Placing l.area.bytes.now l.area.blocks (length l.initial.numbers) l.end l.initial.numbers (marks l.initial.free) l.last l.b l.numbers (marks l.free)
