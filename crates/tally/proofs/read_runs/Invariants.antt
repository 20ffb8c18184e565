use Rattle.std.proofs.Common.{◌≡◌, ◌-◌, length}
use Rattle.spec.specs.Order.{below_of}
use Rattle.marks.specs.Marks.{marks}
use Rattle.index.specs.Walk as walk
use Rattle.tally.specs.Tally.{waiting}
use Rattle.tally.proofs.RunsLaws.{Walking, Reading}
use Rattle.tally.proofs.read_runs.Given as goal

abbrev pub invariant-loop-row : goal.invariant-loop-row
invariant-loop-row l = Reading (below_of l.order) l.element.headword.now l.run l.word l.held l.pos l.count

abbrev pub decreases-loop-row : goal.decreases-loop-row
decreases-loop-row l = length l.run - l.pos

abbrev pub invariant-loop-next : goal.invariant-loop-next
invariant-loop-next l =
    (length l.word ≡ 256) × (length l.used ≡ length l.initial.used)
    × Walking (below_of l.order) l.area.blocks l.area.bytes.now (walk.elements l.fn.elements) (marks l.initial.used) l.words l.blocks
    (waiting l.next (walk.elements l.elements)) (marks l.used)

abbrev pub decreases-loop-next : goal.decreases-loop-next
decreases-loop-next l = length (waiting l.next (walk.elements l.elements))
