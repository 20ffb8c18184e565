-- The lines of the runs still to come, stored in what stands there now, are the lines of all runs.
use Rattle.spec.specs.Order.{below_of}
use Rattle.index.specs.Walk as walk
use Rattle.listing.proofs.Runs.{Walking}
use Rattle.listing.proofs.all_lines.Given as goal

abbrev pub invariant-loop-element : goal.invariant-loop-element
invariant-loop-element l =
    Walking (below_of l.order) l.image l.area.bytes.now l.area.blocks l.initial.out l.out l.start l.printed.at l.printed.next (walk.elements l.element-iterator)
