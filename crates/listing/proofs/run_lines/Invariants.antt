-- The lines of the entries still to come, stored in what stands there now, are all lines of the run.
use Prim.Native.Nat.{◌-◌}
use lib.ListN.{length}
use Rattle.spec.specs.Order.{below_of}
use Rattle.listing.proofs.Entries.{Printing}
use Rattle.listing.proofs.run_lines.Given as goal

abbrev pub invariant-loop-entry : goal.invariant-loop-entry
invariant-loop-entry l = Printing (below_of l.order) l.run l.word l.held l.pos l.block l.blocks l.initial.out l.out l.initial.at l.at l.initial.ordinal l.ordinal

abbrev pub decreases-loop-entry : goal.decreases-loop-entry
decreases-loop-entry l = length l.run - l.pos
