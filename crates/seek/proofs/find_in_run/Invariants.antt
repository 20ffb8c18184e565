use Prim.Native.Nat.{◌-◌}
use lib.ListN.{length}
use Rattle.spec.specs.Order.{below_of}
use Rattle.seek.proofs.Returns.{Passing}
use Rattle.seek.proofs.find_in_run.Given as goal

abbrev pub invariant-loop-entry : goal.invariant-loop-entry
invariant-loop-entry l = Passing (below_of l.order) (below_of l.order) l.above l.h l.run l.initial.word l.word l.pos l.held

abbrev pub decreases-loop-entry : goal.decreases-loop-entry
decreases-loop-entry l = length l.run - l.pos
