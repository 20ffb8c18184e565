-- The element concerned of what is left is that of the whole.
use Rattle.index.proofs.Loops.{concerned_laws}
use Rattle.index.proofs.concerned.Goals as goal

pub element_end-zero-requires : goal.element_end-zero-requires
element_end-zero-requires c = search concerned_laws

pub returns-then-is_below-clause-value : goal.returns-then-is_below-clause-value
returns-then-is_below-clause-value c = search concerned_laws

pub loop-behind-preserved : goal.loop-behind-preserved
loop-behind-preserved c = search concerned_laws

pub returns-clause-value : goal.returns-clause-value
returns-clause-value c = search concerned_laws
