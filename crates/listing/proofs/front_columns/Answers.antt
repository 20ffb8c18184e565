-- The columns still to be stored, stored in what stands there now, are all of them.
use Rattle.listing.proofs.Lines.{columns_turn, columns_end}
use Rattle.listing.proofs.front_columns.Goals as goal

pub loop-i-preserved : goal.loop-i-preserved
loop-i-preserved c = search columns_turn

pub returns-clause-out_after : goal.returns-clause-out_after
returns-clause-out_after c = search columns_end
