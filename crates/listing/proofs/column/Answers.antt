use Rattle.listing.proofs.Lines.{column_by}
use Rattle.listing.proofs.column.Goals as goal

pub returns-clause-out_after : goal.returns-clause-out_after
returns-clause-out_after c = column_by _ _ _ _ _ _ c.requires.0 c.requires.1 c.digit.ensures c.front_columns.ensures.out_after
