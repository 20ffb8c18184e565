use mathlib.Core.Path.{refl}
use Rattle.listing.proofs.Lines.{first_length, first_by}
use Rattle.listing.proofs.first_line.Goals as goal

pub returns-clause-value : goal.returns-clause-value
returns-clause-value c = (search first_length, refl)

pub returns-clause-out_after : goal.returns-clause-out_after
returns-clause-out_after c = search first_by
