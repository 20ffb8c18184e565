use Rattle.listing.proofs.Lines.{numbers_by}
use Rattle.listing.proofs.entry_numbers.Goals as goal

pub returns-clause-out_after : goal.returns-clause-out_after
returns-clause-out_after c = search numbers_by
