use native.Mathlib.Omega.{arith}
use Rattle.listing.proofs.Images.{listed_end, listed_printed}
use Rattle.listing.proofs.accepted_lines.Goals as goal

pub returns-clause-value : goal.returns-clause-value
returns-clause-value c = (search listed_end, omega arith)

pub returns-clause-out_after : goal.returns-clause-out_after
returns-clause-out_after c = search listed_printed
