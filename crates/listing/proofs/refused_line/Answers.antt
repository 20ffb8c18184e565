use native.Mathlib.Omega.{arith}
use Rattle.listing.proofs.Lines.{refused_length, refused_by}
use Rattle.listing.proofs.refused_line.Goals as goal

pub returns-clause-value : goal.returns-clause-value
returns-clause-value c = (search refused_length, omega arith)

pub returns-clause-out_after : goal.returns-clause-out_after
returns-clause-out_after c = search refused_by
