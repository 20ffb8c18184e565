use native.Mathlib.Omega.{arith}
use Rattle.listing.proofs.Lines.{fields_by}
use Rattle.listing.proofs.entry_line.Goals as goal

pub returns-clause-out_after : goal.returns-clause-out_after
returns-clause-out_after c = fields_by _ _ _ _ _ _ _ c.requires (omega arith) c.entry_numbers.ensures.out_after c.copy_from_slice.ensures.after
