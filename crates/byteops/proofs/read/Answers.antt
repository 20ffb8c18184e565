use native.Mathlib.Omega.{arith}
use Rattle.byteops.proofs.Stores.{number_read, number_fits}
use Rattle.byteops.proofs.read.Goals as goal

pub returns-clause-value : goal.returns-clause-value
returns-clause-value g c =
    number_read _ _ _ _ _ c.requires.0 c.requires.1 c.copy_from_slice.ensures.after c.from_le_bytes.ensures

pub returns-clause-upper_bound : goal.returns-clause-upper_bound
returns-clause-upper_bound g c =
    number_fits _ _ _ _ _ c.requires.0 c.requires.1 c.copy_from_slice.ensures.after c.from_le_bytes.ensures
    (λ k. omega (arith, c.type_inv.s k))
