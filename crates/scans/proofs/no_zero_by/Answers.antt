use native.Mathlib.Omega.{arith}
use Rattle.spec.specs.Bytes.{no_zero, not_zero}
use Rattle.scans.proofs.Parts.{four_parts}
use Rattle.scans.proofs.no_zero_by.Goals as goal

pub returns : goal.returns
unfolding no_zero
returns g c =
    four_parts not_zero _ _ _ _ _ _ _ _ c.requires.1 (omega arith) (omega arith) (omega arith) (omega arith) (omega arith)
    c.no_zero_flat-w.ensures
    c.no_zero_flat-x.ensures c.no_zero_flat-y.ensures c.no_zero_flat-z.ensures
