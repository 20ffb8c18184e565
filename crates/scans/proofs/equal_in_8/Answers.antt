-- The lowest bit in which they differ lies in the first byte in which they do.
use native.Mathlib.Omega.{arith}
use Rattle.scans.proofs.Words.{equal_loaded}
use Rattle.scans.proofs.equal_in_8.Goals as goal

pub returns-clause-value : goal.returns-clause-value
returns-clause-value c = equal_loaded c.args.a.now c.args.b.now c.args.at (λ k. omega (arith, c.type_inv.a k)) (λ k. omega (arith, c.type_inv.b k)) c.requires.0 c.requires.1
