-- `entry_size` meets its contract.
use native.Mathlib.Omega.{arith}
use Rattle.encoder.proofs.Laws.{entry_measured}
use Rattle.encoder.proofs.entry_size.Goals as goal

pub returns-clause-value : goal.returns-clause-value
returns-clause-value c = search entry_measured

pub returns-clause-lower_bound : goal.returns-clause-lower_bound
returns-clause-lower_bound c = (omega arith, omega arith)
