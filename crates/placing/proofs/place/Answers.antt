-- `place` meets its contract.
use Rattle.std.proofs.Common.{arith}
use Rattle.placing.proofs.SpreadLaws.{best_fit_from}
use Rattle.placing.proofs.place.Goals as goal

pub returns-clause-lower_bound : goal.returns-clause-lower_bound
returns-clause-lower_bound c = (best_fit_from _ _ _ _ _ c.best_fit-b.ensures.0 c.requires.0, omega arith)
