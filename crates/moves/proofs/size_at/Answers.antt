-- `size_at` meets its contract.
use Rattle.std.proofs.Common.{rules}
use Rattle.moves.specs.Moved.{size_at}
use Rattle.moves.proofs.size_at.Goals as goal

pub returns-clause-value : goal.returns-clause-value
unfolding size_at
returns-clause-value c = search rules
