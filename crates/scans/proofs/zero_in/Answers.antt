-- The lowest mark is that of the first zero byte.
use mathlib.Core.Path.{◌∙◌}
use Rattle.scans.proofs.Words.{zero_loaded}
use Rattle.scans.proofs.zero_in.Goals as goal

pub returns-clause-value : goal.returns-clause-value
returns-clause-value g c = c.min.ensures ∙ zero_loaded c.args.s.now c.args.at g.row.N c.requires.0 c.requires.1
