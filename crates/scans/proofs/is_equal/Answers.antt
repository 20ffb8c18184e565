use mathlib.Core.Path.{◌∙◌}
use Rattle.scans.proofs.Fronts.{equal_is}
use Rattle.scans.proofs.is_equal.Goals as goal

pub returns : goal.returns
returns c = c.eq.ensures ∙ equal_is _ _
