use mathlib.Core.Path.{◌∙◌}
use Rattle.scans.proofs.Fronts.{compare_is}
use Rattle.scans.proofs.compare.Goals as goal

pub returns : goal.returns
returns c = c.cmp.ensures ∙ compare_is _ _ _
