use mathlib.Core.Path.{ap, ◌∙◌}
use mathlib.Core.Bool.{not}
use Rattle.spec.specs.Bytes.{bytes_at}
use Rattle.scans.proofs.Scans.{clear_any}
use Rattle.scans.proofs.no_zero.Goals as goal

pub returns-then-part-lt16 : goal.returns-then-part-lt16
unfolding bytes_at
returns-then-part-lt16 c = ap not c.contains.ensures.value ∙ clear_any _

pub returns-then-part-lt64 : goal.returns-then-part-lt64
unfolding bytes_at
returns-then-part-lt64 c = c.no_zero_by.ensures

pub returns-then-part-le256 : goal.returns-then-part-le256
unfolding bytes_at
returns-then-part-le256 c = c.no_zero_by-then-part-le256.ensures

pub returns : goal.returns
unfolding bytes_at
returns c = c.no_zero_long.ensures
