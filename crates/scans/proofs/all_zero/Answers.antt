use mathlib.Core.Path.{◌∙◌}
use Prim.Native.Nat.{ℕ, ◌-◌}
use lib.Dec.{eqb}
use Rattle.std.proofs.Common.{rules, tests}
use Rattle.std.proofs.lemmas.Iterator.{YieldsList-from_slice}
use Rattle.std.proofs.lemmas.Iterator.Search.{all_from_yields_List}
use Rattle.spec.specs.Bytes.{bytes_at}
use Rattle.scans.proofs.Scans.{zero_all}
use Rattle.scans.proofs.all_zero.Goals as goal

pub returns-then-part-lt16 : goal.returns-then-part-lt16
unfolding bytes_at
returns-then-part-lt16 c =
    all_from_yields_List (λ (b : ℕ). eqb b 0) _ _ c.all.result c.all.ensures.ran (YieldsList-from_slice (bytes_at c.args.from (c.args.end - c.args.from) c.args.s.now) (cc))
    (λ x b q k. search (rules, tests))
    ∙ zero_all _

pub returns : goal.returns
unfolding bytes_at
returns c = c.all_zero_by.ensures
