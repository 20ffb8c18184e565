use mathlib.Core.Path.{ap, ◌∙◌}
use mathlib.Core.Bool.{not}
use Prim.Native.Nat.{ℕ, ◌+◌, ◌-◌}
use lib.Dec.{eqb}
use Rattle.std.proofs.Common.{rules, tests}
use Rattle.std.proofs.lemmas.Iterator.{YieldsList-from_slice}
use Rattle.std.proofs.lemmas.Iterator.Consumers.{count_from_yields_List}
use Rattle.std.proofs.lemmas.Iterator.Search.{YieldsList-from_take_while}
use Rattle.std.proofs.lemmas.List.Folds.{length-prefix_len}
use Rattle.spec.specs.Bytes.{bytes_at}
use Rattle.scans.proofs.Words.{offset_counted}
use Rattle.scans.proofs.first_zero_bytes.Goals as goal

pub returns-clause-value : goal.returns-clause-value
unfolding bytes_at
returns-clause-value c =
    ap (λ (n : ℕ). c.args.from + n)
    (count_from_yields_List c.take_while.result _ c.count.ensures.ran
    (YieldsList-from_take_while _ (λ (b : ℕ). not (eqb b 0)) (YieldsList-from_slice (bytes_at c.args.from (c.args.end - c.args.from) c.args.s.now) (cc)) c.take_while.ensures.closure
    c.take_while.ensures.done (λ x t q k. search (rules, tests)))
    ∙ length-prefix_len (λ (b : ℕ). not (eqb b 0)) (bytes_at c.args.from (c.args.end - c.args.from) c.args.s.now)
    ∙ offset_counted (bytes_at c.args.from (c.args.end - c.args.from) c.args.s.now))
