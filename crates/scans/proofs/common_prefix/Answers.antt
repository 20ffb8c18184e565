-- The bytes passed are equal.
use mathlib.Core.Path.{◌≡◌, ◌∙◌}
use Prim.Native.Nat.{ℕ}
use native.Mathlib.Omega.{arith}
use lib.ListN.{take}
use lib.Dec.{eqb}
use Rattle.std.specs.List.{zip}
use Rattle.std.proofs.Common.{rules, tests}
use Rattle.std.proofs.lemmas.Iterator.{YieldsList-from_slice, YieldsList-from_zip}
use Rattle.std.proofs.lemmas.Iterator.Consumers.{count_from_yields_List}
use Rattle.std.proofs.lemmas.Iterator.Search.{YieldsList-from_take_while}
use Rattle.std.proofs.lemmas.List.Folds.{length-prefix_len}
use Rattle.spec.specs.Bytes.{bytes_at}
use Rattle.spec.specs.Order.{common_prefix}
use Rattle.spec.proofs.OrderLaws.{prefix_common}
use Rattle.scans.proofs.Fronts.{front_counted, front_part}
use Rattle.scans.proofs.common_prefix.Goals as goal

pub returns-then-n-lt8-clause-value : goal.returns-then-n-lt8-clause-value
unfolding bytes_at
returns-then-n-lt8-clause-value c =
    let n : ℕ = c.min-n.result in
    let counted : c.count.result ≡ common_prefix (bytes_at 0 n c.args.a.now) (bytes_at 0 n c.args.b.now)
    = count_from_yields_List c.take_while.result _ c.count.ensures.ran
    (YieldsList-from_take_while _ (λ (p : ℕ × ℕ). eqb p.0 p.1) (YieldsList-from_zip (YieldsList-from_slice (take n c.args.a.now) (cc)) (YieldsList-from_slice (take n c.args.b.now) (cc)))
    c.take_while.ensures.closure c.take_while.ensures.done (λ x t q k. search (rules, tests)))
    ∙ length-prefix_len (λ (p : ℕ × ℕ). eqb p.0 p.1) (zip (take n c.args.a.now) (take n c.args.b.now))
    ∙ front_counted (take n c.args.a.now) (take n c.args.b.now) in
    omega (arith, front_part c.args.a.now c.args.b.now 0 n _ counted (omega arith), prefix_common c.args.a.now c.args.b.now)

pub returns-then-k-lt8-clause-value : goal.returns-then-k-lt8-clause-value
returns-then-k-lt8-clause-value c = omega (arith, front_part _ _ _ 8 _ c.equal_in_8-k.ensures.value c.loop-i.invariant)

pub loop-i-preserved : goal.loop-i-preserved
loop-i-preserved c = omega (arith, front_part _ _ _ 8 _ c.equal_in_8-k.ensures.value c.loop-i.invariant)

pub returns-clause-value : goal.returns-clause-value
returns-clause-value c = omega (arith, front_part _ _ _ 8 _ c.equal_in_8.ensures.value (omega arith), prefix_common c.args.a.now c.args.b.now)
