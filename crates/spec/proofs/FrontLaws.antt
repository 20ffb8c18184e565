-- The front that is written is the largest that ends inside no pair, as document 02 words it. F-4.
use Prim.Native.Nat.{ℕ, ◌≤◌}
use mathlib.Core.Path.{sym, ap, ◌∙◌}
use mathlib.Core.Bool.{false≢true}
use native.Mathlib.Omega.{arith}
use lib.ListN.{take}
use lib.Seq.{take-take}
use Rattle.spec.specs.Order.{common_prefix}
use Rattle.spec.specs.Pairs.{whole_front}
use Rattle.spec.specs.Entry.{shared_front}
use Rattle.spec.specs.FrontForm.{FrontIsFront, OneFront}
use Rattle.spec.proofs.OrderLaws.{prefix_common, prefix_longest}
use Rattle.spec.proofs.PairsLaws.{seen, front_most, front_whole, front_largest, not_inside}

-- THE LAW: it is the largest, up to the common one, that ends inside no pair of the later headword
pub front_is_front : FrontIsFront
unfolding FrontIsFront shared_front
front_is_front prev h =
    let n : ℕ = common_prefix prev h in
    let f : ℕ = whole_front h n in
    let short : f ≤ n = front_most h n in
    let (in_prev, in_h, same) = prefix_common prev h in
    record {
      common = record {
        in_earlier = omega arith;
        in_later = omega arith;
        same = sym (take-take f n prev short) ∙ ap (take f) same ∙ take-take f n h short;
      };
      whole = λ p. false≢true (sym (front_whole h n) ∙ seen h f p);
      largest = λ m c p. front_largest h n m (prefix_longest m prev h c.same c.in_earlier c.in_later) (not_inside h m p);
    }

-- there is one such front
pub one_front : OneFront
unfolding OneFront
one_front prev h n m p q = omega (arith, q.largest n p.common p.whole, p.largest m q.common q.whole)
