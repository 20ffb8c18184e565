-- What the scan of a headword's lead bytes shows, in the terms of the code.
use Prim.Native.Nat.{ℕ, zero, suc, ◌+◌, ◌-◌, ◌%◌, ◌<◌, ◌≤◌}
use mathlib.Core.Path.{◌≡◌, refl, sym, ap, ◌∙◌}
use mathlib.Core.Bool.{Bool, true, false, not, false≢true}
use mathlib.Core.List.{List, [], ◌∷◌, ◌++◌}
use native.Mathlib.Omega.{arith}
use lib.ListN.{length, get_or, take}
use lib.Dec.{eqb}
use lib.Seq.{take-suc}
use Rattle.std.specs.Prelude.{reverse}
use Rattle.std.specs.List.{suffix_len, prefix_len}
use Rattle.std.proofs.lemmas.List.{reverse-append}
use borrow.Author.Tests.{eq-eqb, ne_eqb, eqb-true, eqb-false, lt-ltb, le-ltb}
use Rattle.spec.specs.Pairs.{is_lead, second_next, second_behind, ends_inside, whole_front}
use Rattle.spec.proofs.PairsLaws.{second_step, front_cut, front_kept}

-- ---- lead bytes at the end
-- one more is odd where the others are not
odd_next : (n : ℕ) (t : Bool) → eqb (n % 2) 1 ≡ t → eqb ((1 + n) % 2) 1 ≡ not t
odd_next n true e = let h = eqb-true (n % 2) 1 e in ne_eqb _ _ (omega arith)
odd_next n false e = let h = eqb-false (n % 2) 1 e in eq-eqb _ _ (omega arith)

-- whether the lead bytes at the end of bytes are odd in number
abbrev pub odd_leads : List ℕ → Bool
odd_leads l = eqb (suffix_len is_lead l % 2) 1

-- the same with one byte more
leads_next : (l : List ℕ) (b : ℕ) → odd_leads (l ++ b ∷ []) ≡ second_next (odd_leads l) b
unfolding second_next
leads_next l b = rw reverse-append (go (is_lead b) refl (odd_leads l) refl)
  where
    go : (t : Bool) → is_lead b ≡ t → (u : Bool) → odd_leads l ≡ u → eqb (prefix_len is_lead (b ∷ reverse l) % 2) 1 ≡ second_next (odd_leads l) b
    go true e true f = rw (e, f) (odd_next _ true f)
    go true e false f = rw (f, e) (odd_next _ false f)
    go false e true f = rw (e, f)
    go false e false f = rw (e, f) (rw e refl)

-- they are where a byte behind them is the second of a pair
pub leads_before : (s : List ℕ) (n : ℕ) → n ≤ length s → odd_leads (take n s) ≡ second_behind false (take n s)
unfolding second_behind
leads_before s zero l = refl
leads_before s (suc n) l =
    let b : ℕ = get_or s n 0 in
    ap odd_leads (take-suc s n 0 (omega arith)) ∙ leads_next (take n s) b
    ∙ ap (λ (t : Bool). second_next t b) (leads_before s n (omega arith)) ∙ sym (second_step s n (omega arith))

-- ---- the front
module _ (s : List ℕ) (n : ℕ) where
  -- of the whole headword
  pub front_all : length s ≤ n → n ≡ whole_front s n
  unfolding ends_inside
  front_all l = sym (front_kept s n (rw (le-ltb n (length s) l)))

  module _ (r : Bool) (e : r ≡ second_behind false (take n s)) where
    -- one that is cut has a byte
    pub front_some : r ≡ true → 1 ≤ n
    unfolding second_behind
    front_some f = go n e
      where
        go : (m : ℕ) → r ≡ second_behind false (take m s) → 1 ≤ m
        go zero q = absurd (false≢true (sym q ∙ f))
        go (suc m) q = omega arith

    module _ (l : n < length s) where
      -- whether the first n bytes end inside a pair, as the scan told
      inside : ends_inside s n ≡ r
      unfolding ends_inside
      inside = rw (lt-ltb n (length s) l, ← e)

      -- one byte less
      pub front_shorter : r ≡ true → n - 1 ≡ whole_front s n
      front_shorter f = sym (front_cut s n (inside ∙ f))

      -- or all
      pub front_same : r ≡ false → n ≡ whole_front s n
      front_same f = sym (front_kept s n (inside ∙ f))
