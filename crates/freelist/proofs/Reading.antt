-- The loop that reads a free list, in the terms of the code.
use Prim.Native.Nat.{ℕ, suc, ◌+◌, ◌-◌, ◌*◌, ◌<◌, ◌≤◌}
use mathlib.Core.Path.{◌≡◌, refl, sym, ap, ◌∙◌}
use mathlib.Core.Logic.{◌≢◌}
use mathlib.Core.Bool.{Bool, true, false, false≢true}
use mathlib.Core.List.{List, [], ◌∷◌}
use native.Mathlib.Omega.{arith}
use lib.ListN.{length, set}
use lib.Dec.{eqb, eqb-suc-suc}
use borrow.Author.Tests.{eq-eqb, ne_eqb, eqb-true, eqb-false}
use Rattle.spec.specs.Outcome.{Outcome, refused, ok, ◌>>=◌}
use Rattle.spec.specs.Bytes.{from_little_endian, bytes_at, all_zero}
use Rattle.spec.proofs.BytesLaws.{all_zero_number}
use Rattle.spec.specs.Blocks.{free_list_end, free_list_from}
use Rattle.marks.specs.Marks.{marks}
use Rattle.freelist.specs.FreeList.{has_length, with_marks, Marked}
use Rattle.freelist.proofs.Laws.{free_end, free_off, free_full, free_next, free_list_none}

-- one number more in front of a list of l numbers
more_length : (l b : ℕ) (o : Outcome (List ℕ)) → has_length (suc l) (o >>= (λ bs. ok (b ∷ bs))) ≡ has_length l o
unfolding has_length
more_length l b (refused k) = refl
more_length l b (ok bs) = eqb-suc-suc (length bs) l

-- is marked in front of the others
more_marked : (b : ℕ) (o : Outcome (List ℕ)) (before after : List Bool) → Marked o (set before b true) after → Marked (o >>= (λ bs. ok (b ∷ bs))) before after
unfolding with_marks
more_marked b (refused k) before after h fl e = absurd (false≢true (cc))
more_marked b (ok bs) before after h fl e = let q : b ∷ bs ≡ fl = cc in rw (← q) (h bs refl)

-- the list from block b on is the whole list's rest after i of its n numbers, and its marks make the whole list's marks
pub record Sofar (area : List ℕ) (d first n : ℕ) (used₀ free₀ used free : List ℕ) (b i : ℕ) : Type 0 where
  pub fuel : ℕ
  pub enough : n - i ≤ fuel
  pub used_length : length used ≡ length used₀
  pub free_length : length free ≡ length free₀
  pub rest : has_length n (free_list_from d d first area) ≡ has_length (n - i) (free_list_from fuel d b area)
  pub used_rest : (ms : List Bool) → Marked (free_list_from fuel d b area) (marks used) ms → Marked (free_list_from d d first area) (marks used₀) ms
  pub free_rest : (ms : List Bool) → Marked (free_list_from fuel d b area) (marks free) ms → Marked (free_list_from d d first area) (marks free₀) ms

-- at the start
pub list_start : (area : List ℕ) (d first n : ℕ) (used free : List ℕ) → n ≤ d → Sofar area d first n used free used free first 0
list_start area d first n used free h =
    let e : n - 0 ≡ n = omega arith in
    record { fuel = d; enough = omega arith; used_length = refl; free_length = refl; rest = rw e; used_rest = λ ms m. m; free_rest = λ ms m. m }

module _ (area : List ℕ) (d first n : ℕ) (used₀ free₀ used free : List ℕ) (b i : ℕ) (v : Sofar area d first n used₀ free₀ used free b i) where
  -- the fuel is not used up before the numbers
  fueled : i < n → v.fuel ≡ suc (v.fuel - 1)
  fueled p = omega (arith, v.enough)

  -- what the next turn tells of the whole list's length
  unrolled : i < n → (o : Outcome (List ℕ)) → free_list_from (suc (v.fuel - 1)) d b area ≡ o → has_length n (free_list_from d d first area) ≡ has_length (n - i) o
  unrolled p o e = v.rest ∙ ap (has_length (n - i)) (ap (λ (m : ℕ). free_list_from m d b area) (fueled p) ∙ e)

  -- a number too few
  none_left : i < n → has_length (n - i) (ok []) ≡ false
  unfolding has_length
  none_left p = ne_eqb 0 (n - i) (λ e. omega arith)

  -- a number that is none of a block's: the end too early, or a refusal
  pub list_off : i < n → d ≤ b → false ≡ has_length n (free_list_from d d first area)
  unfolding has_length
  list_off p h = go (eqb b free_list_end) refl
    where
      go : (t : Bool) → eqb b free_list_end ≡ t → false ≡ has_length n (free_list_from d d first area)
      go true e = sym (unrolled p (ok []) (free_end (suc (v.fuel - 1)) d b area (eqb-true b free_list_end e)) ∙ none_left p)
      go false e = sym (unrolled p (refused 9) (free_off (v.fuel - 1) d b area (eqb-false b free_list_end e) h))

  module _ (few : d ≤ 0xFFFFFF) (p : i < n) (h : b < d) (u : ℕ) (ue : u ≡ from_little_endian (bytes_at (256 * b) 2 area)) where
    -- a block's number is not the end
    goes_on : b ≢ free_list_end
    unfolding free_list_end
    goes_on e = omega arith

    -- a block that does not start with two zero bytes
    pub list_full : (u ≡ 0 → ⊥) → false ≡ has_length n (free_list_from d d first area)
    unfolding has_length
    list_full z =
        let w : all_zero (bytes_at (256 * b) 2 area) ≡ false = all_zero_number (bytes_at (256 * b) 2 area) ∙ rw (← ue) (ne_eqb u 0 z) in
        sym (unrolled p (refused 9) (free_full (v.fuel - 1) d b area goes_on h w))

    -- the next number: one less is left
    module _ (z : u ≡ 0) (next : ℕ) (ne : next ≡ from_little_endian (bytes_at (256 * b + 2) 4 area)) where
      onward : free_list_from v.fuel d b area ≡ (free_list_from (v.fuel - 1) d next area >>= (λ bs. ok (b ∷ bs)))
      onward =
          let w : all_zero (bytes_at (256 * b) 2 area) ≡ true = all_zero_number (bytes_at (256 * b) 2 area) ∙ rw (← ue) (eq-eqb u 0 z) in
          ap (λ (m : ℕ). free_list_from m d b area) (fueled p) ∙ rw ne (free_next (v.fuel - 1) d b area goes_on h w)

      pub list_next : (used' free' : List ℕ) → marks used' ≡ set (marks used) b true → marks free' ≡ set (marks free) b true → length used' ≡ length used → length free' ≡ length free
          → Sofar area d first n used₀ free₀ used' free' next (i + 1)
      list_next used' free' um fm ul fl =
          let k : n - i ≡ suc (n - (i + 1)) = omega arith in
          record {
            fuel = v.fuel - 1;
            enough = omega (arith, v.enough);
            used_length = ul ∙ v.used_length;
            free_length = fl ∙ v.free_length;
            rest =
                v.rest ∙ ap (has_length (n - i)) onward ∙ ap (λ (l : ℕ). has_length l (free_list_from (v.fuel - 1) d next area >>= (λ bs. ok (b ∷ bs)))) k
                ∙ more_length (n - (i + 1)) b (free_list_from (v.fuel - 1) d next area);
            used_rest = λ ms m. v.used_rest ms (rw onward (more_marked b (free_list_from (v.fuel - 1) d next area) (marks used) ms (rw um at m)));
            free_rest = λ ms m. v.free_rest ms (rw onward (more_marked b (free_list_from (v.fuel - 1) d next area) (marks free) ms (rw fm at m)));
          }

  -- after the last number: the list ends here, or it is longer or refused
  module _ (z : n ≤ i) where
    pub list_end : eqb b 4294967295 ≡ has_length n (free_list_from d d first area)
    unfolding free_list_end
    list_end =
        let k : n - i ≡ 0 = omega arith in
        sym (v.rest ∙ rw k (free_list_none v.fuel d b area))

    -- nothing is left to mark
    nothing : eqb b 4294967295 ≡ true → (ms : List Bool) → Marked (free_list_from v.fuel d b area) ms ms
    unfolding free_list_end with_marks
    nothing e ms fl h =
        let q : ok [] ≡ ok fl = sym (free_end v.fuel d b area (eqb-true b free_list_end e)) ∙ h in
        let r : [] ≡ fl = cc in
        rw (← r)

    -- with each of its blocks marked in the one table
    pub list_used : eqb b 4294967295 ≡ true → Marked (free_list_from d d first area) (marks used₀) (marks used)
    list_used e = v.used_rest (marks used) (nothing e (marks used))

    -- and in the other
    pub list_free : eqb b 4294967295 ≡ true → Marked (free_list_from d d first area) (marks free₀) (marks free)
    list_free e = v.free_rest (marks free) (nothing e (marks free))
