-- What a free list that is read holds, and the marks of its blocks.
use Prim.Native.Nat.{ℕ, zero, suc, ◌+◌, ◌-◌, ◌*◌, ◌<◌, ◌≤◌}
use mathlib.Core.Path.{◌≡◌, refl, sym, ap, ◌∙◌}
use mathlib.Core.Logic.{◌≢◌, ⊎_elim}
use mathlib.Core.Bool.{Bool, true, false, not, ◌||◌, false≢true, or-true}
use mathlib.Core.List.{List, [], ◌∷◌, ◌++◌}
use native.Mathlib.Omega.{arith}
use lib.ListN.{length, get_or, set, replicate, length-set, length-append, length-replicate, length-map, get_or-replicate, get_or-append}
use lib.Seq.{get_or-set_same, get_or-set_other, get_or-append-add, ext_get_or}
use lib.Dec.{eqb, ltb, eqb-suc-zero}
use borrow.Author.Tests.{eq-eqb, ne_eqb, eqb-true, eqb-false, lt-ltb, le-ltb}
use Rattle.spec.specs.Outcome.{Outcome, refused, ok, ◌>>=◌, ◌>>◌, refuse◌when◌}
use Rattle.spec.specs.Lists.{any, filter, count, range_from, All}
use Rattle.spec.specs.Bytes.{from_little_endian, bytes_at, all_zero}
use Rattle.spec.specs.Blocks.{free_list_end, free_list_from, free_marks, count_marks}
use Rattle.spec.proofs.ListsLaws.{or_false, less_or, length_range, get_map_range}
use Rattle.freelist.specs.FreeList.{has_length, with_marks}

-- ---- the numbers
-- a number's turn by its tests: the end, below D, two zero bytes; and what follows it
abbrev turn : ℕ → (e l z : Bool) → Outcome (List ℕ) → Outcome (List ℕ)
turn b e l z o = elim e [
  | true ↦ ok []
  | false ↦ do
    refuse 9 when not l
    refuse 9 when not z
    bs ← o
    ok (b ∷ bs)
]

-- the list by its first number's turn
by_turn : (m d b : ℕ) (area : List ℕ)
    → free_list_from (suc m) d b area ≡ turn b (eqb b free_list_end) (ltb b d) (all_zero (bytes_at (256 * b) 2 area)) (free_list_from m d (from_little_endian (bytes_at (256 * b + 2) 4 area)) area)
unfolding free_list_from
by_turn m d b area = refl

-- the list ends at its end's number
pub free_end : (m d b : ℕ) (area : List ℕ) → b ≡ free_list_end → free_list_from m d b area ≡ ok []
unfolding free_list_from
free_end zero d b area e = rw (eq-eqb b free_list_end e)
free_end (suc m) d b area e = by_turn m d b area ∙ rw (eq-eqb b free_list_end e)

-- a number off the area is refused
pub free_off : (m d b : ℕ) (area : List ℕ) → b ≢ free_list_end → d ≤ b → free_list_from (suc m) d b area ≡ refused 9
free_off m d b area e h = by_turn m d b area ∙ rw (ne_eqb b free_list_end e, le-ltb b d h)

-- so is one whose block does not start with two zero bytes
pub free_full : (m d b : ℕ) (area : List ℕ) → b ≢ free_list_end → b < d → all_zero (bytes_at (256 * b) 2 area) ≡ false → free_list_from (suc m) d b area ≡ refused 9
free_full m d b area e h z = by_turn m d b area ∙ rw (ne_eqb b free_list_end e, lt-ltb b d h, z)

-- any other stands in front of what follows it
pub free_next : (m d b : ℕ) (area : List ℕ) → b ≢ free_list_end → b < d → all_zero (bytes_at (256 * b) 2 area) ≡ true
    → free_list_from (suc m) d b area ≡ (free_list_from m d (from_little_endian (bytes_at (256 * b + 2) 4 area)) area >>= (λ bs. ok (b ∷ bs)))
free_next m d b area e h z = by_turn m d b area ∙ rw (ne_eqb b free_list_end e, lt-ltb b d h, z)

-- a list has no number where it starts with its end
turn_none : (b : ℕ) (e l z : Bool) (o : Outcome (List ℕ)) → has_length 0 (turn b e l z o) ≡ e
unfolding has_length
turn_none b true l z o = refl
turn_none b false false z o = refl
turn_none b false true false o = refl
turn_none b false true true (refused k) = refl
turn_none b false true true (ok bs) = eqb-suc-zero (length bs)

pub free_list_none : (m d b : ℕ) (area : List ℕ) → has_length 0 (free_list_from m d b area) ≡ eqb b free_list_end
unfolding free_list_from has_length
free_list_none zero d b area = go (eqb b free_list_end)
  where
    go : (t : Bool) → has_length 0 (refuse 9 when not t >> ok []) ≡ t
    go true = refl
    go false = refl
free_list_none (suc m) d b area =
    ap (has_length 0) (by_turn m d b area) ∙ turn_none b (eqb b free_list_end) (ltb b d) (all_zero (bytes_at (256 * b) 2 area))
    (free_list_from m d (from_little_endian (bytes_at (256 * b + 2) 4 area)) area)

-- a list of n numbers was read
pub has_length_is : (n : ℕ) (fl : List ℕ) → has_length n (ok fl) ≡ true → length fl ≡ n
unfolding has_length
has_length_is n fl h = eqb-true (length fl) n h

-- the list that was read
pub record Read (n : ℕ) (o : Outcome (List ℕ)) : Type 0 where
  pub numbers : List ℕ
  pub read : o ≡ ok numbers
  pub many : length numbers ≡ n

pub has_length_read : (n : ℕ) (o : Outcome (List ℕ)) → has_length n o ≡ true → Read n o
unfolding has_length
has_length_read n (refused k) h = absurd (false≢true h)
has_length_read n (ok fl) h = record { numbers = fl; read = refl; many = has_length_is n fl h }

-- a list that was read has another length
pub has_length_not : (n : ℕ) (fl : List ℕ) → has_length n (ok fl) ≡ false → length fl ≢ n
unfolding has_length
has_length_not n fl h = eqb-false (length fl) n h

-- ---- the marks
-- marks set leave their number
pub length_with_marks : (fl : List ℕ) (ms : List Bool) → length (with_marks fl ms) ≡ length ms
unfolding with_marks
length_with_marks [] ms = refl
length_with_marks (a ∷ fl) ms = length_with_marks fl (set ms a true) ∙ length-set ms a true

-- a block is marked that was, or that the list has
pub get_with_marks : (fl : List ℕ) (ms : List Bool) (b : ℕ) → b < length ms → get_or (with_marks fl ms) b false ≡ (get_or ms b false || any (eqb b) fl)
unfolding with_marks any
get_with_marks [] ms b h = or_false (get_or ms b false)
get_with_marks (a ∷ fl) ms b h = go (get_with_marks fl (set ms a true) b (omega (arith, length-set ms a true))) (eqb b a) refl
  where
    go : get_or (with_marks fl (set ms a true)) b false ≡ (get_or (set ms a true) b false || any (eqb b) fl) → (t : Bool) → eqb b a ≡ t
        → get_or (with_marks fl (set ms a true)) b false ≡ (get_or ms b false || (eqb b a || any (eqb b) fl))
    go ih true e =
        let q : b ≡ a = eqb-true b a e in
        let s : get_or (set ms a true) b false ≡ true = rw q (get_or-set_same ms a true false (omega arith)) in
        ih ∙ rw (s, e) (sym (or-true (get_or ms b false)))
    go ih false e = ih ∙ rw (get_or-set_other ms a b true false (eqb-false b a e), e)

-- a number not below a list's bound is none of it
none_above : (d b : ℕ) (fl : List ℕ) → All (λ a. a < d) fl → d ≤ b → any (eqb b) fl ≡ false
unfolding any
none_above d b [] h k = refl
none_above d b (a ∷ fl) (h, hs) k = rw (ne_eqb b a (λ e. omega arith), none_above d b fl hs k)

-- as many marks as blocks
pub length_free_marks : (d : ℕ) (fl : List ℕ) → length (free_marks d fl) ≡ d
unfolding free_marks
length_free_marks d fl = length-map (range_from 0 d) (λ b. any (eqb b) fl) ∙ length_range 0 d

-- a block's mark by a list is whether the list has it
pub get_free_marks : (d : ℕ) (fl : List ℕ) (b : ℕ) → b < d → get_or (free_marks d fl) b false ≡ any (eqb b) fl
unfolding free_marks
get_free_marks d fl b h = let z : 0 + b ≡ b = omega arith in get_map_range (λ a. any (eqb a) fl) 0 d b false h ∙ ap (λ (a : ℕ). any (eqb a) fl) z

-- the marks of a list in a table that had none are its marks of D blocks, and none behind them
pub with_no_marks : (d k : ℕ) (fl : List ℕ) → All (λ a. a < d) fl → d ≤ k → with_marks fl (replicate k false) ≡ free_marks d fl ++ replicate (k - d) false
with_no_marks d k fl h p =
    ext_get_or false (with_marks fl (replicate k false)) (free_marks d fl ++ replicate (k - d) false)
    (omega (arith, len, length-append (free_marks d fl) (replicate (k - d) false), length_free_marks d fl, length-replicate (k - d) false))
    (λ i q. left i (omega (arith, len)) ∙ ⊎_elim (λ l. sym (front i l)) (λ l. sym (back i l (omega (arith, len)))) (less_or i d))
  where
    len : length (with_marks fl (replicate k false)) ≡ k
    len = length_with_marks fl (replicate k false) ∙ length-replicate k false

    left : (i : ℕ) → i < k → get_or (with_marks fl (replicate k false)) i false ≡ any (eqb i) fl
    left i q = get_with_marks fl (replicate k false) i (omega (arith, length-replicate k false)) ∙ rw (get_or-replicate k i false false q)

    front : (i : ℕ) → i < d → get_or (free_marks d fl ++ replicate (k - d) false) i false ≡ any (eqb i) fl
    front i l = get_or-append (free_marks d fl) (replicate (k - d) false) false i (omega (arith, length_free_marks d fl)) ∙ get_free_marks d fl i l

    back : (i : ℕ) → d ≤ i → i < k → get_or (free_marks d fl ++ replicate (k - d) false) i false ≡ any (eqb i) fl
    back i l q =
        let e : i ≡ length (free_marks d fl) + (i - d) = omega (arith, length_free_marks d fl) in
        ap (λ (j : ℕ). get_or (free_marks d fl ++ replicate (k - d) false) j false) e ∙ get_or-append-add (free_marks d fl) (replicate (k - d) false) (i - d) false
        ∙ get_or-replicate (k - d) (i - d) false false (omega arith) ∙ sym (none_above d i fl h l)

-- blocks without a mark behind others do not count
pub count_behind : (ms : List Bool) (k : ℕ) → count_marks (ms ++ replicate k false) ≡ count_marks ms
unfolding count_marks count filter
count_behind [] zero = refl
count_behind [] (suc k) = count_behind [] k
count_behind (true ∷ ms) k = ap suc (count_behind ms k)
count_behind (false ∷ ms) k = count_behind ms k
