-- How many entries there are after a change of a sorted list.
use Prim.Native.Nat.{ℕ, suc, ◌+◌, ◌-◌, ◌≤◌}
use mathlib.Core.Path.{◌≡◌, refl, ap, ◌∙◌}
use mathlib.Core.Bool.{Bool, true, false, not, false≢true}
use mathlib.Core.List.{List, [], ◌∷◌}
use native.Mathlib.Omega.{arith}
use lib.ListN.{length, length-append}
use Rattle.spec.specs.Lists as Lists
use Rattle.spec.specs.Lists.{filter, first, All}
use Rattle.spec.specs.Bytes.{bytes_equal}
use Rattle.spec.specs.Order.{IsOrder, HeadwordOrder}
use Rattle.spec.specs.Entry.{Entry}
use Rattle.spec.specs.SortedList as SortedList
use Rattle.spec.specs.SortedList.{has_headword, lookup, replace, remove}
use Rattle.spec.specs.Claim as Claim
use Rattle.spec.specs.Claim.{is_there}
use Rattle.spec.proofs.ListsLaws.{all_map, filter_yes, filter_no, filter_nothing}
use Rattle.spec.proofs.OrderLaws.{one_way}
use Rattle.spec.specs.Sound.{EntriesOk}
use Rattle.spec.proofs.ReadLaws.{same_bytes, bytes_self}
use Rattle.spec.proofs.SearchLaws.{all_above, other, other_way}
use Rattle.editor.specs.Entered as Entered
use Rattle.editor.specs.Entered.{words_after}

-- those for which a test holds and those for which it does not are all
filter_halves : (f : Entry → Bool) (es : List Entry) → length (filter f es) + length (filter (λ e. not (f e)) es) ≡ length es
unfolding Lists.filter
filter_halves f [] = refl
filter_halves f (e ∷ es) = go (filter_halves f es) (f e) refl
  where
    go : length (filter f es) + length (filter (λ d. not (f d)) es) ≡ length es → (t : Bool) → f e ≡ t → length (filter f (e ∷ es)) + length (filter (λ d. not (f d)) (e ∷ es)) ≡ suc (length es)
    go ih true q = rw (filter_yes f e es q, filter_no (λ d. not (f d)) e es (ap not q)) (omega arith)
    go ih false q = rw (filter_no f e es q, filter_yes (λ d. not (f d)) e es (ap not q)) (omega arith)

-- one entry more than those that are not replaced
one_more : (l : List Entry) (n k : ℕ) → length l ≤ 1 → length l + n ≡ k → suc n ≡ words_after k (is_there (first l))
unfolding Lists.first Claim.is_there Entered.words_after
one_more [] n k p h = omega arith
one_more (e ∷ []) n k p h = omega arith
one_more (e ∷ d ∷ l) n k p h = absurd (omega arith)

-- one entry less, where there is one
one_less : (l : List Entry) (n k : ℕ) → length l ≤ 1 → length l + n ≡ k → is_there (first l) ≡ true → (1 ≤ k) × (k - 1 ≡ n)
unfolding Lists.first Claim.is_there
one_less [] n k p h q = absurd (false≢true q)
one_less (e ∷ []) n k p h q = (omega arith, omega arith)
one_less (e ∷ d ∷ l) n k p h q = absurd (omega arith)

module _ (below : HeadwordOrder) (order : IsOrder below) (h : List ℕ) where
  abbrev lower : Entry → Bool
  lower e = below e.headword h

  abbrev upper : Entry → Bool
  upper e = below h e.headword

  -- those below a headword, those above it and those that have it are all
  three_parts : (es : List Entry) → length (filter (has_headword h) es) + (length (filter lower es) + length (filter upper es)) ≡ length es
  unfolding Lists.filter SortedList.has_headword
  three_parts [] = refl
  three_parts (e ∷ es) = go (three_parts es) (lower e) refl (upper e) refl
    where
      go : length (filter (has_headword h) es) + (length (filter lower es) + length (filter upper es)) ≡ length es → (t : Bool) → lower e ≡ t → (u : Bool) → upper e ≡ u
          → length (filter (has_headword h) (e ∷ es)) + (length (filter lower (e ∷ es)) + length (filter upper (e ∷ es))) ≡ suc (length es)
      go ih true p u q =
          rw (filter_no (has_headword h) e es (other below order e.headword h p), filter_yes lower e es p, filter_no upper e es (one_way below order e.headword h p)) (omega arith)
      go ih false p true q = rw (filter_no (has_headword h) e es (other_way below order h e.headword q), filter_no lower e es p, filter_yes upper e es q) (omega arith)
      go ih false p false q =
          let s : e.headword ≡ h = order.total e.headword h p q in
          let b : bytes_equal e.headword h ≡ true = rw s (bytes_self h) in
          rw (filter_yes (has_headword h) e es b, filter_no lower e es p, filter_no upper e es q) (omega arith)

  -- of entries that ascend no more than one has a headword
  one_at_most : (prev : List ℕ) (es : List Entry) → EntriesOk below prev es → length (filter (has_headword h) es) ≤ 1
  unfolding Lists.filter SortedList.has_headword
  one_at_most prev [] g = omega arith
  one_at_most prev (e ∷ es) (a, b, up, g) = go (one_at_most e.headword es g) (bytes_equal e.headword h) refl
    where
      go : length (filter (has_headword h) es) ≤ 1 → (t : Bool) → bytes_equal e.headword h ≡ t → length (filter (has_headword h) (e ∷ es)) ≤ 1
      go ih true q =
          let s : e.headword ≡ h = same_bytes e.headword h q in
          let u : All (λ d. below h d.headword ≡ true) es = rw s at (all_above below order e.headword es g) in
          let z : filter (has_headword h) es ≡ [] = filter_nothing (has_headword h) es (all_map _ _ (λ d r. other_way below order h d.headword r) es u) in
          rw (filter_yes (has_headword h) e es q, z) (omega arith)
      go ih false q = rw (filter_no (has_headword h) e es q) ih

-- the entries after an insertion
pub replace_count : (below : HeadwordOrder) (order : IsOrder below) (a : Entry) (es : List Entry) → EntriesOk below [] es
    → length (replace below a es) ≡ words_after (length es) (is_there (lookup a.headword es))
unfolding SortedList.replace SortedList.lookup
replace_count below order a es g =
    let h : List ℕ = a.headword in
    let x : List Entry = filter (lower below order h) es in
    let y : List Entry = filter (upper below order h) es in
    length-append x (a ∷ y) ∙ (omega arith) ∙ one_more (filter (has_headword h) es) (length x + length y) (length es) (one_at_most below order h [] es g) (three_parts below order h es)

-- and after a deletion of one that is there
pub remove_count : (below : HeadwordOrder) (order : IsOrder below) (h : List ℕ) (es : List Entry) → EntriesOk below [] es → is_there (lookup h es) ≡ true
    → (1 ≤ length es) × (length es - 1 ≡ length (remove h es))
unfolding SortedList.remove SortedList.lookup
remove_count below order h es g q =
    one_less (filter (has_headword h) es) (length (filter (λ e. not (has_headword h e)) es)) (length es) (one_at_most below order h [] es g)
    (filter_halves (has_headword h) es) q
