-- Laws of the index, for the crates above: what reading its elements gives, how they follow one another, and which is the element of the run concerned.
use Prim.Native.Nat.{ℕ, zero, suc, ◌+◌, ◌-◌, ◌<◌, ◌≤◌}
use mathlib.Core.Path.{◌≡◌, refl, sym, ap, ◌∙◌}
use mathlib.Core.Logic.{◌⊎◌, inl, inr}
use mathlib.Core.Bool.{Bool, true, false, not}
use mathlib.Core.List.{List, [], ◌∷◌}
use mathlib.Core.Option.{Option, none, some}
use native.Mathlib.Omega.{arith}
use lib.ListN.{length, take, drop, length-drop}
use lib.Seq.{drop-drop}
use lib.Dec.{ltb}
use borrow.Author.Tests.{lt-ltb, le-ltb, ltb-true, ltb-false}
use Rattle.spec.specs.Order.{HeadwordOrder}
use Rattle.spec.specs.Outcome.{Outcome, refused, ok, ◌>>=◌, ◌>>◌, refuse◌when◌, accepted}
use Rattle.spec.specs.Bytes as Bytes
use Rattle.spec.specs.Bytes.{from_little_endian, bytes_at, no_zero, all_zero, split_zero}
use Rattle.spec.specs.Entry.{headword_ok}
use Rattle.spec.specs.Index.{Element, elements_from, index_from}
use Rattle.spec.proofs.ListsLaws.{clash}
use Rattle.spec.proofs.OutcomeLaws.{ok_not_refused, refused_only, when_ok, bind_ok}
use Rattle.spec.proofs.StoredIndexLaws.{index_only}
use Rattle.spec.proofs.PartLaws.{length_bytes_at}
use Rattle.scans.specs.Scan.{zero_offset}
use Rattle.scans.proofs.Laws.{split_zero_some, split_zero_none, zero_offset_le, no_zero_before}
use Rattle.index.specs.Elements.{element_end, element_headword, element_at, elements_at, elements_end, ended, Inside, concerned_from}
use Rattle.index.specs.declared.Place.{Place}
use Rattle.spec.specs.declared.Refusal.{Refusal}
use Rattle.std.specs.Prelude.{Result, Ok, Err}

-- an element, where its headword may follow prev, in front of those read behind it
unfoldable pub element_then : HeadwordOrder → List ℕ → Element → Outcome (List Element) → Outcome (List Element)
element_then below prev e rest = do
  refuse 6 when not (headword_ok e.headword)
  refuse 6 when not (below prev e.headword)
  es ← rest
  ok (e ∷ es)

-- where an element and the others are read, the others are
then_ok : (below : HeadwordOrder) (prev : List ℕ) (e : Element) (rest : Outcome (List Element)) (es : List Element) → element_then below prev e rest ≡ ok es
    → (ds : List Element) × (rest ≡ ok ds) × (es ≡ e ∷ ds)
unfolding element_then
then_ok below prev e rest es h =
    let a = when_ok 6 (not (headword_ok e.headword)) (refuse 6 when not (below prev e.headword) >> (rest >>= λ es. ok (e ∷ es))) es h in
    let b = when_ok 6 (not (below prev e.headword)) (rest >>= λ es. ok (e ∷ es)) es a.1 in
    let c = bind_ok rest (λ es. ok (e ∷ es)) es b.1 in
    (c.0, c.1, let q : ok (e ∷ c.0) ≡ ok es = c.2 in cc)

-- elements of which the answer tells that they break row 6, or where they end
module _ (t : Bool) (k : ℕ) (r : Result ℕ Refusal) (h : r ≡ ended t k) where
  pub ended_broken : (e : Refusal) → r ≡ Err e → (t ≡ false) × (e ≡ Refusal.BadIndex)
  unfolding ended
  ended_broken e b = go t (sym b ∙ h)
    where
      go : (t : Bool) → Err e ≡ ended t k → (t ≡ false) × (e ≡ Refusal.BadIndex)
      go true q = clash cc
      go false q = (refl, cc)

  pub ended_at : (e : ℕ) → r ≡ Ok e → (t ≡ true) × (e ≡ k)
  unfolding ended
  ended_at e b = go t (sym b ∙ h)
    where
      go : (t : Bool) → Ok e ≡ ended t k → (t ≡ true) × (e ≡ k)
      go true q = (refl, cc)
      go false q = clash cc

-- ---- block numbers of any width
module _ (w : ℕ) where
  -- what is read behind the number of an element, up to its zero byte
  elements_behind : HeadwordOrder → ℕ → List ℕ → List ℕ → Option (List ℕ × List ℕ) → Outcome (List Element)
  elements_behind below n prev s none = refused 6
  elements_behind below n prev s (some p) = element_then below prev (record { block = from_little_endian (take w s); headword = p.0 }) (elements_from w below n p.0 p.1)

  -- reading no more elements
  elements_none : (below : HeadwordOrder) (prev s : List ℕ) → elements_from w below 0 prev s ≡ (refuse 6 when ltb (length s) 4 >> (refuse 6 when not (all_zero s) >> ok []))
  unfolding elements_from
  elements_none below prev s = refl

  -- reading one more
  elements_suc : (below : HeadwordOrder) (n : ℕ) (prev s : List ℕ) → elements_from w below (suc n) prev s ≡ (refuse 6 when ltb (length s) w >> elements_behind below n prev s (split_zero (drop w s)))
  unfolding elements_from elements_behind element_then
  elements_suc below n prev s = go (split_zero (drop w s)) refl
    where
      go : (o : Option (List ℕ × List ℕ)) → split_zero (drop w s) ≡ o
          → elements_from w below (suc n) prev s ≡ (refuse 6 when ltb (length s) w >> elements_behind below n prev s (split_zero (drop w s)))
      go none e = rw (e, elements_from, elements_behind)
      go (some p) e = rw (e, elements_from, elements_behind)

  -- ---- the refusal of an index
  -- an index that is not accepted is refused by 6
  pub index_refused : (below : HeadwordOrder) (b n : ℕ) (area : List ℕ) → accepted (index_from w below b n area) ≡ false → index_from w below b n area ≡ refused 6
  index_refused below b n area h = refused_only 6 (index_from w below b n area) (index_only w below b n area) h

  -- ---- reading at a place of the index
  -- an element's zero byte stands behind its number
  pub element_end_past : (index : List ℕ) (at : ℕ) → at + w ≤ element_end w index at
  unfolding element_end
  element_end_past index at = omega arith

  -- and inside the index, or at its end where there is none
  pub element_end_inside : (index : List ℕ) (at : ℕ) → at + w ≤ length index → element_end w index at ≤ length index
  unfolding element_end
  element_end_inside index at h = omega (arith, zero_offset_le (drop (at + w) index), length-drop (at + w) index)

  -- how many bytes a headword has
  pub element_headword_length : (index : List ℕ) (at : ℕ) → at + w ≤ length index → length (element_headword w index at) ≡ element_end w index at - (at + w)
  unfolding element_headword
  element_headword_length index at p = length_bytes_at index (at + w) (element_end w index at - (at + w)) (omega (arith, element_end_past index at, element_end_inside index at p))

  -- none of them is zero
  pub element_headword_clear : (index : List ℕ) (at : ℕ) → no_zero (element_headword w index at) ≡ true
  unfolding element_headword element_end Bytes.bytes_at
  element_headword_clear index at =
      let d : at + w + zero_offset (drop (at + w) index) - (at + w) ≡ zero_offset (drop (at + w) index) = omega arith in
      rw d (no_zero_before (drop (at + w) index))

  module _ (below : HeadwordOrder) (index prev : List ℕ) (at n : ℕ) where
    -- no room for a number
    pub element_short : 1 ≤ w → length index < at + w → elements_from w below (suc n) prev (drop at index) ≡ refused 6
    element_short wide p =
        let l : ltb (length (drop at index)) w ≡ true = lt-ltb (length (drop at index)) w (omega (arith, length-drop at index)) in
        rw (elements_suc, l)

    -- no zero byte
    pub element_open : at + w ≤ length index → length index ≤ element_end w index at → elements_from w below (suc n) prev (drop at index) ≡ refused 6
    unfolding element_end elements_behind
    element_open p q =
        let l : ltb (length (drop at index)) w ≡ false = le-ltb (length (drop at index)) w (omega (arith, length-drop at index)) in
        let s : split_zero (drop (at + w) index) ≡ none = split_zero_none (drop (at + w) index) (omega (arith, length-drop (at + w) index)) in
        rw (elements_suc, l, drop-drop w at index, s)

    -- an element with its zero byte
    pub element_read : at + w ≤ length index → element_end w index at < length index
        → elements_from w below (suc n) prev (drop at index)
        ≡ element_then below prev (element_at w index at) (elements_from w below n (element_headword w index at) (drop (element_end w index at + 1) index))
    unfolding element_end element_headword element_at elements_behind Bytes.bytes_at
    element_read p q =
        let l : ltb (length (drop at index)) w ≡ false = le-ltb (length (drop at index)) w (omega (arith, length-drop at index)) in
        let z : ℕ = zero_offset (drop (at + w) index) in
        let s : split_zero (drop (at + w) index) ≡ some (take z (drop (at + w) index), drop (suc z) (drop (at + w) index))
        = split_zero_some (drop (at + w) index) (omega (arith, length-drop (at + w) index)) in
        let d : at + w + z - (at + w) ≡ z = omega arith in
        let f : at + w + suc z ≡ at + w + z + 1 = omega arith in
        rw (elements_suc, l, drop-drop w at index, s, drop-drop (suc z) (at + w) index, d, f)

  -- ---- what is read
  -- elements read from `at` on are those that stand there, inside the index
  elements_found_from : 1 ≤ w → (below : HeadwordOrder) (index prev : List ℕ) (at n : ℕ) (es : List Element) → elements_from w below n prev (drop at index) ≡ ok es
      → (es ≡ elements_at w index at n) × Inside w index at n
  unfolding elements_at element_at
  elements_found_from wide below index prev at zero es h =
      let a = when_ok 6 (ltb (length (drop at index)) 4) (refuse 6 when not (all_zero (drop at index)) >> ok []) es (rw elements_none at h) in
      let b = when_ok 6 (not (all_zero (drop at index))) (ok []) es a.1 in
      let l : 4 ≤ length (drop at index) = ltb-false (length (drop at index)) 4 a.0 in
      let e : es ≡ [] = let q : ok [] ≡ ok es = b.1 in cc in
      (e, omega (arith, length-drop at index))
  elements_found_from wide below index prev at (suc n) es h = go (λ p a ds k. elements_found_from wide below index p a n ds k) (ltb (length index) (at + w)) refl
    where
      Found : Type 0
      Found = (es ≡ elements_at w index at (suc n)) × Inside w index at (suc n)

      Rest : Type 0
      Rest = (p : List ℕ) (a : ℕ) (ds : List Element) → elements_from w below n p (drop a index) ≡ ok ds → (ds ≡ elements_at w index a n) × Inside w index a n

      found : Rest → at + w ≤ length index → element_end w index at < length index → Found
      found ih p q =
          let c =
          then_ok below prev (element_at w index at) (elements_from w below n (element_headword w index at) (drop (element_end w index at + 1) index)) es
          (sym (element_read below index prev at n p q) ∙ h) in
          let d = ih (element_headword w index at) (element_end w index at + 1) c.0 c.1 in
          let e : es ≡ element_at w index at ∷ c.0 = c.2 in
          (rw (e, d.0), (p, q, d.1))

      next : Rest → at + w ≤ length index → (t : Bool) → ltb (element_end w index at) (length index) ≡ t → Found
      next ih p true e = found ih p (ltb-true (element_end w index at) (length index) e)
      next ih p false e = absurd (ok_not_refused es 6 (sym h ∙ element_open below index prev at n p (ltb-false (element_end w index at) (length index) e)))

      go : Rest → (t : Bool) → ltb (length index) (at + w) ≡ t → Found
      go ih true e = absurd (ok_not_refused es 6 (sym h ∙ element_short below index prev at n wide (ltb-true (length index) (at + w) e)))
      go ih false e = next ih (ltb-false (length index) (at + w) e) (ltb (element_end w index at) (length index)) refl

  -- the elements of a whole index
  pub elements_found : 1 ≤ w → (below : HeadwordOrder) (index : List ℕ) (n : ℕ) (es : List Element) → elements_from w below n [] index ≡ ok es
      → (es ≡ elements_at w index 0 n) × Inside w index 0 n
  elements_found wide below index n es h = elements_found_from wide below index [] 0 n es h

  -- elements inside the index start inside it
  pub inside_at : (index : List ℕ) (at n : ℕ) → Inside w index at n → at ≤ length index
  inside_at index at zero i = i
  inside_at index at (suc n) i = omega (arith, i.0)

  -- ---- from one element to the next
  -- the next element has its number
  pub inside_start : (index : List ℕ) (at left : ℕ) → Inside w index at left → 0 < left → at + w ≤ length index
  inside_start index at zero h p = absurd (omega arith)
  inside_start index at (suc n) h p = h.0

  -- and its zero byte
  pub inside_end : (index : List ℕ) (at left : ℕ) → Inside w index at left → 0 < left → element_end w index at < length index
  inside_end index at zero h p = absurd (omega arith)
  inside_end index at (suc n) h p = h.1

  -- the others stand behind it
  pub inside_next : (index : List ℕ) (at left : ℕ) → Inside w index at left → 0 < left → Inside w index (element_end w index at + 1) (left - 1)
  inside_next index at zero h p = absurd (omega arith)
  inside_next index at (suc n) h p =
      let e : suc n - 1 ≡ n = omega arith in
      rw e h.2

  -- the same by the place that code found of its zero byte
  pub here_end : (index : List ℕ) (at left e : ℕ) → Inside w index at left → e ≡ element_end w index at → 0 < left → e < length index
  here_end index at left e i f p = rw f (inside_end index at left i p)

  pub here_next : (index : List ℕ) (at left e : ℕ) → Inside w index at left → e ≡ element_end w index at → 0 < left → Inside w index (e + 1) (left - 1)
  here_next index at left e i f p = rw f (inside_next index at left i p)

  -- the elements are it and the others
  pub elements_next : (index : List ℕ) (at left : ℕ) → 0 < left → elements_at w index at left ≡ element_at w index at ∷ elements_at w index (element_end w index at + 1) (left - 1)
  unfolding elements_at
  elements_next index at zero p = absurd (omega arith)
  elements_next index at (suc n) p =
      let e : suc n - 1 ≡ n = omega arith in
      rw e

  -- there are as many elements as are asked for
  pub elements_count : (index : List ℕ) (at n : ℕ) → length (elements_at w index at n) ≡ n
  unfolding elements_at
  elements_count index at zero = refl
  elements_count index at (suc n) = ap suc (elements_count index (element_end w index at + 1) n)

  -- no element is left
  pub elements_none_left : (index : List ℕ) (at left : ℕ) → left ≤ 0 → elements_at w index at left ≡ []
  unfolding elements_at
  elements_none_left index at left p = let none : left ≡ 0 = omega arith in rw none

  -- the element that an iterator gives, and those left then, are those that were left
  pub element_given : (index : List ℕ) (at left e n : ℕ) → 0 < left → e ≡ element_end w index at → n ≡ from_little_endian (bytes_at at w index)
      → elements_at w index at left ≡ record { block = n; headword = bytes_at (at + w) (e - (at + w)) index } ∷ elements_at w index (e + 1) (left - 1)
  unfolding element_at element_headword
  element_given index at left e n p q r = rw (q, r) (elements_next index at left p)

  -- ---- where elements end
  -- the end from the next element on
  pub end_turn : (index : List ℕ) (at left e r : ℕ) → elements_end w index at left ≡ r → e ≡ element_end w index at → 0 < left → elements_end w index (e + 1) (left - 1) ≡ r
  unfolding elements_end
  end_turn index at zero e r h f p = absurd (omega arith)
  end_turn index at (suc left) e r h f p =
      let k : suc left - 1 ≡ left = omega arith in
      rw (k, f) h

  -- at the end nothing is left
  pub end_last : (index : List ℕ) (at left r : ℕ) → elements_end w index at left ≡ r → left ≤ 0 → at ≡ r
  unfolding elements_end
  end_last index at left r h p =
      let k : left ≡ 0 = omega arith in
      rw k at h

  -- elements inside the index end there
  pub ends_inside : (index : List ℕ) (at n : ℕ) → Inside w index at n → elements_end w index at n ≤ length index
  unfolding elements_end
  ends_inside index at zero i = i
  ends_inside index at (suc n) i = ends_inside index (element_end w index at + 1) n i.2

  -- ---- the element of the run concerned
  module _ (below : HeadwordOrder) (index h : List ℕ) where
    -- the next headword is above h
    pub concerned_here : (at n : ℕ) → below h (element_headword w index (element_end w index at + 1)) ≡ true → concerned_from w below index h at (suc n) ≡ record { at = at; left = suc (suc n) }
    unfolding concerned_from
    concerned_here at n e = rw (e, concerned_from)

    -- it is not
    pub concerned_later : (at n : ℕ) → below h (element_headword w index (element_end w index at + 1)) ≡ false
        → concerned_from w below index h at (suc n) ≡ concerned_from w below index h (element_end w index at + 1) n
    unfolding concerned_from
    concerned_later at n e = rw (e, concerned_from)

    -- what holds of the first element and passes on to each next whose headword is not above h, holds of the element concerned
    pub concerned_rule : (at n : ℕ) (P : ℕ → ℕ → Type 0) → P at (suc n)
        → ((at n : ℕ) → P at (suc (suc n)) → below h (element_headword w index (element_end w index at + 1)) ≡ false → P (element_end w index at + 1) (suc n))
        → P (concerned_from w below index h at n).at (concerned_from w below index h at n).left
    unfolding concerned_from
    concerned_rule at zero P p step = p
    concerned_rule at (suc n) P p step = go (λ q. concerned_rule (element_end w index at + 1) n P q step) (below h (element_headword w index (element_end w index at + 1))) refl
      where
        go : (P (element_end w index at + 1) (suc n) → P (concerned_from w below index h (element_end w index at + 1) n).at (concerned_from w below index h (element_end w index at + 1) n).left)
            → (t : Bool) → below h (element_headword w index (element_end w index at + 1)) ≡ t → P (concerned_from w below index h at (suc n)).at (concerned_from w below index h at (suc n)).left
        go ih true e = rw (concerned_here at n e) p
        go ih false e = rw (concerned_later at n e) (ih (step at n p e))

    -- behind it stands none, or one whose headword is above h
    pub concerned_stops : (at n : ℕ) → ((concerned_from w below index h at n).left ≡ 1) ⊎ (below h (element_headword w index (element_end w index (concerned_from w below index h at n).at + 1)) ≡ true)
    unfolding concerned_from
    concerned_stops at zero = inl refl
    concerned_stops at (suc n) = go (concerned_stops (element_end w index at + 1) n) (below h (element_headword w index (element_end w index at + 1))) refl
      where
        Stops : Place → Type 0
        Stops p = (p.left ≡ 1) ⊎ (below h (element_headword w index (element_end w index p.at + 1)) ≡ true)

        go : Stops (concerned_from w below index h (element_end w index at + 1) n) → (t : Bool) → below h (element_headword w index (element_end w index at + 1)) ≡ t
            → Stops (concerned_from w below index h at (suc n))
        go ih true e = rw (concerned_here at n e) (inr e)
        go ih false e = rw (concerned_later at n e) ih
