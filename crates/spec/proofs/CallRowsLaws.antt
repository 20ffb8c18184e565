-- Each call gives the number of the first row that is broken, for all inputs.
use Prim.Native.Nat.{ℕ, ◌<◌, ◌≤◌}
use mathlib.Core.Path.{◌≡◌, refl, sym, ap, ◌∙◌}
use mathlib.Core.Logic.Iff
use mathlib.Core.Logic.{◌⊎◌, inl, inr, ⊎_elim, ◌↔◌}
use mathlib.Core.Bool.{Bool, true, false, not, ◌&&◌, ◌||◌, false≢true}
use mathlib.Core.List.{List, [], ◌∷◌, ◌++◌}
use mathlib.Core.Option.{Option, none, some}
use native.Mathlib.Omega.{arith}
use lib.ListN.{length, take}
use lib.Dec.{T, ltb, eqb}
use lib.Pow.{are_bytes}
use borrow.Author.Tests.{ltb-true, ltb-false, lt-ltb, le-ltb, eqb-true, eqb-false, ne_eqb, not-true, not-false}
use Rattle.spec.specs.Outcome.{Outcome, refused, ok, ◌>>=◌, ◌>>◌, refuse◌when◌}
use Rattle.spec.specs.Lists.{all, any, ◌∈◌}
use Rattle.spec.specs.Header.{known_version, new_image, writable}
use Rattle.spec.specs.Entry.{Entry, headword_ok, text_ok, attribute_ok, attribute, text}
use Rattle.spec.specs.Check.{Image, slice_ok, work_ok, image_from, image_in, entries_of}
use Rattle.spec.specs.SortedList.{lookup, successor}
use Rattle.spec.specs.Place.{Plan, plan_full}
use Rattle.spec.specs.Calls.{create_bytes, create_result, create, figures, check, text_fitted, look_up_in, look_up_entry, look_up_result, look_up, entry_fitted, start_ok, walk_in, walk_entry, walk_result, walk, changeable, fitting, changed, plan_length, insert_plan, insert_result, insert, delete_plan, delete_result, delete, optimise_plan, optimise_result, optimise}
use Rattle.spec.specs.Rows.{No, slices, numbers, content_numbers, image_numbers, SliceRule, FirstRowBroken}
use Rattle.spec.specs.Claim.{insert_placing, delete_placing, optimise_placing}
use Rattle.spec.specs.CallRows.{ImageRows, CreateRows, CheckRows, LookUpRows, WalkRows, change_numbers, ChangeRows, MayChange, InsertRows, DeleteRows, OptimiseRows, FirstNumbers}
use Rattle.spec.specs.declared.NewFile.{NewFile}
use Rattle.spec.proofs.ListsLaws.{clash, or_cases, or_right, or_neither, in_front, in_back, in_all}
use Rattle.spec.proofs.OutcomeLaws.{ok_not_refused, same_value, Among, when_ok, bind_ok, next_ok, when_refused, bind_refused, next_refused, then_refused}
use Rattle.spec.proofs.StoredHeaderLaws.{slice_stored, slice_one, slice_refused}
use Rattle.spec.proofs.RowsLaws.{first_row_broken}
use Rattle.spec.proofs.AnswerLaws.{in_told}

-- the image's own rows
image_told : (s : List ℕ) (L : ℕ) → T (are_bytes s) → Among image_numbers (image_in s L)
unfolding FirstRowBroken
image_told s L small = (first_row_broken s L small).no_other

-- Look up and walk: an image, row 12 by the argument, row 14 by the entry found.
module _ (s : List ℕ) (L : ℕ) (bad : Bool) (found : Image → Option Entry) (short : Entry → Bool) where
  -- row 14, and the entry found
  fitted : Option Entry → Outcome (Option Entry)
  fitted o = refuse 14 when elim o [ none ↦ false | some e ↦ short e ] >> ok o

  reads : Outcome (Option Entry)
  reads = image_in s L >>= λ i. refuse 12 when bad >> fitted (found i)

  -- why such a call is refused
  data ReadCase (n : ℕ) : Type 0 where
    by_image : image_in s L ≡ refused n → ReadCase n
    by_argument : (i : Image) → image_in s L ≡ ok i → bad ≡ true → n ≡ 12 → ReadCase n
    by_output : (i : Image) (e : Entry) → image_in s L ≡ ok i → bad ≡ false → found i ≡ some e → short e ≡ true → n ≡ 14 → ReadCase n

  fitted_told : (n : ℕ) (i : Image) → image_in s L ≡ ok i → bad ≡ false → (o : Option Entry) → found i ≡ o → fitted o ≡ refused n → ReadCase n
  unfolding fitted
  fitted_told n i got b none l q = absurd (ok_not_refused none n q)
  fitted_told n i got b (some e) l q = ⊎_elim (λ (t, m). by_output i e got b l t m) (λ (f, r). absurd (ok_not_refused (some e) n r)) (when_refused 14 (short e) (ok (some e)) n q)

  reads_told : (n : ℕ) → reads ≡ refused n → ReadCase n
  unfolding reads
  reads_told n p =
      ⊎_elim by_image (λ (i, got, q). ⊎_elim (λ (t, e). by_argument i got t e) (λ (f, r). fitted_told n i got f (found i) refl r) (when_refused 12 bad (fitted (found i)) n q))
      (bind_refused (image_in s L) (λ i. refuse 12 when bad >> fitted (found i)) n p)

  reads_back : (n : ℕ) → ReadCase n → reads ≡ refused n
  unfolding reads fitted
  reads_back n (by_image e) = rw e
  reads_back n (by_argument i got b m) = rw (got, b, m)
  reads_back n (by_output i e got b l t m) = rw (got, b, l, t, m)

  module _ (small : T (are_bytes s)) where
    reads_image : (n : ℕ) → n ∈ image_numbers → (reads ≡ refused n) ↔ (image_in s L ≡ refused n)
    unfolding any numbers content_numbers image_numbers
    reads_image n own = (λ p. go (reads_told n p), λ e. reads_back n (by_image e))
      where
        go : ReadCase n → image_in s L ≡ refused n
        go (by_image e) = e
        go (by_argument i got b m) = absurd (false≢true (rw m at own))
        go (by_output i e got b l t m) = absurd (false≢true (rw m at own))

    reads_twelve : (reads ≡ refused 12) ↔ ((i : Image) × (image_in s L ≡ ok i) × (bad ≡ true))
    unfolding any numbers content_numbers image_numbers
    reads_twelve = (λ p. go (reads_told 12 p), λ (i, got, b). reads_back 12 (by_argument i got b refl))
      where
        go : ReadCase 12 → (i : Image) × (image_in s L ≡ ok i) × (bad ≡ true)
        go (by_image e) = absurd (false≢true (image_told s L small 12 e))
        go (by_argument i got b m) = (i, got, b)
        go (by_output i e got b l t m) = absurd (omega arith)

    reads_fourteen : (reads ≡ refused 14) ↔ ((i : Image) × (e : Entry) × (image_in s L ≡ ok i) × (bad ≡ false) × (found i ≡ some e) × (short e ≡ true))
    unfolding any numbers content_numbers image_numbers
    reads_fourteen = (λ p. go (reads_told 14 p), λ (i, e, got, b, l, t). reads_back 14 (by_output i e got b l t refl))
      where
        go : ReadCase 14 → (i : Image) × (e : Entry) × (image_in s L ≡ ok i) × (bad ≡ false) × (found i ≡ some e) × (short e ≡ true)
        go (by_image e) = absurd (false≢true (image_told s L small 14 e))
        go (by_argument i got b m) = absurd (omega arith)
        go (by_output i e got b l t m) = (i, e, got, b, l, t)

    reads_others : Among (image_numbers ++ 12 ∷ 14 ∷ []) reads
    unfolding any
    reads_others n p = go (reads_told n p)
      where
        go : ReadCase n → n ∈ image_numbers ++ 12 ∷ 14 ∷ []
        go (by_image e) = in_front image_numbers (12 ∷ 14 ∷ []) n (image_told s L small n e)
        go (by_argument i got b m) = in_back image_numbers (12 ∷ 14 ∷ []) n (rw m)
        go (by_output i e got b l t m) = in_back image_numbers (12 ∷ 14 ∷ []) n (rw m)

-- a look up's answer is refused where the outcome is
look_up_answered : (s : List ℕ) (L : ℕ) (h out : List ℕ) (n : ℕ) → ((look_up s L h out).answer ≡ refused n)
    ↔ (reads s L (not (headword_ok h)) (λ i. lookup h (entries_of i)) (λ e. ltb (length out) (length (text e))) ≡ refused n)
unfolding look_up look_up_entry look_up_in text_fitted look_up_result reads fitted
look_up_answered s L h out n = (go (look_up_entry s L h out), λ e. rw e)
  where
    go : (o : Outcome (Option Entry)) → (look_up_result out o).answer ≡ refused n → o ≡ refused n
    go (refused k) p = let e : k ≡ n = cc in rw e
    go (ok none) p = absurd (ok_not_refused none n p)
    go (ok (some e)) p = absurd (ok_not_refused (some (record { attribute = attribute e; text_length = length (text e) })) n p)

look_up_rows : (s : List ℕ) (L : ℕ) (h out : List ℕ) → T (are_bytes s) → LookUpRows s L h out
unfolding ImageRows
look_up_rows s L h out small =
    let bad : Bool = not (headword_ok h) in
    let found : Image → Option Entry = λ i. lookup h (entries_of i) in
    let short : Entry → Bool = λ e. ltb (length out) (length (text e)) in
    let a : (n : ℕ) → ((look_up s L h out).answer ≡ refused n) ↔ (reads s L bad found short ≡ refused n) = look_up_answered s L h out in
    record {
      image_rows = λ n few. Iff.trans (a n) (reads_image s L bad found short small n few);
      row_12 = Iff.trans (a 12) (Iff.trans (reads_twelve s L bad found short small) (λ (i, got, b). (i, got, not-true (headword_ok h) b), λ (i, got, b). (i, got, ap not b)));
      row_14 =
          Iff.trans (a 14)
          (Iff.trans (reads_fourteen s L bad found short small) (
            λ (i, e, got, b, l, t). (i, e, got, not-false (headword_ok h) b, l, ltb-true (length out) (length (text e)) t),
            λ (i, e, got, b, l, t). (i, e, got, ap not b, l, lt-ltb (length out) (length (text e)) t),
          ));
      no_other = λ n p. reads_others s L bad found short small n ((a n).0 p);
    }

-- a walk's
walk_answered : (s : List ℕ) (L : ℕ) (above : Bool) (h x y : List ℕ) (n : ℕ)
    → ((walk s L above h x y).answer ≡ refused n)
    ↔ (reads s L (not (start_ok h)) (λ i. successor i.frame.format.below above h (entries_of i)) (λ e. ltb (length x) (length e.headword) || ltb (length y) (length (text e))) ≡ refused n)
unfolding walk walk_entry walk_in entry_fitted walk_result reads fitted
walk_answered s L above h x y n = (go (walk_entry s L above h x y), λ e. rw e)
  where
    go : (o : Outcome (Option Entry)) → (walk_result x y o).answer ≡ refused n → o ≡ refused n
    go (refused k) p = let e : k ≡ n = cc in rw e
    go (ok none) p = absurd (ok_not_refused none n p)
    go (ok (some e)) p = absurd (ok_not_refused (some (record { attribute = attribute e; headword_length = length e.headword; text_length = length (text e) })) n p)

walk_rows : (s : List ℕ) (L : ℕ) (above : Bool) (h x y : List ℕ) → T (are_bytes s) → WalkRows s L above h x y
unfolding ImageRows
walk_rows s L above h x y small =
    let bad : Bool = not (start_ok h) in
    let found : Image → Option Entry = λ i. successor i.frame.format.below above h (entries_of i) in
    let short : Entry → Bool = λ e. ltb (length x) (length e.headword) || ltb (length y) (length (text e)) in
    let a : (n : ℕ) → ((walk s L above h x y).answer ≡ refused n) ↔ (reads s L bad found short ≡ refused n) = walk_answered s L above h x y in
    record {
      image_rows = λ n few. Iff.trans (a n) (reads_image s L bad found short small n few);
      row_12 = Iff.trans (a 12) (Iff.trans (reads_twelve s L bad found short small) (λ (i, got, b). (i, got, not-true (start_ok h) b), λ (i, got, b). (i, got, ap not b)));
      row_14 =
          Iff.trans (a 14)
          (Iff.trans (reads_fourteen s L bad found short small)
          (λ (i, e, got, b, l, t). (i, e, got, not-false (start_ok h) b, l, either_short e t), λ (i, e, got, b, l, t). (i, e, got, ap not b, l, short_either e t)));
      no_other = λ n p. reads_others s L bad found short small n ((a n).0 p);
    }
  where
    either_short : (e : Entry) → (ltb (length x) (length e.headword) || ltb (length y) (length (text e))) ≡ true → (length x < length e.headword) ⊎ (length y < length (text e))
    either_short e t = or_cases (ltb (length x) (length e.headword)) (ltb (length y) (length (text e))) (λ p. inl (ltb-true _ _ p)) (λ p. inr (ltb-true _ _ p)) t

    short_either : (e : Entry) → (length x < length e.headword) ⊎ (length y < length (text e)) → (ltb (length x) (length e.headword) || ltb (length y) (length (text e))) ≡ true
    short_either e (inl p) = rw (lt-ltb (length x) (length e.headword) p)
    short_either e (inr p) = or_right (ltb (length x) (length e.headword)) (ltb (length y) (length (text e))) (lt-ltb (length y) (length (text e)) p)

-- none of these numbers is one with which a changing call begins
abbrev Later : List ℕ → Type 0
Later own = all (λ n. not (any (eqb n) change_numbers)) own ≡ true

-- what the image holds is among those
content_begins : (n : ℕ) → n ∈ content_numbers → n ∈ change_numbers
unfolding numbers change_numbers
content_begins n a = in_front (numbers slices ++ 2 ∷ content_numbers) (11 ∷ []) n (in_back (numbers slices ++ 2 ∷ []) content_numbers n a)

-- Changing calls: the rows with which they begin.
module _ (s : List ℕ) (L : ℕ) (work : List ℕ) where
  -- why the image may not be changed
  data ChangeCase (n : ℕ) : Type 0 where
    by_slice : No (SliceRule s L) → n ≡ 1 → ChangeCase n
    by_work : SliceRule s L → length work < length s → n ≡ 2 → ChangeCase n
    by_content : length s ≤ length work → image_in s L ≡ refused n → n ∈ content_numbers → ChangeCase n
    by_low_byte : (i : Image) → length s ≤ length work → image_in s L ≡ ok i → writable i.frame.format.layout s ≡ false → n ≡ 11 → ChangeCase n

  -- behind row 1 the image is that of its first L bytes
  found_in : slice_ok s L ≡ ok tt → image_in s L ≡ image_from (take L s)
  unfolding image_in
  found_in a = rw a

  -- a refusal by what the image holds comes from there
  found_from : (n : ℕ) → n ∈ content_numbers → image_in s L ≡ refused n → (slice_ok s L ≡ ok tt) × (image_from (take L s) ≡ refused n)
  unfolding image_in any numbers content_numbers
  found_from n a h = ⊎_elim (λ e. absurd (false≢true (rw (slice_refused s L n e) at a))) (λ (u, e, q). (e, q)) (next_refused (slice_ok s L) (image_from (take L s)) n h)

  module _ (small : T (are_bytes s)) where
    -- behind row 1 it is refused by what it holds
    content_told : slice_ok s L ≡ ok tt → Among content_numbers (image_in s L)
    unfolding FirstRowBroken No any numbers image_numbers
    content_told a n h =
        or_cases (eqb n 1) (any (eqb n) content_numbers) (λ e. absurd ((first_row_broken s L small).row_1.0 (h ∙ ap refused (eqb-true n 1 e)) ((slice_stored s L).0 a))) (λ e. e)
        (image_told s L small n h)

    change_told : (n : ℕ) → changeable s L work ≡ refused n → ChangeCase n
    unfolding changeable work_ok
    change_told n p = ⊎_elim (λ e. by_slice ((slice_one s L).0 (e ∙ ap refused (slice_refused s L n e))) (slice_refused s L n e)) (λ (u, a, q). behind a q) (next_refused (slice_ok s L) _ n p)
      where
        behind : slice_ok s L ≡ ok tt →
            (refuse 2 when ltb (length work) (length s) >> (image_from (take L s) >>= λ i. refuse 11 when not (writable i.frame.format.layout s) >> ok i))
            ≡ refused n → ChangeCase n
        behind a q =
            ⊎_elim (λ (t, m). by_work ((slice_stored s L).0 a) (ltb-true (length work) (length s) t) m)
            (λ (f, r).
            ⊎_elim (λ e. let h : image_in s L ≡ refused n = found_in a ∙ e in by_content (ltb-false (length work) (length s) f) h (content_told a n h))
            (λ (i, got, v).
            ⊎_elim (λ (t, m). by_low_byte i (ltb-false (length work) (length s) f) (found_in a ∙ got) (not-true (writable i.frame.format.layout s) t) m) (λ (g, w). absurd (ok_not_refused i n w))
            (when_refused 11 (not (writable i.frame.format.layout s)) (ok i) n v))
            (bind_refused (image_from (take L s)) _ n r))
            (when_refused 2 (ltb (length work) (length s)) _ n q)

  change_back : (n : ℕ) → ChangeCase n → changeable s L work ≡ refused n
  unfolding changeable work_ok
  change_back n (by_slice b m) = rw ((slice_one s L).1 b, m)
  change_back n (by_work r l m) = rw ((slice_stored s L).1 r, lt-ltb (length work) (length s) l, m)
  change_back n (by_content l h a) = let (q, e) = found_from n a h in rw (q, le-ltb (length work) (length s) l, e)
  change_back n (by_low_byte i l got w m) = let (q, e) = in_told s L i got in rw (q, le-ltb (length work) (length s) l, e, w, m)

  -- they have no other number
  change_number : (n : ℕ) → ChangeCase n → n ∈ change_numbers
  unfolding any numbers content_numbers change_numbers
  change_number n (by_slice b m) = rw m
  change_number n (by_work r l m) = rw m
  change_number n (by_content l h a) = content_begins n a
  change_number n (by_low_byte i l got w m) = rw m

  -- they do not apply
  may_told : (i : Image) → changeable s L work ≡ ok i → MayChange s L work i
  unfolding changeable work_ok
  may_told i p =
      let (u, a, q) = next_ok (slice_ok s L) _ i p in
      let (f, r) = when_ok 2 (ltb (length work) (length s)) _ i q in
      let (j, got, v) = bind_ok (image_from (take L s)) _ i r in
      let (g, w) = when_ok 11 (not (writable j.frame.format.layout s)) (ok j) i v in
      let e : j ≡ i = same_value j i w in
      record { working_slice = ltb-false (length work) (length s) f; image = found_in a ∙ got ∙ ap ok e; version = rw (← e) (not-false (writable j.frame.format.layout s) g) }

  may_back : (i : Image) → MayChange s L work i → changeable s L work ≡ ok i
  unfolding changeable work_ok
  may_back i m = let (q, e) = in_told s L i m.image in rw (q, le-ltb (length work) (length s) m.working_slice, e, m.version)

  -- A call that goes on behind row 11, and is then refused by numbers of its own.
  module _ {A B : Type 0} (small : T (are_bytes s)) (o : Outcome A) (k : Image → Outcome B) (same : (n : ℕ) → (o ≡ refused n) ↔ ((changeable s L work >>= k) ≡ refused n))
      (own : List ℕ) (later : Later own) (told : (i : Image) → Among own (k i)) where
    -- its own numbers are not those with which it begins
    own_later : (n : ℕ) → n ∈ own → n ∈ change_numbers → ⊥
    own_later n p q = false≢true (sym (not-true _ (in_all (λ j. not (any (eqb j) change_numbers)) own n later p)) ∙ q)

    -- why it is refused by a number with which it begins
    beginning : (n : ℕ) → n ∈ change_numbers → (o ≡ refused n) ↔ ChangeCase n
    beginning n q =
        Iff.trans (same n) (
          λ p. ⊎_elim (λ e. change_told small n e) (λ (i, a, r). absurd (own_later n (told i n r) q)) (bind_refused (changeable s L work) k n p),
          λ c. rw (change_back n c),
        )

    -- a number of its own is given behind row 11
    behind : (n : ℕ) → n ∈ own → (o ≡ refused n) ↔ ((i : Image) × MayChange s L work i × (k i ≡ refused n))
    behind n q =
        Iff.trans (same n) (
          λ p. ⊎_elim (λ e. absurd (own_later n q (change_number n (change_told small n e)))) (λ (i, a, r). (i, may_told i a, r)) (bind_refused (changeable s L work) k n p),
          λ (i, m, e). rw (may_back i m) e,
        )

    -- there is no other
    begins_or_own : Among (change_numbers ++ own) o
    begins_or_own n p =
        ⊎_elim (λ e. in_front change_numbers own n (change_number n (change_told small n e))) (λ (i, a, r). in_back change_numbers own n (told i n r))
        (bind_refused (changeable s L work) k n ((same n).0 p))

    change_rows : ChangeRows s L work o
    unfolding any numbers content_numbers change_numbers
    change_rows =
        record {
          row_1 = Iff.trans (beginning 1 refl) (λ c. one c, λ b. by_slice b refl);
          row_2 = Iff.trans (beginning 2 refl) (λ c. two c, λ (r, l). by_work r l refl);
          content_rows = λ n a. Iff.trans (beginning n (content_begins n a)) (λ c. found n a c, λ (l, h). by_content l h a);
          row_11 = Iff.trans (beginning 11 refl) (λ c. eleven c, λ (i, l, got, w). by_low_byte i l got w refl);
        }
      where
        one : ChangeCase 1 → No (SliceRule s L)
        one (by_slice b m) = b
        one (by_work r l m) = absurd (omega arith)
        one (by_content l h a) = absurd (false≢true a)
        one (by_low_byte i l got w m) = absurd (omega arith)

        two : ChangeCase 2 → SliceRule s L × (length work < length s)
        two (by_slice b m) = absurd (omega arith)
        two (by_work r l m) = (r, l)
        two (by_content l h a) = absurd (false≢true a)
        two (by_low_byte i l got w m) = absurd (omega arith)

        found : (n : ℕ) → n ∈ content_numbers → ChangeCase n → (length s ≤ length work) × (image_in s L ≡ refused n)
        found n q (by_slice b m) = absurd (false≢true (rw m at q))
        found n q (by_work r l m) = absurd (false≢true (rw m at q))
        found n q (by_content l h a) = (l, h)
        found n q (by_low_byte i l got w m) = absurd (false≢true (rw m at q))

        eleven : ChangeCase 11 → (i : Image) × (length s ≤ length work) × (image_in s L ≡ ok i) × (writable i.frame.format.layout s ≡ false)
        eleven (by_slice b m) = absurd (omega arith)
        eleven (by_work r l m) = absurd (omega arith)
        eleven (by_content l h a) = absurd (false≢true a)
        eleven (by_low_byte i l got w m) = (i, l, got, w)

-- what follows row 11 of an insertion
abbrev inserts : List ℕ → List ℕ → ℕ → List ℕ → Image → Outcome Plan
inserts s h a t i = do
  refuse 12 when not (headword_ok h)
  refuse 13 when not (text_ok t && attribute_ok a)
  fitting s (insert_placing i h a t)

-- why that is refused
data InsertCase (s h : List ℕ) (a : ℕ) (t : List ℕ) (i : Image) (n : ℕ) : Type 0 where
  by_headword : headword_ok h ≡ false → n ≡ 12 → InsertCase s h a t i n
  by_text : headword_ok h ≡ true → text_ok t && attribute_ok a ≡ false → n ≡ 13 → InsertCase s h a t i n
  by_placing : headword_ok h ≡ true → text_ok t && attribute_ok a ≡ true → plan_full s (insert_placing i h a t) ≡ true → n ≡ 15 → InsertCase s h a t i n

module _ (s : List ℕ) (L : ℕ) (work h : List ℕ) (a : ℕ) (t : List ℕ) where
  inserts_told : (i : Image) (n : ℕ) → inserts s h a t i ≡ refused n → InsertCase s h a t i n
  unfolding fitting
  inserts_told i n p =
      ⊎_elim (λ (x, m). by_headword (not-true (headword_ok h) x) m)
      (λ (x, q).
      ⊎_elim (λ (y, m). by_text (not-false (headword_ok h) x) (not-true (text_ok t && attribute_ok a) y) m)
      (λ (y, r).
      ⊎_elim (λ (z, m). by_placing (not-false (headword_ok h) x) (not-false (text_ok t && attribute_ok a) y) z m) (λ (z, u). absurd (ok_not_refused (insert_placing i h a t) n u))
      (when_refused 15 (plan_full s (insert_placing i h a t)) (ok (insert_placing i h a t)) n r))
      (when_refused 13 (not (text_ok t && attribute_ok a)) (fitting s (insert_placing i h a t)) n q))
      (when_refused 12 (not (headword_ok h)) _ n p)

  inserts_back : (i : Image) (n : ℕ) → InsertCase s h a t i n → inserts s h a t i ≡ refused n
  unfolding fitting
  inserts_back i n (by_headword x m) = rw (x, m)
  inserts_back i n (by_text x y m) = rw (x, y, m)
  inserts_back i n (by_placing x y z m) = rw (x, y, z, m)

  insert_answered : (n : ℕ) → ((insert s L work h a t).answer ≡ refused n) ↔ ((changeable s L work >>= inserts s h a t) ≡ refused n)
  unfolding insert insert_plan insert_result changed insert_placing
  insert_answered n = (go (insert_plan s L work h a t), λ e. rw e)
    where
      go : (o : Outcome Plan) → (insert_result s work o).answer ≡ refused n → o ≡ refused n
      go (refused k) p = let e : k ≡ n = cc in rw e
      go (ok p) q = absurd (ok_not_refused (plan_length p) n q)

  -- its own numbers
  abbrev insert_own : List ℕ
  insert_own = 12 ∷ 13 ∷ 15 ∷ []

  -- they are not those with which it begins
  insert_later : Later insert_own
  unfolding any all numbers content_numbers change_numbers
  insert_later = refl

  -- it gives no others behind row 11
  insert_told : (i : Image) → Among insert_own (inserts s h a t i)
  unfolding any
  insert_told i n p = go (inserts_told i n p)
    where
      go : InsertCase s h a t i n → n ∈ insert_own
      go (by_headword x m) = rw m
      go (by_text x y m) = rw m
      go (by_placing x y z m) = rw m

  -- the rows behind row 11
  insert_behind : T (are_bytes s) → (n : ℕ) → n ∈ insert_own → ((insert s L work h a t).answer ≡ refused n) ↔ ((i : Image) × MayChange s L work i × InsertCase s h a t i n)
  insert_behind small n q =
      Iff.trans (behind s L work small (insert s L work h a t).answer (inserts s h a t) insert_answered insert_own insert_later insert_told n q)
      (λ (i, m, e). (i, m, inserts_told i n e), λ (i, m, c). (i, m, inserts_back i n c))

  insert_rows : T (are_bytes s) → InsertRows s L work h a t
  unfolding any
  insert_rows small =
      record {
        change_rows = change_rows s L work small (insert s L work h a t).answer (inserts s h a t) insert_answered insert_own insert_later insert_told;
        row_12 = Iff.trans (insert_behind small 12 refl) (λ (i, m, c). (i, m, twelve c), λ (i, m, x). (i, m, by_headword x refl));
        row_13 = Iff.trans (insert_behind small 13 refl) (λ (i, m, c). let (x, y) = thirteen c in (i, m, x, y), λ (i, m, x, y). (i, m, by_text x y refl));
        row_15 = Iff.trans (insert_behind small 15 refl) (λ (i, m, c). let (x, y, z) = fifteen c in (i, m, x, y, z), λ (i, m, x, y, z). (i, m, by_placing x y z refl));
        no_other = begins_or_own s L work small (insert s L work h a t).answer (inserts s h a t) insert_answered insert_own insert_later insert_told;
      }
    where
      twelve : {i : Image} → InsertCase s h a t i 12 → headword_ok h ≡ false
      twelve (by_headword x m) = x
      twelve (by_text x y m) = absurd (omega arith)
      twelve (by_placing x y z m) = absurd (omega arith)

      thirteen : {i : Image} → InsertCase s h a t i 13 → (headword_ok h ≡ true) × (text_ok t && attribute_ok a ≡ false)
      thirteen (by_headword x m) = absurd (omega arith)
      thirteen (by_text x y m) = (x, y)
      thirteen (by_placing x y z m) = absurd (omega arith)

      fifteen : {i : Image} → InsertCase s h a t i 15 → (headword_ok h ≡ true) × (text_ok t && attribute_ok a ≡ true) × (plan_full s (insert_placing i h a t) ≡ true)
      fifteen (by_headword x m) = absurd (omega arith)
      fifteen (by_text x y m) = absurd (omega arith)
      fifteen (by_placing x y z m) = (x, y, z)

-- what follows row 12 of a deletion, by the entry looked up
abbrev removes : List ℕ → List ℕ → Image → Option Entry → Outcome (Option Plan)
removes s h i o = elim o [ none ↦ ok none | some e ↦ (fitting s (delete_placing i h) >>= λ p. ok (some p)) ]

-- what follows row 11
abbrev deletes : List ℕ → List ℕ → Image → Outcome (Option Plan)
deletes s h i = refuse 12 when not (headword_ok h) >> removes s h i (lookup h (entries_of i))

-- why that is refused
data DeleteCase (s h : List ℕ) (i : Image) (n : ℕ) : Type 0 where
  by_headword : headword_ok h ≡ false → n ≡ 12 → DeleteCase s h i n
  by_placing : (e : Entry) → headword_ok h ≡ true → lookup h (entries_of i) ≡ some e → plan_full s (delete_placing i h) ≡ true → n ≡ 15 → DeleteCase s h i n

module _ (s : List ℕ) (L : ℕ) (work h : List ℕ) where
  removes_told : (i : Image) (n : ℕ) → headword_ok h ≡ true → (o : Option Entry) → lookup h (entries_of i) ≡ o → removes s h i o ≡ refused n → DeleteCase s h i n
  unfolding fitting
  removes_told i n x none l p = absurd (ok_not_refused none n p)
  removes_told i n x (some e) l p =
      ⊎_elim (λ (z, m). by_placing e x l z m) (λ (z, u). absurd (ok_not_refused (delete_placing i h) n u))
      (when_refused 15 (plan_full s (delete_placing i h)) (ok (delete_placing i h)) n (then_refused (fitting s (delete_placing i h)) some n p))

  deletes_told : (i : Image) (n : ℕ) → deletes s h i ≡ refused n → DeleteCase s h i n
  deletes_told i n p =
      ⊎_elim (λ (x, m). by_headword (not-true (headword_ok h) x) m) (λ (x, q). removes_told i n (not-false (headword_ok h) x) (lookup h (entries_of i)) refl q)
      (when_refused 12 (not (headword_ok h)) (removes s h i (lookup h (entries_of i))) n p)

  deletes_back : (i : Image) (n : ℕ) → DeleteCase s h i n → deletes s h i ≡ refused n
  unfolding fitting
  deletes_back i n (by_headword x m) = rw (x, m)
  deletes_back i n (by_placing e x l z m) = rw (x, l, z, m)

  delete_answered : (n : ℕ) → ((delete s L work h).answer ≡ refused n) ↔ ((changeable s L work >>= deletes s h) ≡ refused n)
  unfolding delete delete_plan delete_result changed delete_placing
  delete_answered n = (go (delete_plan s L work h), λ e. rw e)
    where
      go : (o : Outcome (Option Plan)) → (delete_result s work o).answer ≡ refused n → o ≡ refused n
      go (refused k) p = let e : k ≡ n = cc in rw e
      go (ok none) q = absurd (ok_not_refused none n q)
      go (ok (some p)) q = absurd (ok_not_refused (some (plan_length p)) n q)

  -- its own numbers
  abbrev delete_own : List ℕ
  delete_own = 12 ∷ 15 ∷ []

  -- they are not those with which it begins
  delete_later : Later delete_own
  unfolding any all numbers content_numbers change_numbers
  delete_later = refl

  -- it gives no others behind row 11
  delete_told : (i : Image) → Among delete_own (deletes s h i)
  unfolding any
  delete_told i n p = go (deletes_told i n p)
    where
      go : DeleteCase s h i n → n ∈ delete_own
      go (by_headword x m) = rw m
      go (by_placing e x l z m) = rw m

  -- the rows behind row 11
  delete_behind : T (are_bytes s) → (n : ℕ) → n ∈ delete_own → ((delete s L work h).answer ≡ refused n) ↔ ((i : Image) × MayChange s L work i × DeleteCase s h i n)
  delete_behind small n q =
      Iff.trans (behind s L work small (delete s L work h).answer (deletes s h) delete_answered delete_own delete_later delete_told n q)
      (λ (i, m, e). (i, m, deletes_told i n e), λ (i, m, c). (i, m, deletes_back i n c))

  delete_rows : T (are_bytes s) → DeleteRows s L work h
  unfolding any
  delete_rows small =
      record {
        change_rows = change_rows s L work small (delete s L work h).answer (deletes s h) delete_answered delete_own delete_later delete_told;
        row_12 = Iff.trans (delete_behind small 12 refl) (λ (i, m, c). (i, m, twelve c), λ (i, m, x). (i, m, by_headword x refl));
        row_15 = Iff.trans (delete_behind small 15 refl) (λ (i, m, c). let (e, x, l, z) = fifteen c in (i, e, m, x, l, z), λ (i, e, m, x, l, z). (i, m, by_placing e x l z refl));
        no_other = begins_or_own s L work small (delete s L work h).answer (deletes s h) delete_answered delete_own delete_later delete_told;
      }
    where
      twelve : {i : Image} → DeleteCase s h i 12 → headword_ok h ≡ false
      twelve (by_headword x m) = x
      twelve (by_placing e x l z m) = absurd (omega arith)

      fifteen : {i : Image} → DeleteCase s h i 15 → (e : Entry) × (headword_ok h ≡ true) × (lookup h (entries_of i) ≡ some e) × (plan_full s (delete_placing i h) ≡ true)
      fifteen (by_headword x m) = absurd (omega arith)
      fifteen (by_placing e x l z m) = (e, x, l, z)

-- Optimise: behind row 11 nothing refuses.
module _ (s : List ℕ) (L : ℕ) (work : List ℕ) where
  optimise_answered : (n : ℕ) → ((optimise s L work).answer ≡ refused n) ↔ ((changeable s L work >>= λ i. ok (optimise_placing i)) ≡ refused n)
  unfolding optimise optimise_plan optimise_result changed optimise_placing
  optimise_answered n = (go (optimise_plan s L work), λ e. rw e)
    where
      go : (o : Outcome Plan) → (optimise_result s L work o).answer ≡ refused n → o ≡ refused n
      go (refused k) p = let e : k ≡ n = cc in rw e
      go (ok p) q = absurd (ok_not_refused (plan_length p) n q)

  module _ (small : T (are_bytes s)) where
    -- it has no number of its own
    optimise_told : (i : Image) → Among [] (ok (optimise_placing i))
    optimise_told i n p = absurd (ok_not_refused (optimise_placing i) n p)

    optimise_number : Among change_numbers (optimise s L work).answer
    unfolding all any numbers content_numbers change_numbers
    optimise_number = begins_or_own s L work small (optimise s L work).answer (λ i. ok (optimise_placing i)) optimise_answered [] refl optimise_told

    optimise_rows : OptimiseRows s L work
    unfolding No any all numbers content_numbers change_numbers
    optimise_rows =
        record {
          change_rows = change_rows s L work small (optimise s L work).answer (λ i. ok (optimise_placing i)) optimise_answered [] refl optimise_told;
          never_15 = λ p. false≢true (optimise_number 15 p);
          no_other = optimise_number;
        }

-- create: row 1, then row 3 by its argument
module _ (s : List ℕ) (k : NewFile) where
  -- it is refused as its bytes are
  create_refused : (n : ℕ) (o : Outcome (List ℕ)) → (create_result s o).answer ≡ refused n → o ≡ refused n
  unfolding create_result
  create_refused n (refused m) p = let e : m ≡ n = cc in ap refused e
  create_refused n (ok x) p = absurd (ok_not_refused {A = ℕ} 256 n p)

  create_told : (n : ℕ) → (create s k).answer ≡ refused n → ((length s < 256) × (n ≡ 1)) ⊎ ((256 ≤ length s) × (known_version k.version ≡ false) × (n ≡ 3))
  unfolding create create_bytes
  create_told n p =
      let t : Bool = not (known_version k.version) in
      ⊎_elim (λ (h, m). inl (ltb-true (length s) 256 h, m))
      (λ (f, q). ⊎_elim (λ (h, m). inr (ltb-false (length s) 256 f, not-true _ h, m)) (λ (g, r). absurd (ok_not_refused _ n r)) (when_refused 3 t (ok (new_image k)) n q))
      (when_refused 1 (ltb (length s) 256) (refuse 3 when t >> ok (new_image k)) n (create_refused n (create_bytes s k) p))

  create_rows : CreateRows s k
  unfolding create create_bytes create_result known_version any No
  create_rows =
      record {
        row_1 = (λ p. ⊎_elim (λ (l, m). l) (λ (l, t, m). clash (omega (arith, m))) (create_told 1 p), λ l. rw (lt-ltb (length s) 256 l));
        row_3 = (
          λ p. ⊎_elim (λ (l, m). clash (omega (arith, m)))
              (λ (l, t, m). let (a, b) = or_neither (eqb k.version 4) (eqb k.version 5) t in (l, eqb-false _ 4 a, eqb-false _ 5 b)) (create_told 3 p),
          λ (l, a, b). rw (le-ltb (length s) 256 l, ne_eqb k.version 4 a, ne_eqb k.version 5 b),
        );
        no_other = λ n p. ⊎_elim (λ (l, m). rw m) (λ (l, t, m). rw m) (create_told n p);
      }

-- check: the image's rows alone
check_rows : (s : List ℕ) (L : ℕ) → CheckRows s L
unfolding CheckRows check
check_rows s L n = (then_refused (image_in s L) figures n, λ e. rw e)

-- THE LAW: each call gives the first number in the order of testing
pub first_numbers : FirstNumbers
first_numbers =
    record {
      create_rows = create_rows;
      check_rows = check_rows;
      look_up_rows = look_up_rows;
      walk_rows = walk_rows;
      insert_rows = insert_rows;
      delete_rows = delete_rows;
      optimise_rows = optimise_rows;
    }
