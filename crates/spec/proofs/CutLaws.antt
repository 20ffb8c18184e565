-- Step 2: `cut` loses no entry, its parts are those that document 01 words, and there are no others.
use Prim.Native.Nat.{ℕ, ◌+◌, ◌<◌, ◌≤◌}
use mathlib.Core.Path.{◌≡◌, refl, sym, ap, ap₂, ◌∙◌}
use mathlib.Core.Logic.{inl, inr, ⊎_elim}
use mathlib.Core.Bool.{Bool, true, false}
use mathlib.Core.List.{List, [], ◌∷◌, ◌++◌, append_assoc, append-nil}
use native.Mathlib.Omega.{arith}
use lib.ListN.{length, take, drop, length-append, take-append-drop}
use lib.Seq.{take_at, drop_at, take-append-le}
use lib.Dec.{leb, ltb}
use borrow.Author.Tests.{leb-true, leb-false, ltb-true, ltb-false}
use Rattle.spec.specs.Entry.{Entry, entry_bytes}
use Rattle.spec.specs.Run.{entries_bytes, encoded_size}
use Rattle.spec.specs.Place.{into_first, cut_after, cut}
use Rattle.spec.specs.CutForm.{IsPart, IsCut, joined_parts, CutIsCut, OneCut}

joined_first : (e : Entry) (ps : List (List Entry)) → joined_parts (into_first e ps) ≡ e ∷ joined_parts ps
unfolding into_first joined_parts
joined_first e [] = refl
joined_first e (p ∷ ps) = refl

joined_after : (limit n : ℕ) (prev : List ℕ) (es : List Entry) → joined_parts (cut_after limit n prev es) ≡ es
unfolding cut_after joined_parts
joined_after limit n prev [] = refl
joined_after limit n prev (e ∷ es) =
    go (joined_after limit (n + length (entry_bytes prev e)) e.headword es) (joined_after limit (4 + length (entry_bytes [] e)) e.headword es) (leb (n + length (entry_bytes prev e)) limit) refl
  where
    go : joined_parts (cut_after limit (n + length (entry_bytes prev e)) e.headword es) ≡ es → joined_parts (cut_after limit (4 + length (entry_bytes [] e)) e.headword es) ≡ es
        → (b : Bool) → leb (n + length (entry_bytes prev e)) limit ≡ b → joined_parts (cut_after limit n prev (e ∷ es)) ≡ e ∷ es
    go h k true q = rw (q, cut_after) (joined_first e _ ∙ ap (λ (l : List Entry). e ∷ l) h)
    go h k false q = rw (q, cut_after) (joined_first e _ ∙ ap (λ (l : List Entry). e ∷ l) k)

-- the parts of a list are the list
pub cut_joined : (limit : ℕ) (es : List Entry) → joined_parts (cut limit es) ≡ es
unfolding cut joined_parts
cut_joined limit [] = refl
cut_joined limit (e ∷ es) = joined_first e _ ∙ ap (λ (l : List Entry). e ∷ l) (joined_after limit (4 + length (entry_bytes [] e)) e.headword es)

-- a last entry's bytes follow those of the entries before it
entries_last : (p : List ℕ) (xs : List Entry) (e d : Entry) → entries_bytes p (xs ++ e ∷ d ∷ []) ≡ entries_bytes p (xs ++ e ∷ []) ++ entry_bytes e.headword d
unfolding entries_bytes
entries_last p [] e d = simp append-nil
entries_last p (x ∷ xs) e d = rw (entries_last x.headword xs e d) (sym (append_assoc (entry_bytes p x) _ _))

-- the entries pre encode in n bytes, and one more after them in as many more as it takes behind the headword prev
Measures : List Entry → ℕ → List ℕ → Type 0
Measures pre n prev = (d : Entry) → encoded_size (pre ++ d ∷ []) ≡ n + length (entry_bytes prev d)

measures_one : (e : Entry) → Measures (e ∷ []) (4 + length (entry_bytes [] e)) e.headword
unfolding Measures encoded_size entries_bytes
measures_one e d = simp (length-append, append-nil) (omega arith)

measures_more : (pre : List Entry) (n : ℕ) (prev : List ℕ) (e : Entry) → Measures pre n prev → Measures (pre ++ e ∷ []) (n + length (entry_bytes prev e)) e.headword
unfolding Measures encoded_size
measures_more pre n prev e m d =
    let q : 2 + length (entries_bytes [] (pre ++ e ∷ [])) + 2 ≡ n + length (entry_bytes prev e) = m e in
    rw (append_assoc, entries_last [] pre e d, length-append) (omega arith)

-- parts with more entries in front of the first
onto : List Entry → List (List Entry) → List (List Entry)
onto pre [] = pre ∷ []
onto pre (q ∷ qs) = (pre ++ q) ∷ qs

onto_one : (e : Entry) (ps : List (List Entry)) → into_first e ps ≡ onto (e ∷ []) ps
unfolding into_first onto
onto_one e [] = refl
onto_one e (p ∷ ps) = refl

onto_first : (pre : List Entry) (e : Entry) (ps : List (List Entry)) → onto pre (into_first e ps) ≡ onto (pre ++ e ∷ []) ps
unfolding into_first onto
onto_first pre e [] = refl
onto_first pre e (p ∷ ps) = rw (append_assoc pre (e ∷ []) p)

-- a full part in front of a cut whose first part begins with the entry that would pass the limit
full_first : (limit : ℕ) (pre : List Entry) (e : Entry) (ps : List (List Entry)) → IsPart limit pre → limit < encoded_size (pre ++ e ∷ []) → IsCut limit (into_first e ps)
    → IsCut limit (pre ∷ into_first e ps)
unfolding IsCut into_first
full_first limit pre e [] a b c = (a, record { next = e; others = []; begins = refl; passes = b }, c)
full_first limit pre e (p ∷ ps) a b c = (a, record { next = e; others = p; begins = refl; passes = b }, c)

-- the rest of a cut behind the entries pre of its first part
after_is_cut : (limit n : ℕ) (prev : List ℕ) (pre es : List Entry) → IsPart limit pre → Measures pre n prev → IsCut limit (onto pre (cut_after limit n prev es))
unfolding cut_after onto IsCut Measures
after_is_cut limit n prev pre [] a m = rw (append-nil pre) a
after_is_cut limit n prev pre (e ∷ es) a m =
    go (leb (n + length (entry_bytes prev e)) limit) refl
    (λ k. after_is_cut limit (n + length (entry_bytes prev e)) e.headword (pre ++ e ∷ []) es (more k) (measures_more pre n prev e m))
    (after_is_cut limit (4 + length (entry_bytes [] e)) e.headword (e ∷ []) es (alone e) (measures_one e))
  where
    alone : (d : Entry) → IsPart limit (d ∷ [])
    alone d = record { some_entry = omega arith; fits = inr refl }

    more : n + length (entry_bytes prev e) ≤ limit → IsPart limit (pre ++ e ∷ [])
    more k = record { some_entry = simp length-append (omega arith); fits = inl (rw (m e) k) }

    go : (b : Bool) → leb (n + length (entry_bytes prev e)) limit ≡ b
        → (n + length (entry_bytes prev e) ≤ limit → IsCut limit (onto (pre ++ e ∷ []) (cut_after limit (n + length (entry_bytes prev e)) e.headword es)))
        → IsCut limit (onto (e ∷ []) (cut_after limit (4 + length (entry_bytes [] e)) e.headword es))
        → IsCut limit (onto pre (cut_after limit n prev (e ∷ es)))
    go true q ih one = rw (q, cut_after, onto_first pre e _) (ih (leb-true (n + length (entry_bytes prev e)) limit q))
    go false q ih one =
        let k : limit < n + length (entry_bytes prev e) = leb-false (n + length (entry_bytes prev e)) limit q in
        rw (q, cut_after, append-nil pre) (full_first limit pre e _ a (rw (m e) k) (rw (onto_one e _) one))

-- THE LAW of step 2
pub cut_is_cut : CutIsCut
unfolding CutIsCut cut IsCut
cut_is_cut limit [] = (cut_joined limit [], tt)
cut_is_cut limit (e ∷ es) = (
  cut_joined limit (e ∷ es),
  rw (onto_one e _) (after_is_cut limit (4 + length (entry_bytes [] e)) e.headword (e ∷ []) es (record { some_entry = omega arith; fits = inr refl }) (measures_one e)),
)

-- more entries encode in no fewer bytes
bytes_grow : (p : List ℕ) (xs ys : List Entry) → length (entries_bytes p xs) ≤ length (entries_bytes p (xs ++ ys))
unfolding entries_bytes
bytes_grow p [] ys = omega arith
bytes_grow p (x ∷ xs) ys = simp length-append (omega (arith, bytes_grow x.headword xs ys))

size_grows : (xs ys : List Entry) → encoded_size xs ≤ encoded_size (xs ++ ys)
unfolding encoded_size
size_grows xs ys = omega (arith, bytes_grow [] xs ys)

-- the first part of a cut is one
pub first_part : (limit : ℕ) (p : List Entry) (ps : List (List Entry)) → IsCut limit (p ∷ ps) → IsPart limit p
unfolding IsCut
first_part limit p [] c = c
first_part limit p (q ∷ ps) c = c.0

-- and the others are a cut
pub other_parts : (limit : ℕ) (p : List Entry) (ps : List (List Entry)) → IsCut limit (p ∷ ps) → IsCut limit ps
unfolding IsCut
other_parts limit p [] c = tt
other_parts limit p (q ∷ ps) (a, f, c) = c

-- a part that begins with a full part and the next entry would pass the limit
too_long : (limit : ℕ) (p q X Y : List Entry) (next : Entry) → 1 ≤ length p → limit < encoded_size (p ++ next ∷ []) → IsPart limit q → p ++ next ∷ X ≡ q ++ Y → length p < length q → ⊥
too_long limit p q X Y next some full part e h =
    let size : length (p ++ next ∷ []) ≡ length p + 1 = length-append p (next ∷ []) in
    let inside : length (p ++ next ∷ []) ≤ length q = omega arith in
    let front : take (length (p ++ next ∷ [])) q ≡ p ++ next ∷ [] =
    sym (take-append-le (length (p ++ next ∷ [])) q Y inside) ∙ ap (take (length (p ++ next ∷ []))) (sym e ∙ sym (append_assoc p (next ∷ []) X))
    ∙ take_at (p ++ next ∷ []) X (length (p ++ next ∷ [])) refl in
    let begins : q ≡ (p ++ next ∷ []) ++ drop (length (p ++ next ∷ [])) q = sym (take-append-drop (length (p ++ next ∷ [])) q) ∙ ap (λ (l : List Entry). l ++ drop (length (p ++ next ∷ [])) q) front in
    ⊎_elim (λ (f : encoded_size q ≤ limit). omega (arith, ap encoded_size begins, size_grows (p ++ next ∷ []) (drop (length (p ++ next ∷ [])) q))) (λ (f : length q ≡ 1). omega arith) part.fits

-- a first part is not shorter than that of another cut of the same list
not_shorter : (limit : ℕ) (p q : List Entry) (ps : List (List Entry)) (Y : List Entry) → IsCut limit (p ∷ ps) → IsPart limit q → p ++ joined_parts ps ≡ q ++ Y → length p < length q → ⊥
unfolding IsCut joined_parts
not_shorter limit p q [] Y c part e h = omega (arith, length-append p [], length-append q Y, ap length e)
not_shorter limit p q (r ∷ ps) Y (a, f, c) part e h =
    too_long limit p q (f.others ++ joined_parts ps) Y f.next a.some_entry f.passes part (ap (λ (l : List Entry). p ++ (l ++ joined_parts ps)) (sym f.begins) ∙ e) h

-- THE LAW of step 2, the other way round
pub one_cut : OneCut
unfolding OneCut joined_parts
one_cut limit [] [] c d e = refl
one_cut limit [] (q ∷ qs) c d e = absurd (omega (arith, (first_part limit q qs d).some_entry, length-append q (joined_parts qs), ap length e))
one_cut limit (p ∷ ps) [] c d e = absurd (omega (arith, (first_part limit p ps c).some_entry, length-append p (joined_parts ps), ap length e))
one_cut limit (p ∷ ps) (q ∷ qs) c d e = go (one_cut limit ps qs (other_parts limit p ps c) (other_parts limit q qs d)) (ltb (length p) (length q)) refl (ltb (length q) (length p)) refl
  where
    go : (joined_parts ps ≡ joined_parts qs → ps ≡ qs) → (t : Bool) → ltb (length p) (length q) ≡ t → (u : Bool) → ltb (length q) (length p) ≡ u → ◌≡◌ {A = List (List Entry)} (p ∷ ps) (q ∷ qs)
    go ih true x u y = absurd (not_shorter limit p q ps (joined_parts qs) c (first_part limit q qs d) e (ltb-true (length p) (length q) x))
    go ih false x true y = absurd (not_shorter limit q p qs (joined_parts ps) d (first_part limit p ps c) (sym e) (ltb-true (length q) (length p) y))
    go ih false x false y =
        let same : length p ≡ length q = omega (arith, ltb-false (length p) (length q) x, ltb-false (length q) (length p) y) in
        let heads : p ≡ q = sym (take_at p (joined_parts ps) (length q) same) ∙ ap (take (length q)) e ∙ take_at q (joined_parts qs) (length q) refl in
        let tails : joined_parts ps ≡ joined_parts qs = sym (drop_at p (joined_parts ps) (length q) same) ∙ ap (drop (length q)) e ∙ drop_at q (joined_parts qs) (length q) refl in
        ap₂ (λ (a : List Entry) (l : List (List Entry)). a ∷ l) heads (ih tails)
