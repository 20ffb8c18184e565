-- What each call of the claim gives on an accepted image: the first row that applies, else its answer and its bytes.
use Prim.Native.Nat.{ℕ}
use mathlib.Core.Path.{◌≡◌, refl, ap, ap₂, ◌∙◌}
use mathlib.Core.Bool.{Bool, true, false, not, ◌&&◌, ◌||◌}
use mathlib.Core.List.{List, [], ◌∷◌}
use mathlib.Core.Option.{Option, none, some}
use lib.ListN.{length, take}
use lib.Dec.{ltb}
use Rattle.spec.specs.Outcome.{Outcome, refused, ok, ◌>>=◌, ◌>>◌, refuse◌when◌}
use Rattle.spec.specs.Header.{writable}
use Rattle.spec.specs.Entry.{Entry, headword_ok, attribute, text}
use Rattle.spec.specs.Check.{Image, image_in, image_from, slice_ok, work_ok, entries_of}
use Rattle.spec.specs.SortedList.{lookup, successor}
use Rattle.spec.specs.Place.{Plan, plan_full, plan_written}
use Rattle.spec.specs.Calls.{text_fitted, look_up_in, look_up_entry, look_up_result, look_up, entry_fitted, start_ok, walk_in, walk_entry, walk_result, walk, changeable, fitting, changed, plan_length, insert_plan, insert_result, insert, delete_plan, delete_result, delete, optimise_plan, given_up_zeroed, optimise_result, optimise}
use Rattle.spec.specs.Claim.{look_up_call, walk_call, insert_call, delete_call, optimise_call, Observed, text_found, entry_found, done, tell_text, tell_entry, tell_removed, Performed, new_length, new_length_or, observed_text, observed_entry, observed_done, observed_removed, perform, Row, ◌if◌, first_row, too_short, short_for_text, short_for_entry, is_there, insert_placing, delete_placing, optimise_placing, rows, expected}
use Rattle.spec.proofs.OutcomeLaws.{next_ok}
use Rattle.spec.proofs.WriteLaws.{written_front}

-- a refusal by its number, or an answer
abbrev verdict : {A : Type 0} → Option ℕ → A → Outcome A
verdict none a = ok a
verdict (some n) a = refused n

-- rows one after the other, then what follows them
abbrev by_rows : {A : Type 0} → List Row → Outcome A → Outcome A
by_rows [] o = o
by_rows (r ∷ rs) o = refuse r.number when r.applies >> by_rows rs o

-- the first row that applies gives its number
rows_verdict : {A : Type 0} (rs : List Row) (a : A) → by_rows rs (ok a) ≡ verdict (first_row rs) a
unfolding first_row
rows_verdict [] a = refl
rows_verdict (r ∷ rs) a = go r.applies refl (rows_verdict rs a)
  where
    go : (t : Bool) → r.applies ≡ t → by_rows rs (ok a) ≡ verdict (first_row rs) a → by_rows (r ∷ rs) (ok a) ≡ verdict (first_row (r ∷ rs)) a
    go true e ih = rw (e, first_row)
    go false e ih = rw (e, first_row) ih

-- an accepted image in the slice: row 1 does not apply, and rows 3 to 10 give it
pub in_told : (s : List ℕ) (L : ℕ) (i : Image) → image_in s L ≡ ok i → (slice_ok s L ≡ ok tt) × (image_from (take L s) ≡ ok i)
unfolding image_in
in_told s L i h = let (u, a, k) = next_ok (slice_ok s L) (image_from (take L s)) i h in (a, k)

module _ (s : List ℕ) (L : ℕ) (i : Image) (got : image_in s L ≡ ok i) where
  short_text : (out : List ℕ) (o : Option Entry) → elim o [ none ↦ false | some e ↦ ltb (length out) (length (text e)) ] ≡ short_for_text out o
  unfolding short_for_text too_short
  short_text out none = refl
  short_text out (some e) = refl

  look_up_verdict : (h out : List ℕ) → look_up_entry s L h out ≡ verdict (first_row (rows s i (entries_of i) (look_up_call h out))) (lookup h (entries_of i))
  unfolding look_up_entry look_up_in text_fitted rows ◌if◌
  look_up_verdict h out = rw (got, short_text out (lookup h (entries_of i))) (rows_verdict (rows s i (entries_of i) (look_up_call h out)) (lookup h (entries_of i)))

  -- what is observed of a look up
  pub look_up_observed : (h out : List ℕ) → (perform s L (look_up_call h out)).observed ≡ expected (first_row (rows s i (entries_of i) (look_up_call h out))) (tell_text (lookup h (entries_of i)))
  unfolding perform look_up look_up_result observed_text expected tell_text
  look_up_observed h out = rw (look_up_verdict h out) (go (first_row (rows s i (entries_of i) (look_up_call h out))) (lookup h (entries_of i)))
    where
      go : (n : Option ℕ) (o : Option Entry) → observed_text (look_up_result out (verdict n o)).answer (look_up_result out (verdict n o)).text ≡ expected n (tell_text o)
      go (some n) o = refl
      go none none = refl
      go none (some e) = ap (λ (x : List ℕ). ok (text_found (attribute e) x (length (text e)))) (written_front (text e) out (length (text e)) refl)

  short_entry : (out_headword out_text : List ℕ) (o : Option Entry)
      → elim o [ none ↦ false | some e ↦ ltb (length out_headword) (length e.headword) || ltb (length out_text) (length (text e)) ] ≡ short_for_entry out_headword out_text o
  unfolding short_for_entry too_short
  short_entry out_headword out_text none = refl
  short_entry out_headword out_text (some e) = refl

  walk_verdict : (above : Bool) (h out_headword out_text : List ℕ)
      → walk_entry s L above h out_headword out_text
      ≡ verdict (first_row (rows s i (entries_of i) (walk_call above h out_headword out_text))) (successor i.frame.format.below above h (entries_of i))
  unfolding walk_entry walk_in entry_fitted start_ok rows ◌if◌
  walk_verdict above h out_headword out_text =
      let found : Option Entry = successor i.frame.format.below above h (entries_of i) in
      rw (got, short_entry out_headword out_text found) (rows_verdict (rows s i (entries_of i) (walk_call above h out_headword out_text)) found)

  -- what is observed of a walk
  pub walk_observed : (above : Bool) (h out_headword out_text : List ℕ)
      → (perform s L (walk_call above h out_headword out_text)).observed
      ≡ expected (first_row (rows s i (entries_of i) (walk_call above h out_headword out_text))) (tell_entry (successor i.frame.format.below above h (entries_of i)))
  unfolding perform walk walk_result observed_entry expected tell_entry
  walk_observed above h out_headword out_text =
      rw (walk_verdict above h out_headword out_text) (go (first_row (rows s i (entries_of i) (walk_call above h out_headword out_text))) (successor i.frame.format.below above h (entries_of i)))
    where
      go : (n : Option ℕ) (o : Option Entry)
          → observed_entry (walk_result out_headword out_text (verdict n o)).answer (walk_result out_headword out_text (verdict n o)).headword (walk_result out_headword out_text (verdict n o)).text
          ≡ expected n (tell_entry o)
      go (some n) o = refl
      go none none = refl
      go none (some e) =
          ap₂ (λ (x y : List ℕ). ok (entry_found x y (attribute e) (length e.headword) (length (text e))))
          (written_front e.headword out_headword (length e.headword) refl) (written_front (text e) out_text (length (text e)) refl)

  -- rows 2 and 11 of a changing call, then what follows
  changes : {A : Type 0} (work : List ℕ) (k : Image → Outcome A)
      → (changeable s L work >>= k) ≡ (refuse 2 when ltb (length work) (length s) >> (refuse 11 when not (writable i.frame.format.layout s) >> k i))
  unfolding changeable work_ok
  changes work k =
      let (a, b) = in_told s L i got in
      rw (a, b) (go (ltb (length work) (length s)) (not (writable i.frame.format.layout s)))
    where
      go : (t u : Bool) → ((refuse 2 when t >> (refuse 11 when u >> ok i)) >>= k) ≡ (refuse 2 when t >> (refuse 11 when u >> k i))
      go true u = refl
      go false true = refl
      go false false = refl

  -- what a change leaves: nothing is changed by a refusal
  abbrev pub left : Observed → Option ℕ → List ℕ → ℕ → Performed
  left told (some n) image after = record { observed = refused n; image = s; length_after = L }
  left told none image after = record { observed = ok told; image = image; length_after = after }

  insert_verdict : (work h : List ℕ) (a : ℕ) (t : List ℕ) → insert_plan s L work h a t ≡ verdict (first_row (rows s i (entries_of i) (insert_call work h a t))) (insert_placing i h a t)
  unfolding insert_plan fitting rows ◌if◌ too_short insert_placing
  insert_verdict work h a t = changes work _ ∙ rows_verdict (rows s i (entries_of i) (insert_call work h a t)) (insert_placing i h a t)

  -- an insertion
  pub insert_performed : (work h : List ℕ) (a : ℕ) (t : List ℕ)
      → perform s L (insert_call work h a t) ≡ left done (first_row (rows s i (entries_of i) (insert_call work h a t))) (plan_written (insert_placing i h a t) s) (plan_length (insert_placing i h a t))
  unfolding perform insert insert_result changed observed_done new_length
  insert_performed work h a t = rw (insert_verdict work h a t) (go (first_row (rows s i (entries_of i) (insert_call work h a t))))
    where
      go : (n : Option ℕ)
          → record {
            observed = observed_done (insert_result s work (verdict n (insert_placing i h a t))).answer;
            image = (insert_result s work (verdict n (insert_placing i h a t))).image;
            length_after = new_length L (insert_result s work (verdict n (insert_placing i h a t))).answer;
          }
          ≡ left done n (plan_written (insert_placing i h a t) s) (plan_length (insert_placing i h a t))
      go (some n) = refl
      go none = refl

  optimise_verdict : (work : List ℕ) → optimise_plan s L work ≡ verdict (first_row (rows s i (entries_of i) (optimise_call work))) (optimise_placing i)
  unfolding optimise_plan rows ◌if◌ too_short optimise_placing
  optimise_verdict work = changes work _ ∙ rows_verdict (rows s i (entries_of i) (optimise_call work)) (optimise_placing i)

  -- an optimising
  pub optimise_performed : (work : List ℕ)
      → perform s L (optimise_call work)
      ≡ left done (first_row (rows s i (entries_of i) (optimise_call work))) (given_up_zeroed L (optimise_placing i) (plan_written (optimise_placing i) s)) (plan_length (optimise_placing i))
  unfolding perform optimise optimise_result changed observed_done new_length
  optimise_performed work = rw (optimise_verdict work) (go (first_row (rows s i (entries_of i) (optimise_call work))))
    where
      go : (n : Option ℕ)
          → record {
            observed = observed_done (optimise_result s L work (verdict n (optimise_placing i))).answer;
            image = (optimise_result s L work (verdict n (optimise_placing i))).image;
            length_after = new_length L (optimise_result s L work (verdict n (optimise_placing i))).answer;
          }
          ≡ left done n (given_up_zeroed L (optimise_placing i) (plan_written (optimise_placing i) s)) (plan_length (optimise_placing i))
      go (some n) = refl
      go none = refl

  -- the plan of a deletion, if there is an entry to remove
  abbrev removal : List ℕ → Option Entry → Option Plan
  removal h none = none
  removal h (some e) = some (delete_placing i h)

  -- rows 2, 11 and 12 of a deletion, then what is looked up
  removes : (work h : List ℕ) (o : Option Entry) → Outcome (Option Plan)
  removes work h o =
      refuse 2 when too_short work s >> (refuse 11 when not (writable i.frame.format.layout s)
      >> (refuse 12 when not (headword_ok h) >> elim o [ none ↦ ok none | some e ↦ (fitting s (delete_placing i h) >>= λ p. ok (some p)) ]))

  -- and its rows by what is looked up
  removal_rows : (work h : List ℕ) (o : Option Entry) → List Row
  removal_rows work h o =
      2 if too_short work s
      ∷ 11 if not (writable i.frame.format.layout s)
      ∷ 12 if not (headword_ok h)
      ∷ 15 if (is_there o && plan_full s (delete_placing i h))
      ∷ []

  removes_verdict : (work h : List ℕ) (o : Option Entry) → removes work h o ≡ verdict (first_row (removal_rows work h o)) (removal h o)
  unfolding removes removal_rows ◌if◌ is_there fitting
  removes_verdict work h none = rows_verdict (removal_rows work h none) none
  removes_verdict work h (some e) =
      ap (λ (o : Outcome (Option Plan)). refuse 2 when too_short work s >> (refuse 11 when not (writable i.frame.format.layout s) >> (refuse 12 when not (headword_ok h) >> o)))
      (go (plan_full s (delete_placing i h)))
      ∙ rows_verdict (removal_rows work h (some e)) (some (delete_placing i h))
    where
      go : (t : Bool) → ((refuse 15 when t >> ok (delete_placing i h)) >>= λ p. ok (some p)) ≡ (refuse 15 when t >> ok (some (delete_placing i h)))
      go true = refl
      go false = refl

  delete_verdict : (work h : List ℕ) → delete_plan s L work h ≡ verdict (first_row (rows s i (entries_of i) (delete_call work h))) (removal h (lookup h (entries_of i)))
  unfolding delete_plan rows too_short delete_placing removes removal_rows
  delete_verdict work h = changes work _ ∙ removes_verdict work h (lookup h (entries_of i))

  -- the slice after a deletion that is not refused, by the entry looked up
  abbrev pub slice_without : List ℕ → Option Entry → List ℕ
  slice_without h none = s
  slice_without h (some e) = plan_written (delete_placing i h) s

  -- and its L
  abbrev pub length_without : List ℕ → Option Entry → ℕ
  length_without h none = L
  length_without h (some e) = plan_length (delete_placing i h)

  -- a deletion
  pub delete_performed : (work h : List ℕ)
      → perform s L (delete_call work h)
      ≡ left (tell_removed (lookup h (entries_of i))) (first_row (rows s i (entries_of i) (delete_call work h))) (slice_without h (lookup h (entries_of i)))
      (length_without h (lookup h (entries_of i)))
  unfolding perform delete delete_result changed observed_removed new_length_or tell_removed
  delete_performed work h = rw (delete_verdict work h) (go (first_row (rows s i (entries_of i) (delete_call work h))) (lookup h (entries_of i)))
    where
      go : (n : Option ℕ) (o : Option Entry)
          → record {
            observed = observed_removed (delete_result s work (verdict n (removal h o))).answer;
            image = (delete_result s work (verdict n (removal h o))).image;
            length_after = new_length_or L (delete_result s work (verdict n (removal h o))).answer;
          }
          ≡ left (tell_removed o) n (slice_without h o) (length_without h o)
      go (some n) o = refl
      go none none = refl
      go none (some e) = refl
