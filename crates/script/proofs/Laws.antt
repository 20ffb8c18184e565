-- What is left of each call of a script by its answer. Of the call's own working slice only the length matters.
use Prim.Native.Nat.{ℕ}
use mathlib.Core.Path.{◌≡◌, refl, sym, ap, ◌∙◌}
use mathlib.Core.Bool.{Bool}
use mathlib.Core.List.{List}
use mathlib.Core.Option.{Option, none, some}
use lib.ListN.{length, replicate}
use Rattle.spec.specs.Outcome.{Outcome, refused, ok}
use Rattle.spec.specs.Bytes.{zeros}
use Rattle.spec.specs.Check.{work_ok}
use Rattle.spec.specs.Place.{Plan}
use Rattle.spec.specs.Calls.{ChangeResult, look_up, walk, insert, delete, optimise, changeable, work_after, changed}
use Rattle.spec.specs.Calls.{insert_plan, insert_result, delete_plan, delete_result, optimise_plan, optimise_result}
use Rattle.spec.specs.Claim.{look_up_call, walk_call, insert_call, delete_call, optimise_call, perform, new_length, new_length_or, observed_text, observed_entry, observed_done, observed_removed}
use Rattle.spec.specs.Answers as Answers
use Rattle.spec.specs.Answers.{number_of, code, length_answer, look_up_answer, walk_answer, delete_answer}
use Rattle.spec.specs.declared.Refusal.{Refusal}
use Rattle.spec.specs.declared.TextFound.{TextFound}
use Rattle.spec.specs.declared.EntryFound.{EntryFound}
use Rattle.std.specs.Prelude as std
use Rattle.std.specs.Prelude.{Result, Some, None, Ok, Err}
use Rattle.spec.proofs.BytesLaws.{length_zeros}
use Rattle.script.specs.Script.{code_of, found_code, work_left, Told, told}

-- zeros, as an array has them
zeros_are : (n : ℕ) → replicate n 0 ≡ zeros n
unfolding zeros
zeros_are n = refl

-- A look up by its answer: what is observed of it,
module _ (r : Result (std.Option TextFound) Refusal) (t s h : List ℕ) (L : ℕ) (e : record { answer = look_up_answer r; text = t } ≡ look_up s L h (replicate 3000 0)) where
  look_up_given : (perform s L (look_up_call h (zeros 3000))).observed ≡ observed_text (look_up_answer r) t
  unfolding perform
  look_up_given = rw (← zeros_are 3000, ← e)

  look_up_told : (r : Result (std.Option TextFound) Refusal) → found_code r ≡ code_of (observed_text (look_up_answer r) t)
  unfolding code_of found_code observed_text Answers.look_up_answer
  look_up_told (Err k) = refl
  look_up_told (Ok None) = refl
  look_up_told (Ok (Some f)) = refl

  -- its code
  pub look_up_code : (n : ℕ) → n ≡ found_code r → n ≡ code_of (perform s L (look_up_call h (zeros 3000))).observed
  look_up_code n q = q ∙ (look_up_told r ∙ ap code_of (sym look_up_given))

-- A walk by its answer: what is observed of it,
module _ (r : Result (std.Option EntryFound) Refusal) (w t s h : List ℕ) (L : ℕ) (above : Bool) (e : record {
  answer =
      walk_answer r;
  headword = w;
  text = t;
} ≡ walk s L above h (replicate 248 0) (replicate 3000 0)) where
  walk_given : (perform s L (walk_call above h (zeros 248) (zeros 3000))).observed ≡ observed_entry (walk_answer r) w t
  unfolding perform
  walk_given = rw (← zeros_are 3000, ← zeros_are 248, ← e)

  walk_told : (r : Result (std.Option EntryFound) Refusal) → found_code r ≡ code_of (observed_entry (walk_answer r) w t)
  unfolding code_of found_code observed_entry Answers.walk_answer
  walk_told (Err k) = refl
  walk_told (Ok None) = refl
  walk_told (Ok (Some f)) = refl

  -- its code
  pub walk_code : (n : ℕ) → n ≡ found_code r → n ≡ code_of (perform s L (walk_call above h (zeros 248) (zeros 3000))).observed
  walk_code n q = q ∙ (walk_told r ∙ ap code_of (sym walk_given))

-- What code knows of an answer that may be absent,
module _ {A : Type 0} (r : Result (std.Option A) Refusal) where
  -- a refusal's number
  pub code_refused : (k : Refusal) (n : ℕ) → r ≡ Err k → n ≡ number_of k → n ≡ found_code r
  unfolding found_code
  code_refused k n q m = rw q m

  -- absent: 100
  pub code_absent : (x : std.Option A) → r ≡ Ok x → x ≡ None → 100 ≡ found_code r
  unfolding found_code
  code_absent x q p = rw (q, p)

  -- found: 0
  pub code_found : (x : std.Option A) (a : A) → r ≡ Ok x → x ≡ Some a → 0 ≡ found_code r
  unfolding found_code
  code_found x a q p = rw (q, p)

-- and of one that is a length
module _ (r : Result ℕ Refusal) (L : ℕ) where
  -- refused: its number, and the length stays
  pub change_refused : (k : Refusal) (n : ℕ) → r ≡ Err k → n ≡ number_of k → (n ≡ code (length_answer r)) × (L ≡ new_length L (length_answer r))
  unfolding Answers.length_answer Answers.code new_length
  change_refused k n q m = (rw q m, rw q)

  -- done: 0, and the new length
  pub change_done : (n : ℕ) → r ≡ Ok n → (0 ≡ code (length_answer r)) × (n ≡ new_length L (length_answer r))
  unfolding Answers.length_answer Answers.code new_length
  change_done n q = (rw q, rw q)

-- the code of what is observed of a change is the code of its answer
done_code : (o : Outcome ℕ) → code o ≡ code_of (observed_done o)
unfolding Answers.code code_of observed_done
done_code (refused n) = refl
done_code (ok l) = refl

-- rows 1 to 11 go by the working slice's length alone
changeable_work : (s : List ℕ) (L : ℕ) (work other : List ℕ) → length work ≡ length other → changeable s L work ≡ changeable s L other
unfolding changeable work_ok
changeable_work s L work other e = rw e

-- what is left of an insertion or an optimising by its result and the working slice then
abbrev done_by : ℕ → ChangeResult ℕ → List ℕ → Told
done_by L r work = record { code = code_of (observed_done r.answer); image = r.image; length_after = new_length L r.answer; work = work }

-- of a deletion
abbrev removed_by : ℕ → ChangeResult (Option ℕ) → List ℕ → Told
removed_by L r work = record { code = code_of (observed_removed r.answer); image = r.image; length_after = new_length_or L r.answer; work = work }

-- an insertion by its plan is the same with any other working slice, and its own is left as the answer says
insert_by : (s : List ℕ) (L : ℕ) (work other : List ℕ) (o : Outcome Plan)
    → done_by L (insert_result s other o) (work_after (observed_done (insert_result s other o).answer) work) ≡ done_by L (insert_result s work o) (insert_result s work o).work
unfolding insert_result changed observed_done work_after
insert_by s L work other (refused n) = refl
insert_by s L work other (ok p) = refl

-- so is a deletion
delete_by : (s : List ℕ) (L : ℕ) (work other : List ℕ) (o : Outcome (Option Plan))
    → removed_by L (delete_result s other o) (work_after (observed_removed (delete_result s other o).answer) work) ≡ removed_by L (delete_result s work o) (delete_result s work o).work
unfolding delete_result changed observed_removed work_after
delete_by s L work other (refused n) = refl
delete_by s L work other (ok none) = refl
delete_by s L work other (ok (some p)) = refl

-- and an optimising
optimise_by : (s : List ℕ) (L : ℕ) (work other : List ℕ) (o : Outcome Plan)
    → done_by L (optimise_result s L other o) (work_after (observed_done (optimise_result s L other o).answer) work) ≡ done_by L (optimise_result s L work o) (optimise_result s L work o).work
unfolding optimise_result changed observed_done work_after
optimise_by s L work other (refused n) = refl
optimise_by s L work other (ok p) = refl

-- An insertion by its answer and the slices then: what is left of it,
module _ (r : Result ℕ Refusal) (s' work' s work h : List ℕ) (a : ℕ) (t : List ℕ) (L : ℕ) (e : record { answer = length_answer r; image = s'; work = work' } ≡ insert s L work h a t) where
  insert_given : told s L work (insert_call (zeros (length work)) h a t) ≡ done_by L (record { answer = length_answer r; image = s'; work = work' }) work'
  unfolding told work_left perform insert insert_plan
  insert_given =
      let z : List ℕ = zeros (length work) in
      rw (changeable_work s L z work (length_zeros (length work))) (insert_by s L work z (insert_plan s L work h a t)) ∙ ap (λ (x : ChangeResult ℕ). done_by L x x.work) (sym e)

  -- by its code and the length that stands then
  pub insert_told : (n l : ℕ) → n ≡ code (length_answer r) → l ≡ new_length L (length_answer r)
      → record { code = n; image = s'; length_after = l; work = work' } ≡ told s L work (insert_call (zeros (length work)) h a t)
  insert_told n l p q = rw (insert_given, p, q, done_code (length_answer r))

-- A deletion by its answer and the slices then: what is left of it,
module _ (r : Result (std.Option ℕ) Refusal) (s' work' s work h : List ℕ) (L : ℕ) (e : record { answer = delete_answer r; image = s'; work = work' } ≡ delete s L work h) where
  delete_given : told s L work (delete_call (zeros (length work)) h) ≡ removed_by L (record { answer = delete_answer r; image = s'; work = work' }) work'
  unfolding told work_left perform delete delete_plan
  delete_given =
      let z : List ℕ = zeros (length work) in
      rw (changeable_work s L z work (length_zeros (length work))) (delete_by s L work z (delete_plan s L work h)) ∙ ap (λ (x : ChangeResult (Option ℕ)). removed_by L x x.work) (sym e)

  -- refused: its number, and the length stays
  pub delete_refused : (k : Refusal) (n : ℕ) → r ≡ Err k → n ≡ number_of k → record { code = n; image = s'; length_after = L; work = work' } ≡ told s L work (delete_call (zeros (length work)) h)
  unfolding code_of observed_removed new_length_or Answers.delete_answer
  delete_refused k n q m = rw (delete_given, q, m)

  -- absent: 100, and the length stays
  pub delete_absent : (x : std.Option ℕ) → r ≡ Ok x → x ≡ None → record { code = 100; image = s'; length_after = L; work = work' } ≡ told s L work (delete_call (zeros (length work)) h)
  unfolding code_of observed_removed new_length_or Answers.delete_answer
  delete_absent x q p = rw (delete_given, q, p)

  -- removed: 0, and the new length
  pub delete_done : (x : std.Option ℕ) (n : ℕ) → r ≡ Ok x → x ≡ Some n → record { code = 0; image = s'; length_after = n; work = work' } ≡ told s L work (delete_call (zeros (length work)) h)
  unfolding code_of observed_removed new_length_or Answers.delete_answer
  delete_done x n q p = rw (delete_given, q, p)

-- An optimising by its answer and the slices then: what is left of it,
module _ (r : Result ℕ Refusal) (s' work' s work : List ℕ) (L : ℕ) (e : record { answer = length_answer r; image = s'; work = work' } ≡ optimise s L work) where
  optimise_given : told s L work (optimise_call (zeros (length work))) ≡ done_by L (record { answer = length_answer r; image = s'; work = work' }) work'
  unfolding told work_left perform optimise optimise_plan
  optimise_given =
      let z : List ℕ = zeros (length work) in
      rw (changeable_work s L z work (length_zeros (length work))) (optimise_by s L work z (optimise_plan s L work)) ∙ ap (λ (x : ChangeResult ℕ). done_by L x x.work) (sym e)

  -- by its code and the length that stands then
  pub optimise_told : (n l : ℕ) → n ≡ code (length_answer r) → l ≡ new_length L (length_answer r)
      → record { code = n; image = s'; length_after = l; work = work' } ≡ told s L work (optimise_call (zeros (length work)))
  optimise_told n l p q = rw (optimise_given, p, q, done_code (length_answer r))
