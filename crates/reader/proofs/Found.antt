-- What the returns of look up and walk in an accepted image show, in the terms of the code.
use Prim.Native.Nat.{ℕ, ◌+◌, ◌-◌, ◌<◌, ◌≤◌}
use mathlib.Core.Path.{◌≡◌, refl, sym, ap, ◌∙◌}
use mathlib.Core.Bool.{Bool, true, false, not}
use mathlib.Core.List.{List}
use mathlib.Core.Option.{none, some}
use native.Mathlib.Omega.{arith}
use native.Mathlib.Nat.{sub-zero}
use lib.ListN.{length, get_or, take}
use lib.Seq.{take-length}
use lib.Dec.{ltb}
use borrow.Author.Tests.{lt-ltb, le-ltb, lt-leb, le-leb}
use Rattle.spec.specs.Outcome.{ok}
use Rattle.spec.specs.Bytes as BytesSpec
use Rattle.spec.specs.Bytes.{write, bytes_at, no_zero, bytes_equal}
use Rattle.spec.specs.Order.{below_of}
use Rattle.spec.specs.Entry.{Entry, headword_ok, text}
use Rattle.spec.specs.Run.{Run}
use Rattle.spec.specs.Check as Check
use Rattle.spec.specs.Check.{Image, runs_from, image_from, all_entries, entries_of}
use Rattle.spec.specs.SortedList.{lookup, successor}
use Rattle.spec.specs.Calls as Calls
use Rattle.spec.specs.Calls.{text_fitted, look_up_in, entry_fitted, start_ok, walk_in, look_up_result, walk_result}
use Rattle.spec.specs.Answers as Answers
use Rattle.spec.specs.Answers.{look_up_answer, walk_answer}
use Rattle.spec.specs.declared.Refusal.{Refusal}
use Rattle.spec.specs.declared.TextFound.{TextFound}
use Rattle.spec.specs.declared.EntryFound.{EntryFound}
use Rattle.std.specs.Prelude.{Option, Some, None, Result, Ok, Err}
use Rattle.spec.proofs.PartLaws.{length_bytes_at}
use Rattle.spec.proofs.SearchLaws.{exactly}
use Rattle.spec.specs.Index.{Element}
use Rattle.runs.proofs.Laws.{attribute_in, text_in}
use Rattle.seek.specs.Spot as SpotSpec
use Rattle.seek.specs.Spot.{spot_entry}
use Rattle.runs.specs.declared.EntryPlace.{EntryPlace}
use Rattle.inspect.specs.Overview.{AcceptedImage}
use Rattle.inspect.specs.declared.Overview.{Overview}
use Rattle.inspect.proofs.Accepted.{accepted_sought, accepted_lookup}

-- the entry whose body stands in the data area
abbrev pub entry_in : List ℕ → ℕ → ℕ → List ℕ → Entry
entry_in area z e h = record { headword = h; body = bytes_at (z + 1) (e - (z + 1)) area }

module _ (area : List ℕ) (z e : ℕ) (p : z + 2 ≤ e) (q : e ≤ length area) (out : List ℕ) where
  text_length : (h : List ℕ) → length (text (entry_in area z e h)) ≡ e - (z + 2)
  text_length h = ap length (text_in area h z e p q) ∙ length_bytes_at area (z + 2) (e - (z + 2)) (omega arith)

  -- row 14
  pub text_short : length out < e - (z + 2) → (h : List ℕ)
      → record { answer = look_up_answer (Err Refusal.ShortOutput); text = out } ≡ look_up_result out (text_fitted out (some (entry_in area z e h)))
  unfolding Calls.look_up_result Answers.look_up_answer Answers.number_of Calls.text_fitted
  text_short l h =
      let k : ltb (length out) (length (text (entry_in area z e h))) ≡ true = lt-ltb (length out) (length (text (entry_in area z e h))) (rw (text_length h) l) in
      rw k

  -- the text is copied
  pub text_given : e - (z + 2) ≤ length out → (out' : List ℕ) → out' ≡ write 0 (bytes_at (z + 2) (e - (z + 2)) area) out → (h : List ℕ)
      → record { answer = look_up_answer (Ok (Some (record { attribute = get_or area (z + 1) 0; text_length = e - (z + 2) }))); text = out' }
      ≡ look_up_result out (text_fitted out (some (entry_in area z e h)))
  unfolding Calls.look_up_result Answers.look_up_answer Answers.number_of Calls.text_fitted
  text_given l out' w h =
      let k : ltb (length out) (length (text (entry_in area z e h))) ≡ false = le-ltb (length out) (length (text (entry_in area z e h))) (rw (text_length h) l) in
      rw (k, attribute_in area h z e p q, text_length h, text_in area h z e p q, w)

module _ (s h out : List ℕ) (v : Overview) (a : AcceptedImage s v) (t : Bool) (rule : t ≡ headword_ok h) where
  -- row 12
  pub look_up_twelve : not t ≡ true → (i : Image) → image_from s ≡ ok i → record { answer = look_up_answer (Err Refusal.BadHeadword); text = out } ≡ look_up_result out (look_up_in i h out)
  unfolding Calls.look_up_result Answers.look_up_answer Answers.number_of Calls.look_up_in
  look_up_twelve q i o = rw (← rule, q)

  module _ (q : not t ≡ false) (area : List ℕ) (D : ℕ) (es : List Element) (told : (i : Image) → image_from s ≡ ok i → runs_from (below_of v.form.order) D area es ≡ ok i.runs)
      (word : List ℕ) (p : Option EntryPlace)
      (sought : (rs : List Run) → runs_from (below_of v.form.order) D area es ≡ ok rs → spot_entry area word p ≡ successor (below_of v.form.order) false h (all_entries rs))
      (i : Image) (o : image_from s ≡ ok i) where
    found : lookup h (entries_of i) ≡ exactly h (spot_entry area word p)
    found = accepted_lookup s v a i o area D es (told i o) (spot_entry area word p) false h sought refl

    opened : look_up_in i h out ≡ text_fitted out (exactly h (spot_entry area word p))
    unfolding Calls.look_up_in
    opened = rw (← rule, q, found)

    -- no entry is there
    pub look_up_absent : p ≡ None → record { answer = look_up_answer (Ok None); text = out } ≡ look_up_result out (look_up_in i h out)
    unfolding Calls.look_up_result Answers.look_up_answer Answers.number_of Calls.text_fitted SpotSpec.spot_entry
    look_up_absent x = sym (rw (opened, x))

    module _ (x : EntryPlace) (y : p ≡ Some x) (b : Bool) (same : b ≡ bytes_equal (take x.length word) h) where
      spot : exactly h (spot_entry area word p) ≡ elim b [ true ↦ some (entry_in area x.zero x.next (take x.length word)) | false ↦ none ]
      unfolding SpotSpec.spot_entry
      spot = rw (y, same)

      -- another entry stands there
      pub look_up_other : b ≡ false → record { answer = look_up_answer (Ok None); text = out } ≡ look_up_result out (look_up_in i h out)
      unfolding Calls.look_up_result Answers.look_up_answer Answers.number_of Calls.text_fitted
      look_up_other f =
          let g : exactly h (spot_entry area word p) ≡ none = spot ∙ rw f in
          ap (look_up_result out) (sym (opened ∙ ap (text_fitted out) g))

      -- it is the entry
      pub look_up_same : b ≡ true → (r : Result (Option TextFound) Refusal) (out' : List ℕ)
          → ((g : List ℕ) → record { answer = look_up_answer r; text = out' } ≡ look_up_result out (text_fitted out (some (entry_in area x.zero x.next g))))
          → record { answer = look_up_answer r; text = out' } ≡ look_up_result out (look_up_in i h out)
      look_up_same f r out' g =
          let y' : exactly h (spot_entry area word p) ≡ some (entry_in area x.zero x.next (take x.length word)) = spot ∙ rw f in
          g (take x.length word) ∙ ap (look_up_result out) (sym (opened ∙ ap (text_fitted out) y'))

-- row 12 of a walk
pub start_long : (h : List ℕ) → 248 < length h → false ≡ start_ok h
unfolding Calls.start_ok
start_long h p = rw (lt-leb (length h) 248 p)

pub start_clear : (h : List ℕ) → length h ≤ 248 → (t : Bool) → t ≡ no_zero (bytes_at 0 (length h - 0) h) → t ≡ start_ok h
unfolding Calls.start_ok BytesSpec.bytes_at
start_clear h p t e = rw (le-leb (length h) 248 p) (rw (sub-zero, take-length h) at e)

module _ (area : List ℕ) (z e : ℕ) (p : z + 2 ≤ e) (q : e ≤ length area) (h out text_out : List ℕ) where
  -- row 14: the headword's output
  pub entry_long : length out < length h
      → record { answer = walk_answer (Err Refusal.ShortOutput); headword = out; text = text_out } ≡ walk_result out text_out (entry_fitted out text_out (some (entry_in area z e h)))
  unfolding Calls.walk_result Answers.walk_answer Answers.number_of Calls.entry_fitted
  entry_long l =
      let k : ltb (length out) (length h) ≡ true = lt-ltb (length out) (length h) l in
      rw k

  module _ (fits : length h ≤ length out) where
    headword_fits : ltb (length out) (length h) ≡ false
    headword_fits = le-ltb (length out) (length h) fits

    -- row 14: the text's output
    pub entry_short : length text_out < e - (z + 2)
        → record { answer = walk_answer (Err Refusal.ShortOutput); headword = out; text = text_out } ≡ walk_result out text_out (entry_fitted out text_out (some (entry_in area z e h)))
    unfolding Calls.walk_result Answers.walk_answer Answers.number_of Calls.entry_fitted
    entry_short l =
        let k : ltb (length text_out) (length (text (entry_in area z e h))) ≡ true = lt-ltb (length text_out) (length (text (entry_in area z e h))) (rw (text_length area z e p q out h) l) in
        rw (headword_fits, k)

    -- both are copied
    pub entry_given : e - (z + 2) ≤ length text_out → (out' text' : List ℕ) → out' ≡ write 0 (bytes_at 0 (length h) h) out → text' ≡ write 0 (bytes_at (z + 2) (e - (z + 2)) area) text_out
        → record { answer = walk_answer (Ok (Some (record { attribute = get_or area (z + 1) 0; headword_length = length h; text_length = e - (z + 2) }))); headword = out'; text = text' }
        ≡ walk_result out text_out (entry_fitted out text_out (some (entry_in area z e h)))
    unfolding Calls.walk_result Answers.walk_answer Answers.number_of Calls.entry_fitted BytesSpec.bytes_at
    entry_given l out' text' u w =
        let k : ltb (length text_out) (length (text (entry_in area z e h))) ≡ false = le-ltb (length text_out) (length (text (entry_in area z e h))) (rw (text_length area z e p q out h) l) in
        let v : out' ≡ write 0 h out = rw (take-length h) at u in
        rw (headword_fits, k, attribute_in area h z e p q, text_length area z e p q out h, text_in area h z e p q, v, w)

module _ (s h out text_out : List ℕ) (v : Overview) (a : AcceptedImage s v) (above t : Bool) (rule : t ≡ start_ok h) where
  -- row 12
  pub walk_twelve : not t ≡ true → (i : Image) → image_from s ≡ ok i
      → record { answer = walk_answer (Err Refusal.BadHeadword); headword = out; text = text_out } ≡ walk_result out text_out (walk_in i above h out text_out)
  unfolding Calls.walk_result Answers.walk_answer Answers.number_of Calls.walk_in
  walk_twelve q i o = rw (← rule, q)

  module _ (q : not t ≡ false) (area : List ℕ) (D : ℕ) (es : List Element) (told : (i : Image) → image_from s ≡ ok i → runs_from (below_of v.form.order) D area es ≡ ok i.runs)
      (word : List ℕ) (p : Option EntryPlace)
      (sought : (rs : List Run) → runs_from (below_of v.form.order) D area es ≡ ok rs → spot_entry area word p ≡ successor (below_of v.form.order) above h (all_entries rs)) where
    walked : (i : Image) → image_from s ≡ ok i → walk_in i above h out text_out ≡ entry_fitted out text_out (spot_entry area word p)
    unfolding Check.entries_of Calls.walk_in
    walked i o =
        let x : spot_entry area word p ≡ successor i.frame.format.below above h (entries_of i)
        = accepted_sought s v a i o area D es (told i o) (spot_entry area word p) above h sought in
        rw (← rule, q, ← x)

    -- past the last
    pub walk_absent : p ≡ None → (i : Image) → image_from s ≡ ok i
        → record { answer = walk_answer (Ok None); headword = out; text = text_out } ≡ walk_result out text_out (walk_in i above h out text_out)
    unfolding Calls.walk_result Answers.walk_answer Answers.number_of Calls.entry_fitted SpotSpec.spot_entry
    walk_absent x i o = sym (rw (walked i o, x))

    -- the entry found
    pub walk_found : (x : EntryPlace) → p ≡ Some x → (r : Result (Option EntryFound) Refusal) (out' text' : List ℕ)
        → record { answer = walk_answer r; headword = out'; text = text' }
        ≡ walk_result out text_out (entry_fitted out text_out (some (entry_in area x.zero x.next (take x.length word))))
        → (i : Image) → image_from s ≡ ok i → record { answer = walk_answer r; headword = out'; text = text' } ≡ walk_result out text_out (walk_in i above h out text_out)
    unfolding SpotSpec.spot_entry
    walk_found x y r out' text' g i o = g ∙ ap (walk_result out text_out) (sym (walked i o ∙ rw y))
