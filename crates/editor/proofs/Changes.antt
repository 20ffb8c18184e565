-- Insert and delete: the plan that the code makes is the specification's, and what each return shows.
use Prim.Native.Nat.{ℕ, ◌+◌, ◌-◌, ◌%◌, ◌≤◌}
use mathlib.Core.Path.{◌≡◌, refl, sym, ap, ap₂, subst, ◌∙◌}
use mathlib.Core.Logic.{◌⊎◌, inl, inr}
use mathlib.Core.Bool.{Bool, true, false, true≢false, false≢true}
use mathlib.Core.List.{List, [], ◌∷◌, ◌++◌}
use mathlib.Core.Option.{Option, none, some}
use native.Mathlib.Omega.{arith}
use Rattle.std.specs.Prelude.{Result, Ok, Err}
use Rattle.std.specs.Prelude as std
use lib.ListN.{length, take, drop, set}
use lib.Seq.{take_at}
use lib.Dec.{leb}
use borrow.Author.Tests.{leb-true}
use Rattle.spec.specs.Outcome.{ok, ◌>>=◌}
use Rattle.spec.specs.Bytes.{no_zero}
use Rattle.spec.specs.Order.{HeadwordOrder}
use Rattle.spec.specs.Header.{Format, Lawful, format_of, writable}
use Rattle.spec.specs.Entry as EntrySpec
use Rattle.spec.specs.Entry.{Entry, headword_ok, text_ok, attribute_ok, entry_of}
use Rattle.spec.specs.Check as Check
use Rattle.spec.specs.Check.{Frame, Image, image_from, all_entries, entries_of}
use Rattle.spec.specs.SortedList.{Sorted, lookup, replace, remove}
use Rattle.spec.specs.Place as Place
use Rattle.spec.specs.Place.{Plan, Target, target_run, plan_change}
use Rattle.spec.specs.Calls as Calls
use Rattle.spec.specs.Calls.{changeable, fitting, insert_plan, delete_plan}
use Rattle.spec.specs.Answers as Answers
use Rattle.spec.specs.declared.Refusal.{Refusal}
use Rattle.spec.specs.Claim as Claim
use Rattle.spec.specs.Claim.{is_there}
use Rattle.spec.proofs.ListsLaws.{and_left}
use Rattle.spec.proofs.OutcomeLaws.{same_value}
use Rattle.spec.proofs.HeaderLaws.{lawful_format}
use Rattle.spec.specs.Sound.{EntriesOk, SoundPlan}
use Rattle.spec.proofs.StoredIndexLaws.{empty_below}
use Rattle.spec.proofs.SortedLaws.{ok_front, ok_back, ok_sorted}
use Rattle.spec.proofs.TargetLaws.{Concerned, target_concerned}
use Rattle.spec.proofs.ChangeLaws.{Sound, image_sound, image_ascends, insert_entries, insert_sound, delete_entries, delete_sound}
use Rattle.parts.specs.Merge.{merge}
use Rattle.parts.proofs.MergeLaws.{merge_replace, merge_remove}
use Rattle.header.specs.Form.{layout_named}
use Rattle.inspect.specs.declared.Overview.{Overview}
use Rattle.inspect.specs.Overview.{AcceptedImage}
use Rattle.change.specs.Ready.{planned, old_length, Changed}
use Rattle.change.specs.declared.Draft.{Draft}
use Rattle.change.specs.Drafted.{Drafted, PlanCounted}
use Rattle.editor.specs.Entered.{words_after}
use Rattle.editor.proofs.Counts.{replace_count, remove_count}
use Rattle.editor.proofs.Rows.{Inserts, Deletes, insert_refuses, delete_refuses, whole_blocks, change_may}

-- ---- the image
-- so many entries are in the image that is read
words_in : (s : List ℕ) (v : Overview) → AcceptedImage s v → (i : Image) → image_from s ≡ ok i → v.words ≡ length (entries_of i)
words_in s v a i got = a.words_are ∙ ap (λ (j : Image). length (entries_of j)) (same_value a.image i (sym a.is ∙ got))

-- ---- the arguments
-- a text by its rule has no more than 3,000 bytes
pub text_short : (t : List ℕ) → text_ok t ≡ true → length t ≤ 3_000
unfolding EntrySpec.text_ok
text_short t e = leb-true (length t) 3_000 (and_left (leb (length t) 3_000) (no_zero t) e)

-- the body of the new entry, as the code puts it together in a buffer: the attribute, then a copy of the text
pub body_made : (b : ℕ) (t x copy : List ℕ) (k : ℕ) → copy ≡ t → 1 ≤ length x → take (1 + length t) (take 1 (set x 0 b) ++ (copy ++ drop k (drop 1 (set x 0 b)))) ≡ b ∷ t
body_made b t [] copy k e p = absurd (omega arith)
body_made b t (y ∷ ys) copy k e p = take_at (b ∷ copy) (drop k ys) (1 + length t) (omega (arith, ap length e)) ∙ ap (λ (l : List ℕ). b ∷ l) e

-- ---- the plan
-- a change counts only by what it makes of the entries of the run concerned
plan_same : (F : Format) (i : Image) (h : List ℕ) (f k : List Entry → List Entry)
    → f (target_run F.below h i.runs).entries ≡ k (target_run F.below h i.runs).entries → plan_change F i h f ≡ plan_change F i h k
unfolding Place.plan_change
plan_same F i h f k e = rw e

module _ (s : List ℕ) (i : Image) (got : image_from s ≡ ok i) where
  -- the image's own format
  abbrev F : Format
  F = i.frame.format

  -- its order of headwords
  abbrev below : HeadwordOrder
  below = F.below

  -- what is known of the image by the format that its header names
  sound_named : Sound (format_of s) s i
  unfolding Check.image_from
  sound_named = image_sound (format_of s) s i got

  -- that format is its own
  own : format_of s ≡ F
  own = sym (ap (λ (f : Frame). f.format) sound_named.fits.is)

  -- it is lawful
  law : Lawful F
  law = subst Lawful own (lawful_format s)

  -- and what is known goes by it
  sound : Sound F s i
  sound = subst (λ (G : Format). Sound G s i) own sound_named

  -- its entries ascend
  ascends : EntriesOk below [] (entries_of i)
  ascends = image_ascends F law s i sound

  -- the entries of the run concerned ascend
  target_sorted : (h : List ℕ) → Sorted below (target_run below h i.runs).entries
  unfolding Check.entries_of
  target_sorted h =
      let c : Target = target_run below h i.runs in
      let k : Concerned below h i.runs c = target_concerned below law.ordered h i.runs sound.ascend in
      let g : EntriesOk below [] (all_entries c.before ++ c.entries ++ all_entries c.after) = subst (EntriesOk below []) k.entries ascends in
      ok_sorted below law.ordered [] c.entries (ok_back below law.ordered [] (all_entries c.before) c.entries
      (ok_front below law.ordered [] (all_entries c.before ++ c.entries) (all_entries c.after) g))

  -- a fresh entry is put in
  merged_replace : (h body : List ℕ) → planned i h body true ≡ plan_change F i h (replace below (record { headword = h; body = body }))
  merged_replace h body =
      plan_same F i h (merge below (record { headword = h; body = body }) true) (replace below (record { headword = h; body = body }))
      (merge_replace below (record { headword = h; body = body }) law.ordered (target_run below h i.runs).entries (target_sorted h))

  -- without one the headword goes
  merged_remove : (h body : List ℕ) → planned i h body false ≡ plan_change F i h (remove h)
  merged_remove h body =
      plan_same F i h (merge below (record { headword = h; body = body }) false) (remove h)
      (merge_remove below (record { headword = h; body = body }) law.ordered (target_run below h i.runs).entries)

  -- what the change asks of the plan of an insertion
  insert_planned : (h : List ℕ) (b : ℕ) (t : List ℕ) → headword_ok h ≡ true → text_ok t ≡ true → attribute_ok b ≡ true
      → SoundPlan F (planned i h (b ∷ t) true) × (words_after (length (entries_of i)) (is_there (lookup h (entries_of i))) ≡ length (all_entries (planned i h (b ∷ t) true).runs))
  unfolding EntrySpec.body_ok
  insert_planned h b t x y z =
      let a : Entry = record { headword = h; body = b ∷ t } in
      let good : EntriesOk below [] (a ∷ []) = (x, rw (z, y), empty_below below law.ordered h x, tt) in
      let e : planned i h (b ∷ t) true ≡ plan_change F i h (replace below a) = merged_replace h (b ∷ t) in
      let n : length (all_entries (plan_change F i h (replace below a)).runs) ≡ words_after (length (entries_of i)) (is_there (lookup h (entries_of i))) =
      ap length (insert_entries F law s i sound a good) ∙ replace_count below law.ordered a (entries_of i) ascends in
      (subst (SoundPlan F) (sym e) (insert_sound F law s i sound a good), sym (ap (λ (p : Plan). length (all_entries p.runs)) e ∙ n))

  -- and of a deletion
  delete_planned : (h body : List ℕ) → is_there (lookup h (entries_of i)) ≡ true → SoundPlan F (planned i h body false) × (1 ≤ length (entries_of i))
      × (length (entries_of i) - 1 ≡ length (all_entries (planned i h body false).runs))
  delete_planned h body q =
      let e : planned i h body false ≡ plan_change F i h (remove h) = merged_remove h body in
      let (p, n) = remove_count below law.ordered h (entries_of i) ascends q in (
        subst (SoundPlan F) (sym e) (delete_sound F law s i sound h),
        p,
        n ∙ sym (ap (λ (p : Plan). length (all_entries p.runs)) e ∙ ap length (delete_entries F law s i sound h)),
      )

-- ---- the draft of a change
-- p is the draft of the change in the image at the front of s, of which v tells
abbrev pub DraftOf : List ℕ → Overview → List ℕ → List ℕ → Bool → Draft → Type 0
DraftOf s v h body fresh p = (p.old ≡ v) × (p.fresh ≡ fresh) × Drafted (take (old_length v) s) h body p

-- by the number of its bytes as code works it out
pub draft_front : (s : List ℕ) (v : Overview) (h body : List ℕ) (fresh : Bool) (p : Draft) (len : ℕ) → len ≡ old_length v
    → (p.old ≡ v) × (p.fresh ≡ fresh) × Drafted (take len s) h body p → DraftOf s v h body fresh p
draft_front s v h body fresh p len there (a, b, d) = (a, b, subst (λ (k : ℕ). Drafted (take k s) h body p) there d)

-- what the change asks is what it asks by its draft
module _ (s : List ℕ) (v : Overview) (h body : List ℕ) (fresh : Bool) (p : Draft) (drafted : DraftOf s v h body fresh p) where
  -- the plan's entries are counted
  draft_counted : (words : ℕ) → PlanCounted (take (old_length v) s) h body fresh words → PlanCounted (take (old_length p.old) s) h body p.fresh words
  draft_counted words g =
      subst (λ (b : Bool). PlanCounted (take (old_length p.old) s) h body b words) (sym drafted.1)
      (subst (λ (w : Overview). PlanCounted (take (old_length w) s) h body fresh words) (sym drafted.0) g)

  -- and what it comes to is what the change of the image comes to
  draft_changed : (r : Result ℕ Refusal) (s' : List ℕ) → Changed s (old_length p.old) h body p.fresh r s' → Changed s (old_length v) h body fresh r s'
  draft_changed r s' g =
      subst (λ (w : Overview). Changed s (old_length w) h body fresh r s') drafted.0
      (subst (λ (b : Bool). Changed s (old_length p.old) h body b r s') drafted.1 g)

-- ---- what the change asks of its plan
-- of an insertion
pub insert_ready : (s : List ℕ) (v : Overview) → AcceptedImage (take (old_length v) s) v → (h : List ℕ) → headword_ok h ≡ true → (t : List ℕ) → text_ok t ≡ true → (b : ℕ) → attribute_ok b ≡ true
    → (body : List ℕ) → body ≡ b ∷ t → (p : Draft) → DraftOf s v h body true p → (words : ℕ) → words ≡ words_after v.words p.found
    → PlanCounted (take (old_length p.old) s) h body p.fresh words
insert_ready s v a h good t rule b sure body made p drafted words e =
    draft_counted s v h body true p drafted words λ i got.
    let k = insert_planned (take (old_length v) s) i got h b t good rule sure in
    rw made (k.0, e ∙ ap₂ words_after (words_in (take (old_length v) s) v a i got) (drafted.2.found_is i got) ∙ k.1)

-- of a deletion
module _ (s : List ℕ) (v : Overview) (a : AcceptedImage (take (old_length v) s) v) (h body : List ℕ) (p : Draft) (drafted : DraftOf s v h body false p) (q : p.found ≡ true) where
  -- the entry is there
  there : (i : Image) → image_from (take (old_length v) s) ≡ ok i → is_there (lookup h (entries_of i)) ≡ true
  there i got = sym (drafted.2.found_is i got) ∙ q

  -- so there is one
  pub delete_some : 1 ≤ v.words
  delete_some = rw a.words_are (delete_planned (take (old_length v) s) a.image a.is h body (there a.image a.is)).1

  -- and one less is left
  pub delete_ready : (words : ℕ) → words ≡ v.words - 1 → PlanCounted (take (old_length p.old) s) h body p.fresh words
  delete_ready words e =
      draft_counted s v h body false p drafted words λ i got.
      let k = delete_planned (take (old_length v) s) i got h body (there i got) in
      (k.0, e ∙ ap (λ (n : ℕ). n - 1) (words_in (take (old_length v) s) v a i got) ∙ k.2)

-- ---- the returns
-- what a look up tells by its test
there_none : (o : Option Entry) → is_there o ≡ false → o ≡ none
unfolding Claim.is_there
there_none none q = refl
there_none (some e) q = absurd (true≢false q)

-- one is there
there_some : (o : Option Entry) → is_there o ≡ true → (e : Entry) × (o ≡ some e)
unfolding Claim.is_there
there_some none q = absurd (false≢true q)
there_some (some e) q = (e, refl)

module _ (s work : List ℕ) (v : Overview) (a : AcceptedImage (take (old_length v) s) v) (inside : old_length v ≤ length s) (enough : length s ≤ length work) (h : List ℕ) where
  -- the bytes of the image
  abbrev L : ℕ
  L = old_length v

  -- which are whole blocks
  blocks : L % 256 ≡ 0
  blocks = whole_blocks (take L s) v a

  module _ (may : writable (layout_named s) s ≡ true) where
    -- the image may be changed
    image_ok : changeable s L work ≡ ok a.image
    image_ok = change_may s L work (omega arith) blocks inside enough v a may

    -- row 12
    pub insert_twelve : headword_ok h ≡ false → (b : ℕ) (t : List ℕ) → Inserts s L work h b t (Err Refusal.BadHeadword) s
    unfolding Calls.insert_plan Answers.number_of
    insert_twelve q b t = insert_refuses s L work h b t Refusal.BadHeadword (rw (image_ok, q))

    pub delete_twelve : headword_ok h ≡ false → Deletes s L work h (Err Refusal.BadHeadword) s
    unfolding Calls.delete_plan Answers.number_of
    delete_twelve q = delete_refuses s L work h Refusal.BadHeadword (rw (image_ok, q))

    -- Insert
    module _ (good : headword_ok h ≡ true) (b : ℕ) (t : List ℕ) where
      -- row 13: the text breaks its rule, or the attribute does
      pub insert_thirteen : (text_ok t ≡ false) ⊎ ((text_ok t ≡ true) × (attribute_ok b ≡ false)) → Inserts s L work h b t (Err Refusal.BadText) s
      unfolding Calls.insert_plan Answers.number_of
      insert_thirteen (inl q) = insert_refuses s L work h b t Refusal.BadText (rw (image_ok, good, q))
      insert_thirteen (inr (rule, q)) = insert_refuses s L work h b t Refusal.BadText (rw (image_ok, good, rule, q))

      module _ (rule : text_ok t ≡ true) where
        module _ (sure : attribute_ok b ≡ true) (body : List ℕ) (made : body ≡ b ∷ t) where
          -- the plan decides
          insert_by : insert_plan s L work h b t ≡ fitting s (planned a.image h body true)
          unfolding Calls.insert_plan EntrySpec.entry_of
          insert_by =
              let F : Format = a.image.frame.format in
              let e : planned a.image h (b ∷ t) true ≡ plan_change F a.image h (replace F.below (entry_of h b t)) = merged_replace (take L s) a.image a.is h (b ∷ t) in
              rw (image_ok, good, rule, sure, made, e)

          -- what the change comes to: row 15, or the insertion, by which the image is the plan written
          pub insert_changed : (p : Draft) → DraftOf s v h body true p → (r : Result ℕ Refusal) (s' : List ℕ) → Changed s (old_length p.old) h body p.fresh r s' → Inserts s L work h b t r s'
          unfolding Calls.insert Calls.insert_result Calls.fitting Calls.changed Answers.length_answer Answers.number_of
          insert_changed p drafted (Err k) s' left =
              let (z, g) = draft_changed s v h body true p drafted (Err k) s' left in
              let (f, l) = g a.image a.is in
              rw (z, l) (insert_refuses s L work h b t Refusal.Full (rw (insert_by, f)))
          insert_changed p drafted (Ok len) s' left =
              let (k, l, m) = draft_changed s v h body true p drafted (Ok len) s' left a.image a.is in
              (sym (rw (insert_by, k, ← l)), sym (rw (insert_by, k, ← m)))

    -- Delete
    module _ (good : headword_ok h ≡ true) (body : List ℕ) (p : Draft) (drafted : DraftOf s v h body false p) where
      -- whether an entry has the headword
      found : is_there (lookup h (entries_of a.image)) ≡ p.found
      found = sym (drafted.2.found_is a.image a.is)

      -- no entry has it
      pub delete_absent : p.found ≡ false → Deletes s L work h (Ok std.None) s
      unfolding Calls.delete Calls.delete_plan Calls.delete_result Calls.changed Answers.delete_answer
      delete_absent q =
          let e : lookup h (entries_of a.image) ≡ none = there_none (lookup h (entries_of a.image)) (found ∙ q) in
          (sym (rw (image_ok, good, e)), sym (rw (image_ok, good, e)))

      module _ (stands : p.found ≡ true) where
        -- the plan decides
        delete_by : delete_plan s L work h ≡ (fitting s (planned a.image h body false) >>= λ p. ok (some p))
        unfolding Calls.delete_plan
        delete_by =
            let (e, o) = there_some (lookup h (entries_of a.image)) (found ∙ stands) in
            rw (image_ok, good, o, merged_remove (take L s) a.image a.is h body)

        -- row 15
        pub delete_full : (k : Refusal) (s' : List ℕ) → Changed s (old_length p.old) h body p.fresh (Err k) s' → Deletes s L work h (Err k) s'
        unfolding Calls.fitting Answers.number_of
        delete_full k s' left =
            let (z, g) = draft_changed s v h body false p drafted (Err k) s' left in
            let (f, l) = g a.image a.is in
            rw (z, l) (delete_refuses s L work h Refusal.Full (rw (delete_by, f)))

        -- the deletion: the image is the plan written
        pub delete_done : (len : ℕ) (s' : List ℕ) → Changed s (old_length p.old) h body p.fresh (Ok len) s' → Deletes s L work h (Ok (std.Some len)) s'
        unfolding Calls.delete Calls.delete_result Calls.fitting Calls.changed Answers.delete_answer
        delete_done len s' left =
            let (k, l, m) = draft_changed s v h body false p drafted (Ok len) s' left a.image a.is in
            (sym (rw (delete_by, k, ← l)), sym (rw (delete_by, k, ← m)))
