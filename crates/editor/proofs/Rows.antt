-- What the returns of the changing calls show, in the terms of the code: rows 1 to 11, the working slice, create and optimise.
use Prim.Native.Nat.{ℕ, ◌%◌, ◌^◌, ◌<◌, ◌≤◌}
use mathlib.Core.Path.{◌≡◌, refl, sym, ap, subst, ◌∙◌}
use mathlib.Core.Bool.{true, false, not}
use mathlib.Core.List.{List}
use native.Mathlib.Omega.{arith}
use Rattle.std.specs.Prelude.{Option, Result, Ok, Err}
use lib.ListN.{length, get_or, take}
use lib.Seq.{length-take-le, take-take}
use lib.Dec.{eqb}
use borrow.Author.Tests.{lt-ltb, le-ltb, eqb-true, eq-eqb}
use Rattle.spec.specs.Outcome.{refused, ok, accepted, ◌>>=◌, ◌>>◌, refuse◌when◌}
use Rattle.spec.specs.Lists.{◌∈◌}
use Rattle.spec.specs.Bytes.{from_little_endian, write, zeros, bytes_at}
use Rattle.spec.specs.Header.{Layout, known_version, new_image, get, writable}
use Rattle.spec.specs.Blocks.{run_blocks}
use Rattle.spec.specs.Check as Check
use Rattle.spec.specs.Check.{Frame, Image, slice_ok, image_from, all_entries, entries_of}
use Rattle.spec.specs.Place.{plan_packed, plan_written}
use Rattle.spec.specs.Calls as Calls
use Rattle.spec.specs.Calls.{ChangeResult, create, changeable, insert_plan, insert, delete_plan, delete, optimise_plan, optimise, plan_length, given_up_zeroed}
use Rattle.spec.specs.Answers as Answers
use Rattle.spec.specs.Answers.{number_of, length_answer, delete_answer}
use Rattle.spec.specs.Rows as RowsSpec
use Rattle.spec.specs.Rows.{No, SliceRule}
use Rattle.spec.specs.CallRows.{change_numbers, ChangeRows}
use Rattle.spec.specs.Slices.{WorkZeroed}
use Rattle.spec.specs.declared.Refusal.{Refusal}
use Rattle.spec.specs.declared.NewFile.{NewFile}
use Rattle.spec.proofs.ListsLaws.{and_left}
use Rattle.spec.proofs.BytesLaws.{all_bytes, small_of, small_take, small_at, from_small}
use Rattle.spec.proofs.PartLaws.{length_bytes_at}
use Rattle.spec.proofs.SlicesLaws.{work_after_calls}
use Rattle.spec.proofs.CallRowsLaws.{first_numbers}
use Rattle.header.specs.Form.{layout_named}
use Rattle.header.proofs.Laws.{read_nword, layout_kept, slice_refused, slice_accepted, slice_has_header, slice_in_blocks, slice_holds}
use Rattle.inspect.specs.Overview.{AcceptedImage}
use Rattle.inspect.specs.declared.Overview.{Overview}
use Rattle.inspect.proofs.Accepted.{accepted_told, accepted_whole, front_header}
use Rattle.parts.proofs.PartLaws.{copied_front}
use Rattle.change.specs.Ready.{old_length}

-- ---- create
module _ (s : List ℕ) (k : NewFile) where
  -- row 1
  pub create_short : length s < 256 → record { answer = length_answer (Err Refusal.BadLength); image = s } ≡ create s k
  unfolding Calls.create Calls.create_bytes Calls.create_result Answers.length_answer Answers.number_of
  create_short p = rw (lt-ltb (length s) 256 p)

  module _ (p : 256 ≤ length s) (version : ℕ) (same : version ≡ k.version) where
    -- row 3
    pub create_unknown : known_version version ≡ false → record { answer = length_answer (Err Refusal.BadVersion); image = s } ≡ create s k
    unfolding Calls.create Calls.create_bytes Calls.create_result Answers.length_answer Answers.number_of
    create_unknown n = rw (le-ltb (length s) 256 p, ap known_version (sym same), n)

    -- the empty image is written
    pub create_done : known_version version ≡ true → (s' : List ℕ) → s' ≡ write 0 (new_image k) s → record { answer = length_answer (Ok 256); image = s' } ≡ create s k
    unfolding Calls.create Calls.create_bytes Calls.create_result Answers.length_answer Answers.number_of
    create_done n s' e = rw (le-ltb (length s) 256 p, ap known_version (sym same), n, e)

-- ---- answer and image of a changing call
-- of an insertion
abbrev pub Inserts : List ℕ → ℕ → List ℕ → List ℕ → ℕ → List ℕ → Result ℕ Refusal → List ℕ → Type 0
Inserts s L work h b t r s' = (length_answer r ≡ (insert s L work h b t).answer) × (s' ≡ (insert s L work h b t).image)

-- of a deletion
abbrev pub Deletes : List ℕ → ℕ → List ℕ → List ℕ → Result (Option ℕ) Refusal → List ℕ → Type 0
Deletes s L work h r s' = (delete_answer r ≡ (delete s L work h).answer) × (s' ≡ (delete s L work h).image)

-- of an optimising
abbrev pub Optimises : List ℕ → ℕ → List ℕ → Result ℕ Refusal → List ℕ → Type 0
Optimises s L work r s' = (length_answer r ≡ (optimise s L work).answer) × (s' ≡ (optimise s L work).image)

-- where the plan is refused: its number, and the image as it was
pub insert_refuses : (s : List ℕ) (L : ℕ) (work h : List ℕ) (b : ℕ) (t : List ℕ) (k : Refusal) → insert_plan s L work h b t ≡ refused (number_of k) → Inserts s L work h b t (Err k) s
unfolding Calls.insert Calls.insert_result Calls.changed Answers.length_answer Answers.number_of
insert_refuses s L work h b t k e = (sym (rw e), sym (rw e))

pub delete_refuses : (s : List ℕ) (L : ℕ) (work h : List ℕ) (k : Refusal) → delete_plan s L work h ≡ refused (number_of k) → Deletes s L work h (Err k) s
unfolding Calls.delete Calls.delete_result Calls.changed Answers.delete_answer Answers.number_of
delete_refuses s L work h k e = (sym (rw e), sym (rw e))

optimise_refuses : (s : List ℕ) (L : ℕ) (work : List ℕ) (k : Refusal) → optimise_plan s L work ≡ refused (number_of k) → Optimises s L work (Err k) s
unfolding Calls.optimise Calls.optimise_result Calls.changed Answers.length_answer Answers.number_of
optimise_refuses s L work k e = (sym (rw e), sym (rw e))

-- ---- rows 1 and 2 of a changing call
-- what the code has tested before it looks at the image
abbrev pub Tested : List ℕ → ℕ → List ℕ → Type 0
Tested s L work = (256 ≤ L) × (L % 256 ≡ 0) × (L ≤ length s) × (length s ≤ length work)

-- ---- the image at the front of a slice
-- it is of whole blocks
pub front_blocks : (s : List ℕ) (L : ℕ) → L ≤ length s → L % 256 ≡ 0 → length (take L s) % 256 ≡ 0
front_blocks s L p q = ap (λ (x : ℕ). x % 256) (length-take-le L s p) ∙ q

-- its header names the layout that the slice's does
front_layout : (s : List ℕ) (L : ℕ) → 256 ≤ L → layout_named (take L s) ≡ layout_named s
front_layout s L p = layout_kept (take L s) s (take-take 256 L s p)

-- by what is told of it, it is the whole that was tested
pub front_whole : (s : List ℕ) (L : ℕ) → L ≤ length s → L % 256 ≡ 0 → (v : Overview) → AcceptedImage (take L s) v → old_length v ≡ L
front_whole s L p q v a = accepted_whole (take L s) v a (front_blocks s L p q) ∙ length-take-le L s p

-- an accepted image is of whole blocks
pub whole_blocks : (s : List ℕ) (v : Overview) → AcceptedImage s v → old_length v % 256 ≡ 0
whole_blocks s v a = omega (arith, a.good.3)

-- it has no more entries than four bytes count
pub words_few : (s : List ℕ) (L : ℕ) → L ≤ length s → 256 ≤ L → ((k : ℕ) → get_or s k 0 < 256) → (v : Overview) → AcceptedImage (take L s) v → v.words < 4294967296
unfolding Check.counts_ok Check.entries_of
words_few s L p q bytes v a =
    let x : List ℕ = take L s in
    let told = accepted_told x v a in
    let c = and_left (eqb (get (layout_named x).nword x) (length (all_entries a.image.runs))) (eqb (get (layout_named x).nblock2 x) (run_blocks a.image.runs)) told.counts in
    let e : get (layout_named x).nword x ≡ length (entries_of a.image) = eqb-true (get (layout_named x).nword x) (length (all_entries a.image.runs)) c in
    let g : from_little_endian (bytes_at 160 4 x) ≡ get (layout_named x).nword x = read_nword x (from_little_endian (bytes_at 160 4 x)) refl in
    let l : length (bytes_at 160 4 x) ≡ 4 = length_bytes_at x 160 4 (omega (arith, front_header s L p q)) in
    let b : from_little_endian (bytes_at 160 4 x) < 256 ^ 4 = subst (λ (k : ℕ). from_little_endian (bytes_at 160 4 x) < 256 ^ k) l
    (from_small (bytes_at 160 4 x) (small_at 160 4 x (small_take L s (small_of s (all_bytes s bytes))))) in
    rw (a.words_are ∙ sym e ∙ sym g) b

-- a copy of the image in front of another slice
module _ (s : List ℕ) (L : ℕ) (p : L ≤ length s) (w w' : List ℕ) (copied : w' ≡ write 0 (bytes_at 0 L s) w) where
  -- it is the image
  pub copy_is : take L w' ≡ take L s
  copy_is = copied_front s w w' L copied p

  -- as long as the image
  copy_long : length (take L w') ≡ L
  copy_long = ap length copy_is ∙ length-take-le L s p

  -- which is inside the slice
  pub copy_inside : length (take L w') ≤ length s
  copy_inside = rw copy_long p

  -- of whole blocks
  pub copy_blocks : L % 256 ≡ 0 → length (take L w') % 256 ≡ 0
  copy_blocks m = ap (λ (x : ℕ). x % 256) copy_long ∙ m

  -- the slice starts with it
  pub copy_front : take (length (take L w')) s ≡ take L w'
  copy_front = ap (λ (n : ℕ). take n s) copy_long ∙ sym copy_is

  -- it is accepted
  pub copy_accepted : (v : Overview) → AcceptedImage (take L s) v → AcceptedImage (take L w') v
  copy_accepted v a = rw copy_is a

module _ (s : List ℕ) (L : ℕ) (work : List ℕ) where
  -- row 1
  change_slice : accepted (slice_ok s L) ≡ false → changeable s L work ≡ refused 1
  unfolding Calls.changeable
  change_slice q = rw (slice_refused s L q)

  -- row 2
  change_work : accepted (slice_ok s L) ≡ true → length work < length s → changeable s L work ≡ refused 2
  unfolding Calls.changeable Check.work_ok
  change_work q l = rw (slice_accepted s L q, lt-ltb (length work) (length s) l)

  -- neither
  pub now_tested : accepted (slice_ok s L) ≡ true → length s ≤ length work → Tested s L work
  now_tested q l = (slice_has_header s L q, slice_in_blocks s L q, slice_holds s L q, l)

  -- row 1 of an insertion
  pub insert_slice : accepted (slice_ok s L) ≡ false → (h : List ℕ) (a : ℕ) (x : List ℕ) → record { answer = length_answer (Err Refusal.BadLength); image = s; work = work } ≡ insert s L work h a x
  unfolding Calls.insert Calls.insert_plan Calls.insert_result Calls.changed Calls.work_after Answers.length_answer Answers.number_of
  insert_slice q h a x = sym (rw (change_slice q))

  -- row 2 of an insertion
  pub insert_short : accepted (slice_ok s L) ≡ true → length work < length s → (h : List ℕ) (a : ℕ) (x : List ℕ)
      → record { answer = length_answer (Err Refusal.ShortWork); image = s; work = work } ≡ insert s L work h a x
  unfolding Calls.insert Calls.insert_plan Calls.insert_result Calls.changed Calls.work_after Answers.length_answer Answers.number_of
  insert_short q l h a x = sym (rw (change_work q l))

  -- row 1 of a deletion
  pub delete_slice : accepted (slice_ok s L) ≡ false → (h : List ℕ) → record { answer = delete_answer (Err Refusal.BadLength); image = s; work = work } ≡ delete s L work h
  unfolding Calls.delete Calls.delete_plan Calls.delete_result Calls.changed Calls.work_after Answers.delete_answer Answers.number_of
  delete_slice q h = sym (rw (change_slice q))

  -- row 2 of a deletion
  pub delete_short : accepted (slice_ok s L) ≡ true → length work < length s → (h : List ℕ) → record { answer = delete_answer (Err Refusal.ShortWork); image = s; work = work } ≡ delete s L work h
  unfolding Calls.delete Calls.delete_plan Calls.delete_result Calls.changed Calls.work_after Answers.delete_answer Answers.number_of
  delete_short q l h = sym (rw (change_work q l))

  -- row 1 of an optimising
  pub optimise_slice : accepted (slice_ok s L) ≡ false → record { answer = length_answer (Err Refusal.BadLength); image = s; work = work } ≡ optimise s L work
  unfolding Calls.optimise Calls.optimise_plan Calls.optimise_result Calls.changed Calls.work_after Answers.length_answer Answers.number_of
  optimise_slice q = sym (rw (change_slice q))

  -- row 2 of an optimising
  pub optimise_short : accepted (slice_ok s L) ≡ true → length work < length s → record { answer = length_answer (Err Refusal.ShortWork); image = s; work = work } ≡ optimise s L work
  unfolding Calls.optimise Calls.optimise_plan Calls.optimise_result Calls.changed Calls.work_after Answers.length_answer Answers.number_of
  optimise_short q l = sym (rw (change_work q l))

  module _ (q : accepted (slice_ok s L) ≡ true) (enough : length s ≤ length work) where
    -- row 1 does not apply
    rule : SliceRule s L
    rule = let p = now_tested q enough in record { long_enough = p.0; whole_blocks = p.1; in_slice = p.2 }

    -- the working slice is all zero then
    zeroed_by : {A : Type 0} (r : ChangeResult A) → ChangeRows s L work r.answer → WorkZeroed work r → r.work ≡ zeros (length work)
    unfolding RowsSpec.No
    zeroed_by r rows z = z.zeroed (λ e. rows.row_1.0 e rule) (λ e. let l = (rows.row_2.0 e).1 in absurd (omega arith))

    module _ (bytes : (k : ℕ) → get_or s k 0 < 256) (w w' : List ℕ) (long : length w ≡ length work) (cleared : w' ≡ zeros (length w)) (s' : List ℕ) where
      -- an insertion by its answer and its image
      pub insert_whole : (h : List ℕ) (a : ℕ) (x : List ℕ) (r : Result ℕ Refusal) → length_answer r ≡ (insert s L work h a x).answer → s' ≡ (insert s L work h a x).image
          → record { answer = length_answer r; image = s'; work = w' } ≡ insert s L work h a x
      insert_whole h a x r e f =
          let z : w' ≡ (insert s L work h a x).work =
          cleared ∙ ap zeros long
          ∙ sym (zeroed_by (insert s L work h a x) (first_numbers.insert_rows s L work h a x (all_bytes s bytes)).change_rows (work_after_calls.insert_work s L work h a x)) in
          rw (e, f, z)

      -- a deletion by its answer and its image
      pub delete_whole : (h : List ℕ) (r : Result (Option ℕ) Refusal) → delete_answer r ≡ (delete s L work h).answer → s' ≡ (delete s L work h).image
          → record { answer = delete_answer r; image = s'; work = w' } ≡ delete s L work h
      delete_whole h r e f =
          let z : w' ≡ (delete s L work h).work =
          cleared ∙ ap zeros long ∙ sym (zeroed_by (delete s L work h) (first_numbers.delete_rows s L work h (all_bytes s bytes)).change_rows (work_after_calls.delete_work s L work h)) in
          rw (e, f, z)

      -- an optimising by its answer and its image
      pub optimise_whole : (r : Result ℕ Refusal) → length_answer r ≡ (optimise s L work).answer → s' ≡ (optimise s L work).image
          → record { answer = length_answer r; image = s'; work = w' } ≡ optimise s L work
      optimise_whole r e f =
          let z : w' ≡ (optimise s L work).work =
          cleared ∙ ap zeros long ∙ sym (zeroed_by (optimise s L work) (first_numbers.optimise_rows s L work (all_bytes s bytes)).change_rows (work_after_calls.optimise_work s L work)) in
          rw (e, f, z)

  -- what is promised of an optimising follows from its equation: its number is never 15, but one of those with which a changing call begins
  pub optimise_promised : ((k : ℕ) → get_or s k 0 < 256) → (r : Result ℕ Refusal) (s' w' : List ℕ)
      → record { answer = length_answer r; image = s'; work = w' } ≡ optimise s L work
      → (record { answer = length_answer r; image = s'; work = w' } ≡ optimise s L work)
      × (No (length_answer r ≡ refused 15) × ((n : ℕ) → length_answer r ≡ refused n → n ∈ change_numbers))
  unfolding RowsSpec.No
  optimise_promised bytes r s' w' e =
      let a : length_answer r ≡ (optimise s L work).answer = ap (λ (x : ChangeResult ℕ). x.answer) e in
      let o = first_numbers.optimise_rows s L work (all_bytes s bytes) in
      (e, (λ p. o.never_15 (sym a ∙ p), λ n p. o.no_other n (sym a ∙ p)))

  -- ---- what is left when rows 1 and 2 do not apply
  module _ (p₁ : 256 ≤ L) (p₂ : L % 256 ≡ 0) (p₃ : L ≤ length s) (p₄ : length s ≤ length work) where
    -- the image decides
    change_read : changeable s L work ≡ (image_from (take L s) >>= λ i. refuse 11 when not (writable i.frame.format.layout s) >> ok i)
    unfolding Calls.changeable Check.slice_ok Check.work_ok
    change_read = rw (le-ltb L 256 p₁, eq-eqb (L % 256) 0 p₂, le-ltb (length s) L p₃, le-ltb (length work) (length s) p₄)

    -- rows 3 to 10
    pub change_refused : (j : Refusal) → image_from (take L s) ≡ refused (number_of j) → changeable s L work ≡ refused (number_of j)
    change_refused j e = change_read ∙ rw e

    -- an accepted image
    module _ (v : Overview) (a : AcceptedImage (take L s) v) where
      -- the version is tested in the whole slice
      version_of : writable a.image.frame.format.layout s ≡ writable (layout_named s) s
      version_of = ap (λ (f : Frame). writable f.format.layout s) a.frame_is ∙ ap (λ (o : Layout). writable o s) (front_layout s L p₁)

      -- row 11
      pub change_eleven : writable (layout_named s) s ≡ false → changeable s L work ≡ refused (number_of Refusal.ReadOnly)
      unfolding Answers.number_of
      change_eleven q = change_read ∙ rw (a.is, version_of, q)

      -- it may be changed
      pub change_may : writable (layout_named s) s ≡ true → changeable s L work ≡ ok a.image
      change_may q = change_read ∙ rw (a.is, version_of, q)

    module _ (j : Refusal) (e : changeable s L work ≡ refused (number_of j)) where
      -- rows 3 to 11 of an insertion
      pub insert_refused : (h : List ℕ) (b : ℕ) (t : List ℕ) → Inserts s L work h b t (Err j) s
      unfolding Calls.insert_plan
      insert_refused h b t = insert_refuses s L work h b t j (rw e)

      -- of a deletion
      pub delete_refused : (h : List ℕ) → Deletes s L work h (Err j) s
      unfolding Calls.delete_plan
      delete_refused h = delete_refuses s L work h j (rw e)

      -- of an optimising
      pub optimise_refused : Optimises s L work (Err j) s
      unfolding Calls.optimise_plan
      optimise_refused = optimise_refuses s L work j (rw e)

    -- ---- optimise
    module _ (v : Overview) (a : AcceptedImage (take L s) v) where
      module _ (q : writable (layout_named s) s ≡ true) where
        -- nothing refuses it then
        goes_on : optimise_plan s L work ≡ ok (plan_packed a.image.frame.format a.image.runs)
        unfolding Calls.optimise_plan
        goes_on = rw (change_may v a q)

        -- the new length and the image
        pub optimise_done : (old s' : List ℕ) → old ≡ take L s → (r : ℕ) → ((i : Image) → image_from old ≡ ok i → r ≡ plan_length (plan_packed i.frame.format i.runs))
            → ((i : Image) → image_from old ≡ ok i → s' ≡ given_up_zeroed (length old) (plan_packed i.frame.format i.runs) (plan_written (plan_packed i.frame.format i.runs) s))
            → Optimises s L work (Ok r) s'
        unfolding Calls.optimise Calls.optimise_result Calls.changed Answers.length_answer Answers.number_of
        optimise_done old s' o r f g =
            let i : image_from old ≡ ok a.image = ap image_from o ∙ a.is in
            let l : length old ≡ L = ap length o ∙ length-take-le L s p₃ in
            (sym (rw (goes_on, f a.image i)), rw (goes_on) (rw l at (g a.image i)))
