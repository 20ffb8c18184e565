-- The sorted-list claim: between any two calls the image is accepted and its entries are the sorted list's, and each call is refused or answered as the list says.
use Prim.Native.Nat.{ℕ, ◌+◌, ◌-◌, ◌%◌, ◌<◌, ◌≤◌, max}
use mathlib.Core.Path.{◌≡◌, refl, sym, ap, subst, ◌∙◌}
use mathlib.Core.Bool.{Bool, true, false, not, ◌&&◌}
use mathlib.Core.List.{List, [], ◌∷◌}
use mathlib.Core.Option.{Option, none, some, none-ne-some}
use native.Mathlib.Omega.{arith}
use lib.ListN.{length, take, drop}
use lib.Dec.{T, leb, ltb, eqb, leb→le}
use lib.Pow.{are_bytes}
use borrow.Author.Tests.{le-ltb, not-false}
use Rattle.spec.specs.Order.{HeadwordOrder}
use Rattle.spec.specs.Outcome.{Outcome, refused, ok}
use Rattle.spec.specs.Lists.{all, count, All}
use Rattle.spec.specs.Bytes.{from_little_endian, bytes_at, zeros}
use Rattle.spec.specs.Header.{Format, Lawful, format_of, get, writable, tested_fields, written_fields, lies_in, header_bytes, block_position}
use Rattle.spec.specs.Entry.{Entry, headword_ok, text_ok, attribute_ok, body_ok, entry_of}
use Rattle.spec.specs.Run.{Run}
use Rattle.spec.specs.Blocks.{covers, run_blocks, free_blocks}
use Rattle.spec.specs.Check.{Frame, Image, image_in, image_by, image_from, slice_ok, kind_ok, options_ok, frame_length, entries_of, all_entries}
use Rattle.spec.specs.SortedList.{lookup}
use Rattle.spec.specs.Place.{Plan, plan_change, plan_packed, plan_full, plan_written}
use Rattle.spec.specs.Calls.{figures, check, plan_length, given_up_zeroed}
use Rattle.spec.specs.ImageForm.{IsImage, Accepted}
use Rattle.spec.specs.Rows.{SliceRule}
use Rattle.spec.specs.Claim.{Call, look_up_call, walk_call, insert_call, delete_call, optimise_call, Observed, done, removed, absent, too_short, tell_removed, is_there, Row, ◌if◌, Performed, perform, is_refused, first_row, rows, expected, insert_placing, delete_placing, optimise_placing, slice_after, slice_kept, list_answer, list_after, list_step, is_change, next_count, Zeroed, Matches, AnswersAs, History, call_bytes, SortedListClaim, slice_after_all, IdentifierKept, good_change, InsertRefused, DeleteRefused, OptimiseDone}
use Rattle.spec.specs.PackedForm.{PackedNeedsNoMore, PackedNeverFull}
use Rattle.spec.proofs.ListsLaws.{range_all, and_left, and_right, both_hold, hold_both, holds_true}
use Rattle.spec.proofs.PartLaws.{bytes_same}
use Rattle.spec.proofs.HeaderLaws.{get_take, fields_inside, fields_same, kind_same, options_same, lawful_format, format_stays}
use Rattle.spec.specs.Sound.{EntriesOk, frame_of, plan_of, PlanSound}
use Rattle.spec.proofs.CountLaws.{block_once, blocks_once, marks_once}
use Rattle.spec.proofs.ReadLaws.{frame_fits, ImageTold, image_told, runs_inside, free_list_below}
use Rattle.spec.proofs.SortedLaws.{ok_sorted, absent_stays}
use Rattle.spec.proofs.StoredHeaderLaws.{slice_stored}
use Rattle.spec.proofs.StoredIndexLaws.{empty_below}
use Rattle.spec.proofs.ImageFormLaws.{accepted}
use Rattle.spec.proofs.ChangeLaws.{Sound, image_sound, image_ascends, insert_entries, insert_sound, delete_entries, delete_sound, optimise_entries, optimise_sound}
use Rattle.spec.proofs.PlanLaws.{written_inside, plan_back, written_length, written_past, written_header, written_count}
use Rattle.spec.proofs.WrittenLaws.{zeroed_length, zeroed_image, zeroed_past, zeroed_given_up, zeroed_front}
use Rattle.spec.proofs.StillBytesLaws.{EntryBytes, written_bytes, zeroed_bytes}
use Rattle.spec.proofs.ChangeBytesLaws.{insert_bytes, delete_bytes, optimise_bytes}
use Rattle.spec.proofs.PackedLaws.{packed_needs_no_more, packed_never_full}
use Rattle.spec.proofs.AnswerLaws.{in_told, look_up_observed, walk_observed, left, insert_performed, delete_performed, optimise_performed, slice_without, length_without}

-- An accepted image in a slice of bytes.
module _ (s : List ℕ) (L : ℕ) (i : Image) (got : image_in s L ≡ ok i) (small : T (are_bytes s)) where
  slice : SliceRule s L
  slice = (slice_stored s L).0 (in_told s L i got).0

  named : image_by (format_of (take L s)) (take L s) ≡ ok i
  unfolding image_from
  named = (in_told s L i got).1

  -- it has the format that its header names
  format_is : i.frame.format ≡ format_of (take L s)
  format_is = ap (λ (f : Frame). f.format) (frame_fits (format_of (take L s)) (take L s) i.frame (image_told (format_of (take L s)) (take L s) i named).frame).is

  law : Lawful i.frame.format
  law = subst Lawful (sym format_is) (lawful_format (take L s))

  read : image_by i.frame.format (take L s) ≡ ok i
  read = subst (λ (F : Format). image_by F (take L s) ≡ ok i) (sym format_is) named

  sound : Sound i.frame.format (take L s) i
  sound = image_sound i.frame.format (take L s) i read

  told : ImageTold i.frame.format (take L s) i
  told = image_told i.frame.format (take L s) i read

  -- the tested fields lie in the image, so rows 3 and 4 say the same of it and of the slice
  tested : All (λ g. get g (take L s) ≡ get g s) (tested_fields i.frame.format.layout)
  tested = fields_same (take L s) s _ (λ g h. get_take g L s (omega (arith, slice.long_enough))) law.layout_lawful.tested_inside

  kind : kind_ok i.frame.format.layout s ≡ true
  kind = sym (kind_same i.frame.format.layout (take L s) s tested) ∙ sound.fits.kind

  options : options_ok i.frame.format.layout s ≡ true
  options = sym (options_same i.frame.format.layout (take L s) s tested) ∙ sound.fits.options

  below_D : All (λ a. a < i.frame.data_blocks) i.free_list
  below_D = free_list_below _ i.frame.data_blocks _ _ i.free_list told.free_list

  blocks : run_blocks i.runs + length i.free_list ≡ i.frame.data_blocks
  blocks = blocks_once i.frame.data_blocks i.runs i.free_list told.once (runs_inside i.frame.format.below i.frame.data_blocks _ told.elements i.runs told.runs) below_D

  -- check answers as many headwords as there are entries, and data blocks = blocks in runs + free blocks
  checked : check s L
      ≡ ok (record { headwords = length (entries_of i); index_blocks = i.frame.index_blocks; data_blocks = run_blocks i.runs + length i.free_list; free_blocks = length i.free_list })
  unfolding check figures
  checked = rw (got, marks_once i.frame.data_blocks i.runs i.free_list told.once below_D, ← blocks) refl

  once : (b : ℕ) → b < run_blocks i.runs + length i.free_list → count (covers b) i.runs + count (eqb b) i.free_list ≡ 1
  once b h = block_once i.frame.data_blocks i.runs i.free_list told.once b (omega (arith, blocks))

  -- its bytes are made up as the format says
  described : IsImage (take L s) i
  unfolding Accepted
  described = ((accepted s L i small).0 got).1

  -- what holds between two calls
  matches : Matches i.frame.format.below s L (entries_of i)
  matches =
      record {
        image = i;
        accepted = got;
        bytes = small;
        made_up = described;
        same_order = refl;
        entries = refl;
        sorted = ok_sorted i.frame.format.below law.ordered [] (entries_of i) (image_ascends i.frame.format law (take L s) i sound);
        checked = checked;
        each_once = once;
      }

  -- the state after a call: the next image, read in the slice then, with the sorted list's entries
  record Next (c : Call) (r : Performed) : Type 0 where
    answers : AnswersAs i.frame.format.below s L i (entries_of i) c r
    image : Image
    order : image.frame.format.below ≡ i.frame.format.below
    accepted : image_in r.image r.length_after ≡ ok image
    entries : entries_of image ≡ list_step i.frame.format.below (is_refused r.observed) c (entries_of i)
    bytes : T (call_bytes c) → T (are_bytes r.image)

  -- no byte of the slice changes
  slice_same : (t : Bool) → s ≡ slice_kept t s s
  unfolding slice_kept
  slice_same true = refl
  slice_same false = refl

  -- nothing is given up where L stands
  none_given_up : (c : Call) → Zeroed c s L L
  unfolding Zeroed bytes_at zeros
  none_given_up (look_up_call h out) = tt
  none_given_up (walk_call above h out_headword out_text) = tt
  none_given_up (insert_call work h a t) = tt
  none_given_up (delete_call work h) = tt
  none_given_up (optimise_call work) = let z : L - L ≡ 0 = omega arith in (omega arith, rw z)

  -- no change, refused or not
  never : (t : Bool) → not t && false ≡ false
  never true = refl
  never false = refl

  -- a call that leaves everything, and the sorted list too
  idle : (c : Call) (o : Outcome Observed) → o ≡ expected (first_row (rows s i (entries_of i) c)) (list_answer i.frame.format.below c (entries_of i))
      → s ≡ slice_kept (is_refused o) s (slice_after s L i c)
      → entries_of i ≡ list_step i.frame.format.below (is_refused o) c (entries_of i) → not (is_refused o) && is_change c (entries_of i) ≡ false
      → Next c (record { observed = o; image = s; length_after = L })
  unfolding next_count
  idle c o e b l n =
      record {
        answers = record { observed = e; bytes = b; size_stays = refl; kept_past = refl; given_up = none_given_up c; update_count = rw n; header_kept = λ j h k. refl };
        image = i;
        order = refl;
        accepted = got;
        entries = l;
        bytes = λ k. small;
      }

  -- a refusal
  refusal : (c : Call) (n : ℕ) → first_row (rows s i (entries_of i) c) ≡ some n → Next c (record { observed = refused n; image = s; length_after = L })
  unfolding expected is_refused slice_kept list_step
  refusal c n e = idle c (refused n) (rw e) refl refl refl

  -- a look up
  look_up_next : (h out : List ℕ) → Next (look_up_call h out) (perform s L (look_up_call h out))
  unfolding perform list_answer slice_after list_step list_after is_change
  look_up_next h out =
      idle (look_up_call h out) _ (look_up_observed s L i got h out) (slice_same (is_refused (perform s L (look_up_call h out)).observed))
      (go (is_refused (perform s L (look_up_call h out)).observed)) (never (is_refused (perform s L (look_up_call h out)).observed))
    where
      go : (t : Bool) → entries_of i ≡ list_step i.frame.format.below t (look_up_call h out) (entries_of i)
      go true = refl
      go false = refl

  -- a walk
  walk_next : (above : Bool) (h out_headword out_text : List ℕ) → Next (walk_call above h out_headword out_text) (perform s L (walk_call above h out_headword out_text))
  unfolding perform list_answer slice_after list_step list_after is_change
  walk_next above h x y =
      idle (walk_call above h x y) _ (walk_observed s L i got above h x y) (slice_same (is_refused (perform s L (walk_call above h x y)).observed))
      (go (is_refused (perform s L (walk_call above h x y)).observed)) (never (is_refused (perform s L (walk_call above h x y)).observed))
    where
      go : (t : Bool) → entries_of i ≡ list_step i.frame.format.below t (walk_call above h x y) (entries_of i)
      go true = refl
      go false = refl

  -- A change that is placed: the plan of n index blocks, D data blocks and the runs rs, and the slice t afterwards.
  module _ (n D : ℕ) (rs : List Run) (plan_sound : PlanSound i.frame.format n D rs) (room : plan_full s (plan_of i.frame.format n D rs) ≡ false) where
    -- the plan
    abbrev plan : Plan
    plan = plan_of i.frame.format n D rs

    -- and its L
    abbrev new : ℕ
    new = block_position i.frame.format.extended n D

    new_inside : new ≤ length s
    new_inside = written_inside i.frame.format law n D rs s plan_sound kind options room

    -- it is an accepted image of the slice
    module _ (t : List ℕ) (size : length t ≡ length s) (front : take new t ≡ take new (plan_written plan s)) where
      new_slice : slice_ok t new ≡ ok tt
      new_slice = (slice_stored t new).1 (record { long_enough = omega arith; whole_blocks = omega (arith, law.extended_in_blocks); in_slice = omega (arith, new_inside) })

      abbrev new_image : Image
      new_image = record { frame = frame_of i.frame.format n D; runs = rs; free_list = free_blocks rs D }

      new_read : image_in t new ≡ ok new_image
      unfolding image_in image_from
      new_read =
          let F : Format = i.frame.format in
          let u : List ℕ = take new (plan_written plan s) in
          let back : image_by F u ≡ ok new_image = plan_back F law n D rs s plan_sound kind options room in
          let kept : kind_ok F.layout u ≡ true = (frame_fits F u new_image.frame (image_told F u new_image back).frame).kind in
          let same : format_of u ≡ F = format_stays (take L s) u (subst (λ (G : Format). kind_ok G.layout u ≡ true) format_is kept) ∙ sym format_is in
          rw (new_slice, front) (subst (λ (G : Format). image_by G u ≡ ok new_image) (sym same) back)

      -- a change that is done
      placed : (c : Call) (x : Observed) → first_row (rows s i (entries_of i) c) ≡ none → list_answer i.frame.format.below c (entries_of i) ≡ x → slice_after s L i c ≡ t
          → all_entries rs ≡ list_after i.frame.format.below c (entries_of i) → drop (max L new) t ≡ drop (max L new) s
          → ((j : ℕ) → j < header_bytes i.frame.format → all (λ f. not (lies_in j f)) (written_fields i.frame.format.layout) ≡ true → bytes_at j 1 t ≡ bytes_at j 1 s)
          → Zeroed c t new L → get i.frame.format.layout.update_count t ≡ (get i.frame.format.layout.update_count s + 1) % 4_294_967_296
          → is_change c (entries_of i) ≡ true → (T (call_bytes c) → T (are_bytes t)) → Next c (record { observed = ok x; image = t; length_after = new })
      unfolding expected is_refused slice_kept list_step entries_of next_count
      placed c x e a b l past header zeroed up ch still =
          record {
            answers = record { observed = rw (e, a); bytes = sym b; size_stays = size; kept_past = past; given_up = zeroed; update_count = rw ch up; header_kept = header };
            image = new_image;
            order = refl;
            accepted = new_read;
            entries = l;
            bytes = still;
          }

  -- no row applies: not the first, and not the others
  first_none : (r : Row) (rs : List Row) → first_row (r ∷ rs) ≡ none → (r.applies ≡ false) × (first_row rs ≡ none)
  unfolding first_row
  first_none r rs h = go r.applies refl
    where
      go : (t : Bool) → r.applies ≡ t → (r.applies ≡ false) × (first_row rs ≡ none)
      go true e = absurd (none-ne-some r.number (sym h ∙ rw (e, first_row)))
      go false e = (e, rw (e, first_row) at h)

  -- arguments by their rules make an entry that may stand alone
  entry_good : (h : List ℕ) (a : ℕ) (t : List ℕ) → headword_ok h ≡ true → text_ok t && attribute_ok a ≡ true → EntriesOk i.frame.format.below [] (entry_of h a t ∷ [])
  unfolding entry_of body_ok
  entry_good h a t p q = (p, rw (and_right (text_ok t) (attribute_ok a) q, and_left (text_ok t) (attribute_ok a) q), empty_below i.frame.format.below law.ordered h p, tt)

  -- an insertion
  module _ (work h : List ℕ) (a : ℕ) (t : List ℕ) where
    insert_rows_none : first_row (rows s i (entries_of i) (insert_call work h a t)) ≡ none
        → (headword_ok h ≡ true) × (text_ok t && attribute_ok a ≡ true) × (plan_full s (insert_placing i h a t) ≡ false)
    unfolding rows ◌if◌
    insert_rows_none e =
        let (x₁, e₁) = first_none _ _ e in
        let (x₂, e₂) = first_none _ _ e₁ in
        let (x₃, e₃) = first_none _ _ e₂ in
        let (x₄, e₄) = first_none _ _ e₃ in
        let (x₅, e₅) = first_none _ _ e₄ in
        (not-false (headword_ok h) x₃, not-false (text_ok t && attribute_ok a) x₄, x₅)

    insert_argument : T (call_bytes (insert_call work h a t)) → EntryBytes (entry_of h a t)
    unfolding call_bytes entry_of
    insert_argument k =
        let (k₁, x) = both_hold (are_bytes work && are_bytes h && ltb a 256) (are_bytes t) k in
        let (k₂, y) = both_hold (are_bytes work && are_bytes h) (ltb a 256) k₁ in
        let (k₃, z) = both_hold (are_bytes work) (are_bytes h) k₂ in
        (z, hold_both (ltb a 256) (are_bytes t) y x)

    insert_placed : first_row (rows s i (entries_of i) (insert_call work h a t)) ≡ none
        → Next (insert_call work h a t) (record { observed = ok done; image = plan_written (insert_placing i h a t) s; length_after = plan_length (insert_placing i h a t) })
    unfolding insert_placing entry_of plan_change plan_length frame_length list_answer slice_after list_after Zeroed is_change
    insert_placed e =
        let (p, q, room) = insert_rows_none e in
        let F : Format = i.frame.format in
        let good : EntriesOk F.below [] (entry_of h a t ∷ []) = entry_good h a t p q in
        let plan : Plan = insert_placing i h a t in
        let k = insert_sound F law (take L s) i sound (entry_of h a t) good in
        placed plan.frame.index_blocks plan.frame.data_blocks plan.runs k room (plan_written plan s)
        (written_length F law _ _ _ s k kind options room) refl (insert_call work h a t) done e refl refl
        (insert_entries F law (take L s) i sound (entry_of h a t) good)
        (written_past F law _ _ _ s k kind options room (max L (plan_length plan)) (omega arith))
        (written_header F law _ _ _ s k kind options room)
        tt
        (written_count F law _ _ _ s k kind options room)
        refl
        (λ c. written_bytes plan s small (insert_bytes F law L s i read sound small (entry_of h a t) good (insert_argument c)))

    insert_next : Next (insert_call work h a t) (perform s L (insert_call work h a t))
    insert_next = rw (insert_performed s L i got work h a t) (go (first_row (rows s i (entries_of i) (insert_call work h a t))) refl)
      where
        go : (o : Option ℕ) → first_row (rows s i (entries_of i) (insert_call work h a t)) ≡ o
            → Next (insert_call work h a t) (left s L i got done o (plan_written (insert_placing i h a t) s) (plan_length (insert_placing i h a t)))
        go (some n) e = refusal (insert_call work h a t) n e
        go none e = insert_placed e

  -- a deletion
  module _ (work h : List ℕ) where
    delete_room : first_row (rows s i (entries_of i) (delete_call work h)) ≡ none → (is_there (lookup h (entries_of i)) && plan_full s (delete_placing i h)) ≡ false
    unfolding rows ◌if◌
    delete_room e =
        let (x₁, e₁) = first_none _ _ e in
        let (x₂, e₂) = first_none _ _ e₁ in
        let (x₃, e₃) = first_none _ _ e₂ in
        let (x₄, e₄) = first_none _ _ e₃ in
        x₄

    -- an absent one changes nothing
    delete_absent : lookup h (entries_of i) ≡ none → first_row (rows s i (entries_of i) (delete_call work h)) ≡ none
        → Next (delete_call work h) (record { observed = ok absent; image = s; length_after = L })
    unfolding expected list_answer tell_removed is_refused slice_kept slice_after list_step list_after is_change is_there
    delete_absent l e = idle (delete_call work h) (ok absent) (rw (e, l)) (rw (l, slice_after)) (sym (absent_stays h (entries_of i) l)) (rw l)

    delete_placed : (d : Entry) → lookup h (entries_of i) ≡ some d → first_row (rows s i (entries_of i) (delete_call work h)) ≡ none
        → Next (delete_call work h) (record { observed = ok removed; image = plan_written (delete_placing i h) s; length_after = plan_length (delete_placing i h) })
    unfolding delete_placing plan_change plan_length frame_length list_answer tell_removed slice_after list_after Zeroed is_there is_change
    delete_placed d l e =
        let room : plan_full s (delete_placing i h) ≡ false = rw (l, is_there) at (delete_room e) in
        let F : Format = i.frame.format in
        let plan : Plan = delete_placing i h in
        let k = delete_sound F law (take L s) i sound h in
        placed plan.frame.index_blocks plan.frame.data_blocks plan.runs k room (plan_written plan s)
        (written_length F law _ _ _ s k kind options room) refl (delete_call work h) removed e (rw l) (rw (l, slice_after))
        (delete_entries F law (take L s) i sound h)
        (written_past F law _ _ _ s k kind options room (max L (plan_length plan)) (omega arith))
        (written_header F law _ _ _ s k kind options room)
        tt
        (written_count F law _ _ _ s k kind options room)
        (rw l)
        (λ c. written_bytes plan s small (delete_bytes F law L s i read sound small h))

    delete_next : Next (delete_call work h) (perform s L (delete_call work h))
    unfolding tell_removed
    delete_next = rw (delete_performed s L i got work h) (go (first_row (rows s i (entries_of i) (delete_call work h))) refl (lookup h (entries_of i)) refl)
      where
        go : (o : Option ℕ) → first_row (rows s i (entries_of i) (delete_call work h)) ≡ o → (d : Option Entry) → lookup h (entries_of i) ≡ d
            → Next (delete_call work h) (left s L i got (tell_removed d) o (slice_without s L i got h d) (length_without s L i got h d))
        go (some n) e d l = refusal (delete_call work h) n e
        go none e none l = delete_absent l e
        go none e (some d) l = delete_placed d l e

  count_inside : i.frame.format.layout.update_count.offset + i.frame.format.layout.update_count.bytes ≤ 256
  unfolding written_fields
  count_inside = (fields_inside (written_fields i.frame.format.layout) law.layout_lawful.written_inside).1.1.1.1.1.0

  -- the packed image is no longer
  packed_shorter : plan_length (optimise_placing i) ≤ L
  unfolding PackedNeedsNoMore
  packed_shorter = (packed_needs_no_more s L i small got).no_longer

  -- and has room
  packed_room : plan_full s (optimise_placing i) ≡ false
  unfolding PackedNeverFull
  packed_room = packed_never_full s L i small got

  -- an optimising
  module _ (work : List ℕ) where
    optimise_placed : first_row (rows s i (entries_of i) (optimise_call work)) ≡ none
        → Next (optimise_call work) (record {
          observed = ok done;
          image = given_up_zeroed L (optimise_placing i) (plan_written (optimise_placing i) s);
          length_after = plan_length
              (optimise_placing i);
        })
    unfolding optimise_placing plan_packed plan_length frame_length list_answer slice_after list_after Zeroed given_up_zeroed is_change get
    optimise_placed e =
        let F : Format = i.frame.format in
        let plan : Plan = optimise_placing i in
        let k = optimise_sound F law (take L s) i sound in
        let t : List ℕ = plan_written plan s in
        let size : length t ≡ length s = written_length F law _ _ _ s k kind options packed_room in
        let inside : L ≤ length t = omega (arith, slice.in_slice) in
        placed plan.frame.index_blocks plan.frame.data_blocks plan.runs k packed_room (given_up_zeroed L plan t)
        (zeroed_length (plan_length plan) L t packed_shorter inside ∙ size) (zeroed_image (plan_length plan) L t packed_shorter inside) (optimise_call work)
        done e refl refl
        (optimise_entries F law (take L s) i sound)
        (zeroed_past (plan_length plan) L t packed_shorter inside (max L (plan_length plan)) (omega arith)
        ∙ written_past F law _ _ _ s k kind options packed_room (max L (plan_length plan)) (omega arith))
        (λ j h a. zeroed_front (plan_length plan) L t packed_shorter inside j 1 (omega arith) ∙ written_header F law _ _ _ s k kind options packed_room j h a)
        (packed_shorter, zeroed_given_up (plan_length plan) L t packed_shorter inside)
        (ap from_little_endian (zeroed_front (plan_length plan) L t packed_shorter inside F.layout.update_count.offset F.layout.update_count.bytes
        (omega (arith, count_inside))) ∙ written_count F law _ _ _ s k kind options packed_room)
        refl
        (λ c. zeroed_bytes L plan t (written_bytes plan s small (optimise_bytes F law L s i read sound small)))

    optimise_next : Next (optimise_call work) (perform s L (optimise_call work))
    optimise_next = rw (optimise_performed s L i got work) (go (first_row (rows s i (entries_of i) (optimise_call work))) refl)
      where
        go : (o : Option ℕ) → first_row (rows s i (entries_of i) (optimise_call work)) ≡ o
            → Next (optimise_call work) (left s L i got done o (given_up_zeroed L (optimise_placing i) (plan_written (optimise_placing i) s)) (plan_length (optimise_placing i)))
        go (some n) e = refusal (optimise_call work) n e
        go none e = optimise_placed e

  -- any call
  next : (c : Call) → Next c (perform s L c)
  next (look_up_call h out) = look_up_next h out
  next (walk_call above h out_headword out_text) = walk_next above h out_headword out_text
  next (insert_call work h a t) = insert_next work h a t
  next (delete_call work h) = delete_next work h
  next (optimise_call work) = optimise_next work

-- all calls of a list
history : (cs : List Call) (s : List ℕ) (L : ℕ) (i : Image) → image_in s L ≡ ok i → T (are_bytes s) → T (all call_bytes cs) → History i.frame.format.below s L (entries_of i) cs
unfolding History all matches
history [] s L i got small k = matches s L i got small
history (c ∷ cs) s L i got small k =
    let n = next s L i got small c in
    let r : Performed = perform s L c in
    let (a, b) = both_hold (call_bytes c) (all call_bytes cs) k in
    let after = history cs r.image r.length_after n.image n.accepted (n.bytes a) b in
    let after' = subst (λ (below : HeadwordOrder). History below r.image r.length_after (entries_of n.image) cs) n.order after in (
      matches s L i got small,
      n.answers,
      subst (λ (es : List Entry). History i.frame.format.below r.image r.length_after es cs)
          n.entries after',
    )

-- THE CLAIM
pub sorted_list_claim : SortedListClaim
unfolding SortedListClaim
sorted_list_claim s L i small got cs k = history cs s L i got small k

-- Corollary: the identifier is kept, by all calls of a list, since each keeps the header's bytes beside the fields that a change writes.
kept_by_all : (below : HeadwordOrder) (s : List ℕ) (L : ℕ) (es : List Entry) (cs : List Call) → History below s L es cs → bytes_at 216 8 (slice_after_all s L cs) ≡ bytes_at 216 8 s
unfolding History slice_after_all
kept_by_all below s L es [] h = refl
kept_by_all below s L es (c ∷ cs) (m, a, h) =
    let r : Performed = perform s L c in
    let F : Format = m.image.frame.format in
    let lawful : Lawful F = law s L m.image m.accepted m.bytes in
    let clear : (j : ℕ) → 216 ≤ j → j < 216 + 8 → all (λ f. not (lies_in j f)) (written_fields F.layout) ≡ true
    = range_all (λ n. all (λ f. not (lies_in n f)) (written_fields F.layout)) 216 8 lawful.layout_lawful.identifier_kept in
    kept_by_all below r.image r.length_after _ cs h
    ∙ bytes_same r.image s 216 8 (λ j low high. a.header_kept j (omega arith) (clear j low high))

pub identifier_kept : IdentifierKept
unfolding IdentifierKept
identifier_kept s L i small got cs k = kept_by_all i.frame.format.below s L (entries_of i) cs (history cs s L i got small k)

-- Corollaries: what is refused.

-- whether there is a row that applies
abbrev is_row : Option ℕ → Bool
is_row none = false
is_row (some n) = true

-- a call is refused exactly when one of its rows applies
refused_by : (s : List ℕ) (L : ℕ) (i : Image) → image_in s L ≡ ok i → T (are_bytes s) → (c : Call) → is_refused (perform s L c).observed ≡ is_row (first_row (rows s i (entries_of i) c))
unfolding is_refused expected
refused_by s L i got small c = rw (next s L i got small c).answers.observed (go (first_row (rows s i (entries_of i) c)))
  where
    go : (o : Option ℕ) → is_refused (expected o (list_answer i.frame.format.below c (entries_of i))) ≡ is_row o
    go none = refl
    go (some n) = refl

-- a row that does not apply is passed
row_passed : (n : ℕ) (t : Bool) (rs : List Row) → t ≡ false → is_row (first_row (n if t ∷ rs)) ≡ is_row (first_row rs)
unfolding first_row ◌if◌
row_passed n t rs e = rw (e, first_row)

-- the last one decides
row_last : (n : ℕ) (t : Bool) → is_row (first_row (n if t ∷ [])) ≡ t
unfolding first_row ◌if◌
row_last n true = refl
row_last n false = refl

-- a working slice, a writable version and a headword by its rule: rows 2, 11 and 12 do not apply
good_rows : (s : List ℕ) (i : Image) (work h : List ℕ) → T (good_change s i work h) → (too_short work s ≡ false) × (not (writable i.frame.format.layout s) ≡ false) × (not (headword_ok h) ≡ false)
unfolding good_change too_short
good_rows s i work h k =
    let (k₁, x) = both_hold (leb (length s) (length work) && writable i.frame.format.layout s) (headword_ok h) k in
    let (y, z) = both_hold (leb (length s) (length work)) (writable i.frame.format.layout s) k₁ in
    (le-ltb (length work) (length s) (leb→le (length s) (length work) y), ap not (holds_true (writable i.frame.format.layout s) z), ap not (holds_true (headword_ok h) x))

-- with good arguments an insertion is refused exactly when its placing passes the slice or a limit
pub insert_refused : InsertRefused
unfolding InsertRefused rows
insert_refused s L i small got work h a t good arguments =
    let (x, y, z) = good_rows s i work h good in
    refused_by s L i got small (insert_call work h a t) ∙ row_passed 2 _ _ x ∙ row_passed 11 _ _ y ∙ row_passed 12 _ _ z
    ∙ row_passed 13 _ _ (ap not (holds_true (text_ok t && attribute_ok a) arguments)) ∙ row_last 15 _

-- the same of a deletion of a stored headword
pub delete_refused : DeleteRefused
unfolding DeleteRefused rows is_there
delete_refused s L i small got work h e good found =
    let (x, y, z) = good_rows s i work h good in
    refused_by s L i got small (delete_call work h) ∙ row_passed 2 _ _ x ∙ row_passed 11 _ _ y ∙ row_passed 12 _ _ z ∙ row_last 15 _ ∙ rw (found, is_there)

-- an optimising is not refused for want of space
pub optimise_done : OptimiseDone
unfolding OptimiseDone rows too_short Zeroed
optimise_done s L i small got work good =
    let (y, z) = both_hold (leb (length s) (length work)) (writable i.frame.format.layout s) good in (
      refused_by s L i got small (optimise_call work) ∙ row_passed 2 _ _ (le-ltb (length work) (length s) (leb→le (length s) (length work) y))
          ∙ row_last 11 _ ∙ ap not (holds_true (writable i.frame.format.layout s) z),
      (next s L i got small (optimise_call work)).answers.given_up.0,
    )
