-- What the returns of the reading calls show, in the terms of the code.
use Prim.Native.Nat.{ℕ, ◌%◌, ◌≤◌}
use mathlib.Core.Path.{◌≡◌, sym, ap, ◌∙◌}
use mathlib.Core.Bool.{Bool, true, false, not}
use mathlib.Core.List.{List}
use lib.ListN.{length, take}
use lib.Seq.{length-take-le}
use borrow.Author.Tests.{not-true, not-false}
use Rattle.spec.specs.Outcome.{refused, ok, accepted}
use Rattle.spec.specs.Blocks.{count_marks}
use Rattle.spec.specs.Check as Check
use Rattle.spec.specs.Check.{Image, slice_ok, image_from, image_in}
use Rattle.spec.specs.Calls as Calls
use Rattle.spec.specs.Calls.{look_up_in, walk_in, check, look_up_result, look_up, walk_result, walk}
use Rattle.spec.specs.Answers as Answers
use Rattle.spec.specs.Answers.{number_of, check_answer, look_up_answer, walk_answer}
use Rattle.spec.specs.declared.Refusal.{Refusal}
use Rattle.spec.specs.declared.TextFound.{TextFound}
use Rattle.spec.specs.declared.EntryFound.{EntryFound}
use Rattle.std.specs.Prelude.{Option, Result, Ok, Err}
use Rattle.header.proofs.Laws.{slice_refused, slice_accepted, slice_has_header, slice_in_blocks, slice_holds}
use Rattle.inspect.specs.Overview.{AcceptedImage, Told}
use Rattle.inspect.specs.declared.Overview.{Overview}
use Rattle.inspect.proofs.Accepted.{front_header}
use Rattle.inspect.proofs.Laws.{is_refused, is_accepted, is_marked, sound_figures}

module _ (s : List ℕ) (len : ℕ) (t : Bool) (slice : t ≡ accepted (slice_ok s len)) where
  -- row 1
  unsliced : not t ≡ true → image_in s len ≡ refused (number_of Refusal.BadLength)
  unfolding Check.image_in Answers.number_of
  unsliced q = rw (slice_refused s len (sym slice ∙ not-true t q))

  pub check_slice : not t ≡ true → check_answer (Err Refusal.BadLength) ≡ check s len
  unfolding Calls.check Answers.check_answer
  check_slice q = sym (rw (unsliced q))

  pub look_up_slice : not t ≡ true → (h out : List ℕ) → record { answer = look_up_answer (Err Refusal.BadLength); text = out } ≡ look_up s len h out
  unfolding Calls.look_up Calls.look_up_entry Calls.look_up_result Answers.look_up_answer
  look_up_slice q h out = sym (rw (unsliced q))

  pub walk_slice : not t ≡ true → (above : Bool) (h out text : List ℕ) → record { answer = walk_answer (Err Refusal.BadLength); headword = out; text = text } ≡ walk s len above h out text
  unfolding Calls.walk Calls.walk_entry Calls.walk_result Answers.walk_answer
  walk_slice q above h out text = sym (rw (unsliced q))

  module _ (q : not t ≡ false) where
    sliced : image_in s len ≡ image_from (take len s)
    unfolding Check.image_in
    sliced = rw (slice_accepted s len (sym slice ∙ not-false t q))

    -- the image is as long as it says, at least a header long, and in whole blocks
    pub slice_front : len ≡ length (take len s)
    slice_front = sym (length-take-le len s (slice_holds s len (sym slice ∙ not-false t q)))

    pub slice_header : 256 ≤ length (take len s)
    slice_header = front_header s len (slice_holds s len (sym slice ∙ not-false t q)) (slice_has_header s len (sym slice ∙ not-false t q))

    pub slice_blocks : length (take len s) % 256 ≡ 0
    slice_blocks = rw (← slice_front) (slice_in_blocks s len (sym slice ∙ not-false t q))

    module _ (ms : List Bool) (r : Result Overview Refusal) (told : Told (take len s) ms r) where
      -- rows 3 to 10
      image_refused : (j : Refusal) → r ≡ Err j → image_in s len ≡ refused (number_of j)
      image_refused j h = sliced ∙ is_refused (take len s) ms r told j h

      pub check_refused : (j : Refusal) → r ≡ Err j → check_answer (Err j) ≡ check s len
      unfolding Calls.check Answers.check_answer
      check_refused j h = sym (rw (image_refused j h))

      -- rows 3 to 10 of a look up
      pub look_up_refused : (j : Refusal) → r ≡ Err j → (h out : List ℕ) → record { answer = look_up_answer (Err j); text = out } ≡ look_up s len h out
      unfolding Calls.look_up Calls.look_up_entry Calls.look_up_result Answers.look_up_answer
      look_up_refused j e h out = sym (rw (image_refused j e))

      -- rows 3 to 10 of a walk
      pub walk_refused : (j : Refusal) → r ≡ Err j → (above : Bool) (h out text : List ℕ)
          → record { answer = walk_answer (Err j); headword = out; text = text } ≡ walk s len above h out text
      unfolding Calls.walk Calls.walk_entry Calls.walk_result Answers.walk_answer
      walk_refused j e above h out text = sym (rw (image_refused j e))

      module _ (v : Overview) (h : r ≡ Ok v) where
        sound : AcceptedImage (take len s) v
        sound = is_accepted (take len s) ms r told v h

        image_ok : image_in s len ≡ ok sound.image
        image_ok = sliced ∙ sound.is

        -- the four numbers
        pub check_counted : (c : ℕ) → c ≡ count_marks ms → check_answer (Ok (record { headwords = v.words; index_blocks = v.n; data_blocks = v.d; free_blocks = c })) ≡ check s len
        unfolding Calls.check Answers.check_answer
        check_counted c e = sym (rw image_ok (ap ok (sound_figures (take len s) ms v sound (is_marked (take len s) ms r told v h) c e)))

        -- a look up by the answer in the image
        pub look_up_answered : (g out : List ℕ) (x : Result (Option TextFound) Refusal) (out' : List ℕ)
            → ((i : Image) → image_from (take len s) ≡ ok i → record { answer = look_up_answer x; text = out' } ≡ look_up_result out (look_up_in i g out))
            → record { answer = look_up_answer x; text = out' } ≡ look_up s len g out
        unfolding Calls.look_up Calls.look_up_entry Calls.look_up_in Calls.text_fitted
        look_up_answered g out x out' f = f sound.image sound.is ∙ ap (look_up_result out) (sym (rw (image_ok)))

        -- a walk by the answer in the image
        pub walk_answered : (above : Bool) (g out text : List ℕ) (x : Result (Option EntryFound) Refusal) (out' text' : List ℕ)
            → ((i : Image) → image_from (take len s) ≡ ok i → record { answer = walk_answer x; headword = out'; text = text' } ≡ walk_result out text (walk_in i above g out text))
            → record { answer = walk_answer x; headword = out'; text = text' } ≡ walk s len above g out text
        unfolding Calls.walk Calls.walk_entry Calls.walk_in Calls.start_ok Calls.entry_fitted
        walk_answered above g out text x out' text' f = f sound.image sound.is ∙ ap (walk_result out text) (sym (rw (image_ok)))
