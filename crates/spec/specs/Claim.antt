-- The sorted-list claim. Document 01, "The sorted-list claim (demand 3)": "It is one claim about a whole list of calls, made for every such list, and not a law for each call."
use Rattle.std.specs.Prelude.{ℕ, ◌+◌, ◌-◌, ◌%◌, ◌<◌, ◌≤◌, max, ◌≡◌, Bool, true, false, not, ◌&&◌, ◌||◌, List, [], ◌∷◌, length, take, drop, T, leb, ltb, eqb}
use Rattle.std.proofs.Math.Option.{Option, none, some}
use Rattle.std.proofs.Math.Pow.{are_bytes}
use Rattle.spec.specs.Order.{HeadwordOrder}
use Rattle.spec.specs.Outcome.{Outcome, refused, ok}
use Rattle.spec.specs.Lists.{all, count}
use Rattle.spec.specs.Bytes.{bytes_at, zeros, no_zero}
use Rattle.spec.specs.Header.{get, writable, written_fields, lies_in, header_bytes}
use Rattle.spec.specs.Entry.{Entry, headword_ok, text_ok, attribute_ok, entry_of, attribute, text}
use Rattle.spec.specs.Blocks.{covers, run_blocks}
use Rattle.spec.specs.Check.{Image, image_in, entries_of}
use Rattle.spec.specs.SortedList.{Sorted, lookup, successor, replace, remove}
use Rattle.spec.specs.Place.{Plan, plan_change, plan_packed, plan_full, plan_written}
use Rattle.spec.specs.ImageForm.{IsImage}
use Rattle.spec.specs.Calls.{FoundText, FoundEntry, check, look_up, walk, insert, delete, optimise, given_up_zeroed}

-- "The calls are look up, walk, insert, delete and optimise on one image slice": each with its arguments and its other slices
pub data Call : Type 0 where
  -- headword, output slice
  look_up_call : List ℕ → List ℕ → Call
  -- above or not below, headword, output slices for headword and text
  walk_call : Bool → List ℕ → List ℕ → List ℕ → Call
  -- working slice, headword, attribute, text
  insert_call : List ℕ → List ℕ → ℕ → List ℕ → Call
  -- working slice, headword
  delete_call : List ℕ → List ℕ → Call
  -- working slice
  optimise_call : List ℕ → Call

-- what a caller observes of a call that is not refused
pub data Observed : Type 0 where
  absent : Observed
  -- attribute, text, text length
  text_found : ℕ → List ℕ → ℕ → Observed
  -- headword, text, attribute and both lengths
  entry_found : List ℕ → List ℕ → ℕ → ℕ → ℕ → Observed
  -- an insertion or an optimising was done
  done : Observed
  -- a deletion removed
  removed : Observed

-- The sorted list. "After that it is fed each call, its arguments and whether it was refused, and nothing of the image."

-- "Look up: the attribute, text and text length of the entry with that headword, else absent."
unfoldable pub tell_text : Option Entry → Observed
tell_text none = absent
tell_text (some e) = text_found (attribute e) (text e) (length (text e))

-- "Headword, text, attribute and both lengths are the answer, else absent."
unfoldable pub tell_entry : Option Entry → Observed
tell_entry none = absent
tell_entry (some e) = entry_found e.headword (text e) (attribute e) (length e.headword) (length (text e))

-- "the answer is "removed" …; else absent"
unfoldable pub tell_removed : Option Entry → Observed
tell_removed none = absent
tell_removed (some e) = removed

-- the sorted list's answer to a call that is not refused
unfoldable pub list_answer : HeadwordOrder → Call → List Entry → Observed
list_answer below (look_up_call h out) es = tell_text (lookup h es)
list_answer below (walk_call above h out_headword out_text) es = tell_entry (successor below above h es)
list_answer below (insert_call work h a t) es = done
list_answer below (delete_call work h) es = tell_removed (lookup h es)
list_answer below (optimise_call work) es = done

-- the sorted list after a call that is not refused
unfoldable pub list_after : HeadwordOrder → Call → List Entry → List Entry
list_after below (look_up_call h out) es = es
list_after below (walk_call above h out_headword out_text) es = es
list_after below (insert_call work h a t) es = replace below (entry_of h a t) es
list_after below (delete_call work h) es = remove h es
list_after below (optimise_call work) es = es

-- the sorted list's step. "Refused: nothing changes."
unfoldable pub list_step : HeadwordOrder → Bool → Call → List Entry → List Entry
list_step below true c es = es
list_step below false c es = list_after below c es

-- The call on the image slice.

-- what comes of a call on the image slice: what is observed, the image slice, and the length that stands then
pub record Performed : Type 0 where
  pub observed : Outcome Observed
  pub image : List ℕ
  pub length_after : ℕ

-- "A call that returns no L leaves the last one standing."
unfoldable pub new_length : ℕ → Outcome ℕ → ℕ
new_length L (refused n) = L
new_length L (ok n) = n

-- the same for a deletion
unfoldable pub new_length_or : ℕ → Outcome (Option ℕ) → ℕ
new_length_or L (refused n) = L
new_length_or L (ok none) = L
new_length_or L (ok (some n)) = n

-- the text is read from the output slice, as far as the answered length
unfoldable pub observed_text : Outcome (Option FoundText) → List ℕ → Outcome Observed
observed_text (refused n) out = refused n
observed_text (ok none) out = ok absent
observed_text (ok (some f)) out = ok (text_found f.attribute (take f.text_length out) f.text_length)

-- headword and text are read from the output slices, as far as the answered lengths
unfoldable pub observed_entry : Outcome (Option FoundEntry) → List ℕ → List ℕ → Outcome Observed
observed_entry (refused n) out_headword out_text = refused n
observed_entry (ok none) out_headword out_text = ok absent
observed_entry (ok (some f)) out_headword out_text = ok (entry_found (take f.headword_length out_headword) (take f.text_length out_text) f.attribute f.headword_length f.text_length)

-- "the L returned with it belongs to the image"
unfoldable pub observed_done : Outcome ℕ → Outcome Observed
observed_done (refused n) = refused n
observed_done (ok n) = ok done

-- the same for a deletion
unfoldable pub observed_removed : Outcome (Option ℕ) → Outcome Observed
observed_removed (refused n) = refused n
observed_removed (ok none) = ok absent
observed_removed (ok (some n)) = ok removed

-- the call on the image slice s with the length L
unfoldable pub perform : List ℕ → ℕ → Call → Performed
perform s L (look_up_call h out) =
    let r = look_up s L h out in
    record { observed = observed_text r.answer r.text; image = s; length_after = L }
perform s L (walk_call above h out_headword out_text) =
    let r = walk s L above h out_headword out_text in
    record { observed = observed_entry r.answer r.headword r.text; image = s; length_after = L }
perform s L (insert_call work h a t) =
    let r = insert s L work h a t in
    record { observed = observed_done r.answer; image = r.image; length_after = new_length L r.answer }
perform s L (delete_call work h) =
    let r = delete s L work h in
    record { observed = observed_removed r.answer; image = r.image; length_after = new_length_or L r.answer }
perform s L (optimise_call work) =
    let r = optimise s L work in
    record { observed = observed_done r.answer; image = r.image; length_after = new_length L r.answer }

-- whether a call was refused
unfoldable pub is_refused : Outcome Observed → Bool
is_refused (refused n) = true
is_refused (ok a) = false

-- The refusals. "A call is refused exactly when 2, 11, 12, 13, 14 or 15 applies, and the first of them is its number."

-- a row of the refusal table: its number, and whether it applies
pub record Row : Type 0 where
  pub number : ℕ
  pub applies : Bool

-- a row by its number and its test
infix 68 ◌if◌
unfoldable pub ◌if◌ : ℕ → Bool → Row
n if b = record { number = n; applies = b }

-- "the first of them is its number"
unfoldable pub first_row : List Row → Option ℕ
first_row [] = none
first_row (r ∷ rs) = elim r.applies [ true ↦ some r.number | false ↦ first_row rs ]

-- a slice too short for some bytes
unfoldable pub too_short : List ℕ → List ℕ → Bool
too_short out x = ltb (length out) (length x)

-- "14 goes by the answer the sorted list would otherwise give"
unfoldable pub short_for_text : List ℕ → Option Entry → Bool
short_for_text out none = false
short_for_text out (some e) = too_short out (text e)

-- the same for a walk's two output slices
unfoldable pub short_for_entry : List ℕ → List ℕ → Option Entry → Bool
short_for_entry out_headword out_text none = false
short_for_entry out_headword out_text (some e) = too_short out_headword e.headword || too_short out_text (text e)

-- "an absent deletion places nothing"
unfoldable pub is_there : Option Entry → Bool
is_there none = false
is_there (some e) = true

-- the placing of an insertion from the image that the call found
unfoldable pub insert_placing : Image → List ℕ → ℕ → List ℕ → Plan
insert_placing i h a t = plan_change i.frame.format i h (replace i.frame.format.below (entry_of h a t))

-- the placing of a deletion of a stored headword
unfoldable pub delete_placing : Image → List ℕ → Plan
delete_placing i h = plan_change i.frame.format i h (remove h)

-- the placing of an optimising
unfoldable pub optimise_placing : Image → Plan
optimise_placing i = plan_packed i.frame.format i.runs

-- the rows of a call on the slice s with the accepted image i, beside the sorted list es; "15 by the image the call found", and "15 is never
-- given by optimise"
unfoldable pub rows : List ℕ → Image → List Entry → Call → List Row
rows s i es (look_up_call h out) =
    12 if not (headword_ok h)
    ∷ 14 if short_for_text out (lookup h es)
    ∷ []
rows s i es (walk_call above h out_headword out_text) =
    12 if not (leb (length h) 248 && no_zero h)
    ∷ 14 if short_for_entry out_headword out_text (successor i.frame.format.below above h es)
    ∷ []
rows s i es (insert_call work h a t) =
    2 if too_short work s
    ∷ 11 if not (writable i.frame.format.layout s)
    ∷ 12 if not (headword_ok h)
    ∷ 13 if not (text_ok t && attribute_ok a)
    ∷ 15 if plan_full s (insert_placing i h a t)
    ∷ []
rows s i es (delete_call work h) =
    2 if too_short work s
    ∷ 11 if not (writable i.frame.format.layout s)
    ∷ 12 if not (headword_ok h)
    ∷ 15 if (is_there (lookup h es) && plan_full s (delete_placing i h))
    ∷ []
rows s i es (optimise_call work) =
    2 if too_short work s
    ∷ 11 if not (writable i.frame.format.layout s)
    ∷ []

-- what must be observed: the first refusal that applies, else the sorted list's answer
unfoldable pub expected : Option ℕ → Observed → Outcome Observed
expected none x = ok x
expected (some n) x = refused n

-- The bytes.

-- the image slice after a call that is not refused; a reading call and an absent deletion leave it as it is
unfoldable pub slice_after : List ℕ → ℕ → Image → Call → List ℕ
slice_after s L i (look_up_call h out) = s
slice_after s L i (walk_call above h out_headword out_text) = s
slice_after s L i (insert_call work h a t) = plan_written (insert_placing i h a t) s
slice_after s L i (delete_call work h) = elim (lookup h (entries_of i)) [ none ↦ s | some e ↦ plan_written (delete_placing i h) s ]
slice_after s L i (optimise_call work) = given_up_zeroed L (optimise_placing i) (plan_written (optimise_placing i) s)

-- "Image … slices keep their bytes on a refusal."
unfoldable pub slice_kept : Bool → List ℕ → List ℕ → List ℕ
slice_kept true s after = s
slice_kept false s after = after

-- "A successful change (an insertion, a deletion that removes, or any optimising not refused)": whether a call that is not refused is one
unfoldable pub is_change : Call → List Entry → Bool
is_change (look_up_call h out) es = false
is_change (walk_call above h out_headword out_text) es = false
is_change (insert_call work h a t) es = true
is_change (delete_call work h) es = is_there (lookup h es)
is_change (optimise_call work) es = true

-- "adds one to update_count; the update count goes from 4,294,967,295 to 0"
unfoldable pub next_count : Bool → ℕ → ℕ
next_count true n = (n + 1) % 4_294_967_296
next_count false n = n

-- "optimise zeroes what it gives up": from the new L to the old
unfoldable pub Zeroed : Call → List ℕ → ℕ → ℕ → Type 0
Zeroed (look_up_call h out) image new old = Unit {0}
Zeroed (walk_call above h out_headword out_text) image new old = Unit {0}
Zeroed (insert_call work h a t) image new old = Unit {0}
Zeroed (delete_call work h) image new old = Unit {0}
Zeroed (optimise_call work) image new old = (new ≤ old) × (bytes_at new (old - new) image ≡ zeros (old - new))

-- The claim.

-- Between two calls, before the first and after the last: the image is accepted and its entries are the sorted list's;
-- check answers as many headwords as the sorted list has entries, and data blocks = blocks in runs + free blocks, each block once.
-- "Blocks in runs are the sum of the runs' numbers of blocks, free blocks the chain's length, data blocks D."
pub record Matches (below : HeadwordOrder) (s : List ℕ) (L : ℕ) (es : List Entry) : Type 0 where
  pub image : Image
  pub accepted : image_in s L ≡ ok image
  -- demand 2: its bytes are made up as the format says
  pub bytes : T (are_bytes s)
  pub made_up : IsImage (take L s) image
  pub same_order : image.frame.format.below ≡ below
  pub entries : entries_of image ≡ es
  pub sorted : Sorted below es
  pub checked : check s L ≡ ok (record {
    headwords = length es;
    index_blocks = image.frame.index_blocks;
    data_blocks = run_blocks image.runs + length image.free_list;
    free_blocks = length image.free_list;
  })
  pub each_once : (b : ℕ) → b < run_blocks image.runs + length image.free_list → count (covers b) image.runs + count (eqb b) image.free_list ≡ 1

-- One call on a slice with the accepted image i, beside the sorted list es: refused exactly as the rows say, else answered as the list
-- answers; the slice has the bytes that the papers give, and its size.
pub record AnswersAs (below : HeadwordOrder) (s : List ℕ) (L : ℕ) (i : Image) (es : List Entry) (c : Call) (r : Performed) : Type 0 where
  pub observed : r.observed ≡ expected (first_row (rows s i es c)) (list_answer below c es)
  pub bytes : r.image ≡ slice_kept (is_refused r.observed) s (slice_after s L i c)
  pub size_stays : length r.image ≡ length s
  -- "so does the image slice past L, except that optimise zeroes what it gives up": what stands past the old L and the new
  pub kept_past : drop (max L r.length_after) r.image ≡ drop (max L r.length_after) s
  pub given_up : Zeroed c r.image r.length_after L
  pub update_count : get i.frame.format.layout.update_count r.image ≡ next_count (not (is_refused r.observed) && is_change c es) (get i.frame.format.layout.update_count s)
  -- "No other header byte changes."
  pub header_kept : (n : ℕ) → n < header_bytes i.frame.format → all (λ f. not (lies_in n f)) (written_fields i.frame.format.layout) ≡ true → bytes_at n 1 r.image ≡ bytes_at n 1 s

-- all calls of a list, each given the length last returned
unfoldable pub History : HeadwordOrder → List ℕ → ℕ → List Entry → List Call → Type 0
History below s L es [] = Matches below s L es
History below s L es (c ∷ cs) =
    (m : Matches below s L es)
    × AnswersAs below s L m.image es c (perform s L c)
    × History below (perform s L c).image (perform s L c).length_after (list_step below (is_refused (perform s L c).observed) c es) cs

-- "their arguments, and the lengths and contents of their other slices, are any": of bytes
unfoldable pub call_bytes : Call → Bool
call_bytes (look_up_call h out) = are_bytes h && are_bytes out
call_bytes (walk_call above h out_headword out_text) = are_bytes h && are_bytes out_headword && are_bytes out_text
call_bytes (insert_call work h a t) = are_bytes work && are_bytes h && ltb a 256 && are_bytes t
call_bytes (delete_call work h) = are_bytes work && are_bytes h
call_bytes (optimise_call work) = are_bytes work

-- THE CLAIM. "At first the slice holds an accepted image (demand 2), and the first call is given its L." The list "starts as the first image's entries."
unfoldable pub SortedListClaim : Type 0
SortedListClaim =
    (s : List ℕ) (L : ℕ) (i : Image) → T (are_bytes s) → image_in s L ≡ ok i
    → (cs : List Call) → T (all call_bytes cs) → History i.frame.format.below s L (entries_of i) cs

-- the slice after a list of calls, each given the length last returned
unfoldable pub slice_after_all : List ℕ → ℕ → List Call → List ℕ
slice_after_all s L [] = s
slice_after_all s L (c ∷ cs) = slice_after_all (perform s L c).image (perform s L c).length_after cs

-- "the eight bytes at 216 identify the dictionary and no call alters them": after any list of calls they are those before, in a file of
-- version 5, and in one of version 4, where they identify nothing
unfoldable pub IdentifierKept : Type 0
IdentifierKept =
    (s : List ℕ) (L : ℕ) (i : Image) → T (are_bytes s) → image_in s L ≡ ok i
    → (cs : List Call) → T (all call_bytes cs) → bytes_at 216 8 (slice_after_all s L cs) ≡ bytes_at 216 8 s

-- "Arguments and slices are good when 1, 2, 12 and 13 do not apply; a version is writable when 11 does not.": 2, 11 and 12; 1 does not apply to an accepted image, and 13 is the insertion's own
unfoldable pub good_change : List ℕ → Image → List ℕ → List ℕ → Bool
good_change s i work h = leb (length s) (length work) && writable i.frame.format.layout s && headword_ok h

-- with good arguments and slices and a writable version, an insertion is refused exactly when its placing passes the slice or a limit
unfoldable pub InsertRefused : Type 0
InsertRefused =
    (s : List ℕ) (L : ℕ) (i : Image) → T (are_bytes s) → image_in s L ≡ ok i
    → (work h : List ℕ) (a : ℕ) (t : List ℕ) → T (good_change s i work h) → T (text_ok t && attribute_ok a)
    → is_refused (perform s L (insert_call work h a t)).observed ≡ plan_full s (insert_placing i h a t)

-- the same for a deletion of a stored headword
unfoldable pub DeleteRefused : Type 0
DeleteRefused =
    (s : List ℕ) (L : ℕ) (i : Image) → T (are_bytes s) → image_in s L ≡ ok i
    → (work h : List ℕ) (e : Entry) → T (good_change s i work h) → lookup h (entries_of i) ≡ some e
    → is_refused (perform s L (delete_call work h)).observed ≡ plan_full s (delete_placing i h)

-- an optimising with a working slice and a writable version is not refused, and the image gets no longer
unfoldable pub OptimiseDone : Type 0
OptimiseDone =
    (s : List ℕ) (L : ℕ) (i : Image) → T (are_bytes s) → image_in s L ≡ ok i
    → (work : List ℕ) → T (leb (length s) (length work) && writable i.frame.format.layout s)
    → (is_refused (perform s L (optimise_call work)).observed ≡ false) × ((perform s L (optimise_call work)).length_after ≤ L)

-- names all definitions of this module: who unfolds it unfolds them
unfoldable pub open_claim : Unit {0}
unfolding tell_text tell_entry tell_removed list_answer list_after list_step new_length new_length_or observed_text observed_entry observed_done
    observed_removed perform is_refused ◌if◌ first_row too_short short_for_text short_for_entry is_there insert_placing delete_placing optimise_placing rows
    expected slice_after slice_kept is_change next_count Zeroed History call_bytes SortedListClaim slice_after_all IdentifierKept good_change InsertRefused DeleteRefused OptimiseDone
open_claim = tt
