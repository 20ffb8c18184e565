-- When each call gives each number, for all inputs, whether the image is accepted or not. Document 01, "Where each refusal is given", rows 1 to 15.
-- Of the image's rows the first that is broken gives the number of `image_in` (`Rows`); here is what each call makes of it, and the rows behind.
use Rattle.std.specs.Prelude.{ℕ, ◌<◌, ◌≤◌, ◌≡◌, ◌⊎◌, ◌↔◌, Bool, true, false, ◌&&◌, List, [], ◌∷◌, ◌++◌, length, T}
use Rattle.std.proofs.Math.Option.{some}
use Rattle.std.proofs.Math.Pow.{are_bytes}
use Rattle.spec.specs.Outcome.{Outcome, refused, ok}
use Rattle.spec.specs.Lists.{◌∈◌}
use Rattle.spec.specs.Header.{writable}
use Rattle.spec.specs.Entry.{Entry, headword_ok, text_ok, attribute_ok, text}
use Rattle.spec.specs.Check.{Image, image_in, entries_of}
use Rattle.spec.specs.SortedList.{lookup, successor}
use Rattle.spec.specs.Place.{plan_full}
use Rattle.spec.specs.Calls.{create, check, look_up, start_ok, walk, insert, delete, optimise}
use Rattle.spec.specs.Rows.{No, slices, numbers, content_numbers, image_numbers, SliceRule}
use Rattle.spec.specs.Claim.{insert_placing, delete_placing}
use Rattle.spec.specs.declared.NewFile.{NewFile}

-- the image's rows in a reading call
unfoldable pub ImageRows : {A : Type 0} → List ℕ → ℕ → Outcome A → Type 0
ImageRows s L o = (n : ℕ) → n ∈ image_numbers → (o ≡ refused n) ↔ (image_in s L ≡ refused n)

-- create: row 1, then row 3 by its argument. "another version is refused 3"
pub record CreateRows (s : List ℕ) (k : NewFile) : Type 0 where
  pub row_1 : ((create s k).answer ≡ refused 1) ↔ (length s < 256)
  pub row_3 : ((create s k).answer ≡ refused 3) ↔ ((256 ≤ length s) × No (k.version ≡ 4) × No (k.version ≡ 5))
  pub no_other : (n : ℕ) → (create s k).answer ≡ refused n → n ∈ 1 ∷ 3 ∷ []

-- check: the image's rows alone
unfoldable pub CheckRows : List ℕ → ℕ → Type 0
CheckRows s L = (n : ℕ) → (check s L ≡ refused n) ↔ (image_in s L ≡ refused n)

-- look up
pub record LookUpRows (s : List ℕ) (L : ℕ) (h out : List ℕ) : Type 0 where
  pub image_rows : ImageRows s L (look_up s L h out).answer
  pub row_12 : ((look_up s L h out).answer ≡ refused 12) ↔ ((i : Image) × (image_in s L ≡ ok i) × (headword_ok h ≡ false))
  pub row_14 : ((look_up s L h out).answer ≡ refused 14)
      ↔ ((i : Image) × (e : Entry) × (image_in s L ≡ ok i) × (headword_ok h ≡ true) × (lookup h (entries_of i) ≡ some e) × (length out < length (text e)))
  pub no_other : (n : ℕ) → (look_up s L h out).answer ≡ refused n → n ∈ image_numbers ++ 12 ∷ 14 ∷ []

-- walk
pub record WalkRows (s : List ℕ) (L : ℕ) (above : Bool) (h out_headword out_text : List ℕ) : Type 0 where
  pub image_rows : ImageRows s L (walk s L above h out_headword out_text).answer
  pub row_12 : ((walk s L above h out_headword out_text).answer ≡ refused 12) ↔ ((i : Image) × (image_in s L ≡ ok i) × (start_ok h ≡ false))
  pub row_14 : ((walk s L above h out_headword out_text).answer ≡ refused 14)
      ↔ ((i : Image) × (e : Entry) × (image_in s L ≡ ok i) × (start_ok h ≡ true) × (successor i.frame.format.below above h (entries_of i) ≡ some e)
      × ((length out_headword < length e.headword) ⊎ (length out_text < length (text e))))
  pub no_other : (n : ℕ) → (walk s L above h out_headword out_text).answer ≡ refused n → n ∈ image_numbers ++ 12 ∷ 14 ∷ []

-- the numbers with which a changing call begins: row 2 comes behind row 1, row 11 behind what the image holds
unfoldable pub change_numbers : List ℕ
change_numbers = numbers slices ++ 2 ∷ content_numbers ++ 11 ∷ []

-- when each of them is given
pub record ChangeRows {A : Type 0} (s : List ℕ) (L : ℕ) (work : List ℕ) (o : Outcome A) : Type 0 where
  pub row_1 : (o ≡ refused 1) ↔ No (SliceRule s L)
  pub row_2 : (o ≡ refused 2) ↔ (SliceRule s L × (length work < length s))
  pub content_rows : (n : ℕ) → n ∈ content_numbers → (o ≡ refused n) ↔ ((length s ≤ length work) × (image_in s L ≡ refused n))
  pub row_11 : (o ≡ refused 11) ↔ ((i : Image) × (length s ≤ length work) × (image_in s L ≡ ok i) × (writable i.frame.format.layout s ≡ false))

-- none of them applies: the slice holds this image, and it may be changed
pub record MayChange (s : List ℕ) (L : ℕ) (work : List ℕ) (i : Image) : Type 0 where
  pub working_slice : length s ≤ length work
  pub image : image_in s L ≡ ok i
  pub version : writable i.frame.format.layout s ≡ true

-- insert
pub record InsertRows (s : List ℕ) (L : ℕ) (work h : List ℕ) (a : ℕ) (t : List ℕ) : Type 0 where
  pub change_rows : ChangeRows s L work (insert s L work h a t).answer
  pub row_12 : ((insert s L work h a t).answer ≡ refused 12) ↔ ((i : Image) × MayChange s L work i × (headword_ok h ≡ false))
  pub row_13 : ((insert s L work h a t).answer ≡ refused 13) ↔ ((i : Image) × MayChange s L work i × (headword_ok h ≡ true) × (text_ok t && attribute_ok a ≡ false))
  pub row_15 : ((insert s L work h a t).answer ≡ refused 15)
      ↔ ((i : Image) × MayChange s L work i × (headword_ok h ≡ true) × (text_ok t && attribute_ok a ≡ true) × (plan_full s (insert_placing i h a t) ≡ true))
  pub no_other : (n : ℕ) → (insert s L work h a t).answer ≡ refused n → n ∈ change_numbers ++ 12 ∷ 13 ∷ 15 ∷ []

-- delete: "an absent deletion places nothing"
pub record DeleteRows (s : List ℕ) (L : ℕ) (work h : List ℕ) : Type 0 where
  pub change_rows : ChangeRows s L work (delete s L work h).answer
  pub row_12 : ((delete s L work h).answer ≡ refused 12) ↔ ((i : Image) × MayChange s L work i × (headword_ok h ≡ false))
  pub row_15 : ((delete s L work h).answer ≡ refused 15)
      ↔ ((i : Image) × (e : Entry) × MayChange s L work i × (headword_ok h ≡ true) × (lookup h (entries_of i) ≡ some e) × (plan_full s (delete_placing i h) ≡ true))
  pub no_other : (n : ℕ) → (delete s L work h).answer ≡ refused n → n ∈ change_numbers ++ 12 ∷ 15 ∷ []

-- optimise: "15 is never given by optimise", and no number but those with which a changing call begins
pub record OptimiseRows (s : List ℕ) (L : ℕ) (work : List ℕ) : Type 0 where
  pub change_rows : ChangeRows s L work (optimise s L work).answer
  pub never_15 : No ((optimise s L work).answer ≡ refused 15)
  pub no_other : (n : ℕ) → (optimise s L work).answer ≡ refused n → n ∈ change_numbers

-- Demand 1: each call gives the first number in the order of testing, for every content, length and argument
pub record FirstNumbers : Type 0 where
  pub create_rows : (s : List ℕ) (k : NewFile) → CreateRows s k
  pub check_rows : (s : List ℕ) (L : ℕ) → CheckRows s L
  pub look_up_rows : (s : List ℕ) (L : ℕ) (h out : List ℕ) → T (are_bytes s) → LookUpRows s L h out
  pub walk_rows : (s : List ℕ) (L : ℕ) (above : Bool) (h out_headword out_text : List ℕ) → T (are_bytes s) → WalkRows s L above h out_headword out_text
  pub insert_rows : (s : List ℕ) (L : ℕ) (work h : List ℕ) (a : ℕ) (t : List ℕ) → T (are_bytes s) → InsertRows s L work h a t
  pub delete_rows : (s : List ℕ) (L : ℕ) (work h : List ℕ) → T (are_bytes s) → DeleteRows s L work h
  pub optimise_rows : (s : List ℕ) (L : ℕ) (work : List ℕ) → T (are_bytes s) → OptimiseRows s L work

-- names all definitions of this module: who unfolds it unfolds them
unfoldable pub open_call_rows : Unit {0}
unfolding ImageRows CheckRows change_numbers
open_call_rows = tt
