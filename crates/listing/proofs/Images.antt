-- What is printed of an image, in the terms of the code.
use Prim.Native.Nat.{ℕ, ◌%◌, ◌<◌, ◌≤◌}
use mathlib.Core.Path.{◌≡◌, refl, sym, ap, ◌∙◌}
use mathlib.Core.Bool.{Bool, true, false}
use mathlib.Core.List.{List, [], ◌++◌}
use native.Mathlib.Omega.{arith}
use lib.ListN.{length, length-append}
use lib.Seq.{take-length}
use borrow.Author.Tests.{lt-ltb, le-ltb}
use Rattle.spec.specs.Outcome.{refused, ok, accepted}
use Rattle.spec.specs.Bytes.{write}
use Rattle.spec.specs.Blocks.{count_marks}
use Rattle.spec.specs.Check as CheckSpec
use Rattle.spec.specs.Check.{Image, slice_ok, image_from}
use Rattle.spec.specs.Calls.{Figures, figures}
use Rattle.spec.specs.Listing as ListingSpec
use Rattle.spec.specs.Listing.{first_line, run_lines, image_lines, listing}
use Rattle.spec.proofs.WriteLaws.{written_behind}
use Rattle.header.proofs.Laws.{slice_refused, slice_accepted, slice_has_header, slice_in_blocks}
use Rattle.inspect.specs.Overview.{Told}
use Rattle.inspect.specs.declared.Overview.{Overview}
use Rattle.std.specs.Prelude.{Result, Ok}
use Rattle.spec.specs.Answers.{number_of}
use Rattle.spec.specs.declared.Refusal.{Refusal}
use Rattle.inspect.proofs.Laws.{is_accepted, is_marked, sound_figures}
use Rattle.listing.specs.Lines.{numbers, AllPrinted, Accepted, listed}
use Rattle.listing.proofs.Lines.{first_length}

-- the lines of an accepted image
accepted_list : (s : List ℕ) (i : Image) → image_from s ≡ ok i → image_lines (image_from s) ≡ first_line (figures i) ++ run_lines 1 i.runs
unfolding ListingSpec.image_lines
accepted_list s i h = ap image_lines h

-- an accepted image, of which v tells, with so many free blocks: its first line and the lines of its runs are its list:
module _ (s : List ℕ) (v : Overview) (free : ℕ) (a : Accepted s v free) (start : ℕ) (out out₁ out₂ : List ℕ) (r : ℕ) (z : start ≡ 25)
    (p : out₁ ≡ write 0 (first_line (numbers v.words v.n v.d free)) out) (q : AllPrinted s start out₁ out₂ r) where
  first : List ℕ
  first = first_line (numbers v.words v.n v.d free)

  others : List ℕ
  others = run_lines 1 a.0.image.runs

  first_long : 25 ≡ length first
  unfolding first
  first_long = first_length v.words v.n v.d free

  whole : image_lines (image_from s) ≡ first ++ others
  unfolding first others
  whole = accepted_list s a.0.image a.0.is ∙ ap (λ (c : Figures). first_line c ++ run_lines 1 a.0.image.runs) a.1

  -- where it ends
  pub listed_end : r ≡ length (image_lines (image_from s))
  unfolding others
  listed_end = rw whole (omega (arith, z, first_long, length-append first others, (q a.0.image a.0.is).1))

  -- its bytes
  pub listed_printed : out₂ ≡ write 0 (image_lines (image_from s)) out
  unfolding first others
  listed_printed = rw whole (written_behind out out₁ out₂ first others 0 start (omega arith) (omega (arith, z, first_long)) p (q a.0.image a.0.is).0)

-- ---- the list of any input
module _ (s : List ℕ) where
  -- "a longer input counts as 1"
  pub list_long : 65_536 < length s → listing s ≡ image_lines (refused (number_of Refusal.BadLength))
  unfolding ListingSpec.listing number_of
  list_long p = rw (lt-ltb 65_536 (length s) p)

  module _ (b : Bool) (e : b ≡ accepted (slice_ok s (length s))) where
    -- row 1
    pub list_broken : length s ≤ 65_536 → b ≡ false → listing s ≡ image_lines (refused (number_of Refusal.BadLength))
    unfolding ListingSpec.listing CheckSpec.image_in number_of
    list_broken p t = rw (le-ltb 65_536 (length s) p, slice_refused s (length s) (sym e ∙ t))

    module _ (t : b ≡ true) where
      -- an input that row 1 lets pass has a header,
      pub list_header : 256 ≤ length s
      list_header = slice_has_header s (length s) (sym e ∙ t)

      -- and is whole blocks
      pub list_blocks : length s % 256 ≡ 0
      list_blocks = slice_in_blocks s (length s) (sym e ∙ t)

      -- rows 3 to 10
      pub list_image : length s ≤ 65_536 → listing s ≡ image_lines (image_from s)
      unfolding ListingSpec.listing CheckSpec.image_in
      list_image p = rw (le-ltb 65_536 (length s) p, slice_accepted s (length s) (sym e ∙ t), take-length s)

-- in a slice that is too short nothing is stored
listed_nothing : (s out : List ℕ) → length out < 4_000_000 → listed s out ≡ []
unfolding listed
listed_nothing s out p = rw (lt-ltb (length out) 4_000_000 p, listed)

-- it is left as it is
pub listed_short : (s out : List ℕ) → length out < 4_000_000 → (0 ≡ length (listed s out)) × (out ≡ write 0 (listed s out) out)
unfolding write
listed_short s out p = rw (listed_nothing s out p) (refl, refl)

-- another gets the list
pub listed_whole : (s out : List ℕ) → 4_000_000 ≤ length out → listed s out ≡ listing s
unfolding listed
listed_whole s out p = rw (le-ltb (length out) 4_000_000 p, listed)

-- where a list ends, by the bytes that it is
pub list_end : (x y : List ℕ) (r : ℕ) → x ≡ y → r ≡ length y → r ≡ length x
list_end x y r h p = rw h p

-- a list that is stored, by the bytes that it is
pub list_stored : (x y out out' : List ℕ) → x ≡ y → out' ≡ write 0 y out → out' ≡ write 0 x out
list_stored x y out out' h p = rw h p

-- ---- what inspecting an image tells
module _ (s : List ℕ) (ms : List Bool) (r : Result Overview Refusal) (told : Told s ms r) where
  -- an accepted image and its free blocks
  pub told_sound : (v : Overview) → r ≡ Ok v → (free : ℕ) → free ≡ count_marks ms → Accepted s v free
  told_sound v q free c =
      let a = is_accepted s ms r told v q in
      (a, sound_figures s ms v a (is_marked s ms r told v q) free c)
