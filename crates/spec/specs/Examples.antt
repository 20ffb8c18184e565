-- P1 to P10 of document 01, "Examples, and the printed list", as rows of one table, for both kinds of file.
use Rattle.std.specs.Prelude.{ℕ, Bool, true, false, ◌&&◌, List, [], ◌∷◌, map, take, T, eqb}
use Rattle.spec.specs.Ascii.{ascii}
use Rattle.spec.specs.Lists.{all}
use Rattle.spec.specs.Bytes.{bytes_equal}
use Rattle.spec.specs.Header.{new_image, format_of}
use Rattle.spec.specs.Entry.{Entry, shared_front, headword_suffix}
use Rattle.spec.specs.Run.{encoded_size, run_size}
use Rattle.spec.specs.Check.{image_in}
use Rattle.spec.specs.Place.{cut}
use Rattle.spec.specs.Listing.{listing}
use Rattle.spec.specs.Play.{t, entry, refusal, Step, ins, del, opt, play, file4, file5, empty, index_blocks_of, runs_at, free_at}
use Rattle.spec.specs.declared.NewFile.{NewFile}

-- a row of the table
pub data Example : Type 0 where
  -- headwords one after the other have these shared fronts and these rests
  fronts : List (List ℕ) → List ℕ → List (List ℕ) → Example
  -- entries encode in so many bytes, and are cut into parts of these numbers of blocks
  parts : List Entry → ℕ → List ℕ → Example
  -- from empty in a slice of so many bytes, the last of these calls answers an L or a refusal; then the index blocks, the runs' blocks and the free blocks
  calls : ℕ → List Step → List ℕ → ℕ → List ℕ → List ℕ → Example
  -- from empty in a slice of so many bytes, after these calls the program prints these bytes
  prints : ℕ → List Step → List ℕ → Example

-- whether headwords after prev have these fronts and rests
unfoldable pub fronts_are : List ℕ → List (List ℕ) → List ℕ → List (List ℕ) → Bool
fronts_are prev [] [] [] = true
fronts_are prev [] [] (r ∷ rs) = false
fronts_are prev [] (f ∷ fs) rs = false
fronts_are prev (h ∷ hs) [] rs = false
fronts_are prev (h ∷ hs) (f ∷ fs) [] = false
fronts_are prev (h ∷ hs) (f ∷ fs) (r ∷ rs) = eqb (shared_front prev h) f && bytes_equal (headword_suffix prev h) r && fronts_are h hs fs rs

-- whether a row holds of files that are created so
unfoldable pub example_holds : NewFile → Example → Bool
example_holds k (fronts hs fs rs) = fronts_are [] hs fs rs
example_holds k (parts es n bs) = eqb (encoded_size es) n && bytes_equal (map run_size (cut (format_of (new_image k)).run_limit es)) bs
example_holds k (calls n cs told ib rs fs) =
    let q = play (empty k n) cs in
    let i = image_in q.slice q.L in
    bytes_equal q.told told && eqb (index_blocks_of i) ib && bytes_equal (runs_at i) rs && bytes_equal (free_at i) fs
example_holds k (prints n cs x) =
    let q = play (empty k n) cs in
    bytes_equal (listing (take q.L q.slice)) x

-- the document's printed list after P3
unfoldable pub printed : List ℕ
printed = ascii "     2     1     1     0\n     1     0     1 128     3 ABC\n     2     0     1 128     3 ABDEF\n"

-- the headword a
unfoldable pub letter_a : List ℕ
letter_a = ascii "a"

-- the headword b
unfoldable pub letter_b : List ℕ
letter_b = ascii "b"

-- P1 to P10, each with its text
unfoldable pub examples : List Example
examples =
    -- P1 ABC, ABDEF, ABDGD, AGDE: shared 0, 2, 3, 1; rests ABC, DEF, GD, GDE.
    fronts (map ascii ("ABC" ∷ "ABDEF" ∷ "ABDGD" ∷ "AGDE" ∷ [])) (0 ∷ 2 ∷ 3 ∷ 1 ∷ []) (map ascii ("ABC" ∷ "DEF" ∷ "GD" ∷ "GDE" ∷ []))
    -- P2 Empty, insert ABC "one": L 768.
    ∷ calls 768 (ins (ascii "ABC") (ascii "one") ∷ []) (768 ∷ []) 1 (0 ∷ []) []
    -- P3 Then ABDEF "two": the run encodes in 26 bytes, L 768.
    ∷ parts (entry (ascii "ABC") (ascii "one") ∷ entry (ascii "ABDEF") (ascii "two") ∷ []) 26 (1 ∷ [])
    ∷ calls 768 (ins (ascii "ABC") (ascii "one") ∷ ins (ascii "ABDEF") (ascii "two") ∷ []) (768 ∷ []) 1 (0 ∷ []) []
    -- "After P3:" the printed list
    ∷ prints 768 (ins (ascii "ABC") (ascii "one") ∷ ins (ascii "ABDEF") (ascii "two") ∷ []) printed
    -- P4 a t(500), b t(508) encode in 1,024: one part.
    ∷ parts (entry letter_a (t 500) ∷ entry letter_b (t 508) ∷ []) 1_024 (4 ∷ [])
    -- P5 a t(500), b t(509): two parts of 2 and 3 blocks.
    ∷ parts (entry letter_a (t 500) ∷ entry letter_b (t 509) ∷ []) 1_025 (2 ∷ 3 ∷ [])
    -- P6 From empty, P5's inserts: runs at 0 and 2, L 1,792; a slice of 1,791 refuses the second with 15.
    ∷ calls 1_792 (ins letter_a (t 500) ∷ ins letter_b (t 509) ∷ []) (1_792 ∷ []) 1 (0 ∷ 2 ∷ []) []
    ∷ calls 1_791 (ins letter_a (t 500) ∷ ins letter_b (t 509) ∷ []) (refusal 15) 1 (0 ∷ []) []
    -- P7 Then delete a: free 0, 1; optimise: b at 0, L 1,280.
    ∷ calls 1_792 (ins letter_a (t 500) ∷ ins letter_b (t 509) ∷ del letter_a ∷ []) (1_792 ∷ []) 1 (2 ∷ []) (0 ∷ 1 ∷ [])
    ∷ calls 1_792 (ins letter_a (t 500) ∷ ins letter_b (t 509) ∷ del letter_a ∷ opt ∷ []) (1_280 ∷ []) 1 (0 ∷ []) []
    -- P8 From empty insert a t(0), 248 letters a t(0), b t(762): runs at 0 and 3, free 2, L 2,304.
    ∷ calls 2_304 (ins letter_a (t 0) ∷ ins (t 248) (t 0) ∷ ins letter_b (t 762) ∷ []) (2_304 ∷ []) 1 (0 ∷ 3 ∷ []) (2 ∷ [])
    -- P9 Then delete a: the index grows to 2, runs at 0 and 2, none free, L 2,304. A deletion can need space.
    ∷ calls 2_304 (ins letter_a (t 0) ∷ ins (t 248) (t 0) ∷ ins letter_b (t 762) ∷ del letter_a ∷ []) (2_304 ∷ []) 2 (0 ∷ 2 ∷ []) []
    -- P10 Headword of 248 accepted, 249 refused 12; text 3,000 accepted, 3,001 refused 13.
    ∷ calls 1_024 (ins (t 248) (t 1) ∷ []) (1_024 ∷ []) 1 (0 ∷ []) []
    ∷ calls 1_024 (ins (t 249) (t 1) ∷ []) (refusal 12) 0 [] []
    ∷ calls 4_096 (ins letter_a (t 3_000) ∷ []) (3_584 ∷ []) 1 (0 ∷ []) []
    ∷ calls 4_096 (ins letter_a (t 3_001) ∷ []) (refusal 13) 0 [] []
    ∷ []

-- THE THEOREM: every row holds of either kind. "What was said of entries and answers then covers both kinds of file."
unfoldable pub ExamplesHold : Type 0
ExamplesHold = T (all (λ k. all (example_holds k) examples) (file4 ∷ file5 ∷ []))

-- names all definitions of this module: who unfolds it unfolds them
unfoldable pub open_examples : Unit {0}
unfolding fronts_are example_holds printed letter_a letter_b examples ExamplesHold
open_examples = tt
