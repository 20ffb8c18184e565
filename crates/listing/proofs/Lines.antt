-- What stored columns and lines show, in the terms of the code.
use Prim.Native.Nat.{ℕ, zero, suc, ◌+◌, ◌-◌, ◌/◌, ◌%◌, ◌<◌, ◌≤◌}
use mathlib.Core.Path.{◌≡◌, refl, sym, ap, ◌∙◌}
use mathlib.Core.Bool.{Bool, true, false, cond, not, ◌||◌}
use mathlib.Core.List.{List, [], ◌∷◌, ◌++◌, append_assoc}
use native.Mathlib.Omega.{arith}
use lib.ListN.{length, set, take, drop, length-append}
use lib.Seq.{drop-drop}
use borrow.Rule.Slice.PartMut.{put_mid}
use lib.Dec.{eqb}
use Rattle.spec.specs.Bytes.{write}
use Rattle.spec.specs.Listing as ListingSpec
use Rattle.spec.specs.Listing.{digits, column, first_line, image_lines}
use Rattle.spec.specs.Ascii as AsciiSpec
use Rattle.spec.specs.Ascii.{ascii}
use Rattle.spec.specs.Outcome.{refused}
use Rattle.listing.specs.Lines as LinesSpec
use Rattle.listing.specs.Lines.{entry_numbers, fields_line, numbers}
use Rattle.listing.specs.declared.Fields.{Fields}
use Rattle.spec.proofs.WriteLaws.{write_none, written_behind, write_ahead, length_write}
use Rattle.byteops.proofs.Stores.{one_stored}

-- ---- columns
-- so many digits, so many bytes
pub digits_length : (last : Bool) (w n : ℕ) → length (digits last w n) ≡ w
unfolding digits
digits_length last zero n = refl
digits_length last (suc w) n = length-append (digits false w (n / 10)) (cond (last || not (eqb n 0)) (48 + n % 10) 32 ∷ []) ∙ omega (arith, digits_length false w (n / 10))

-- so many columns, so many bytes
pub column_length : (w n : ℕ) → length (column w n) ≡ w
unfolding column
column_length w n = digits_length true w n

-- a byte stored behind others
one_behind : (d d₁ x : List ℕ) (i j b : ℕ) → i + length x ≡ j → j < length d → d₁ ≡ write i x d → set d₁ j b ≡ write i (x ++ b ∷ []) d
one_behind d d₁ x i j b p q u =
    let l : length d₁ ≡ length d = ap (λ (y : List ℕ). length y) u ∙ length_write i x d (omega arith) in
    written_behind d d₁ (set d₁ j b) x (b ∷ []) i j (omega arith) p u (one_stored d₁ j b (omega arith))

-- what k bytes from `at` on hold now is stored there
part_stored : (d x y : List ℕ) (at k : ℕ) → y ≡ x → k ≡ length x → put_mid at k d y ≡ write at x d
unfolding write
part_stored d x y at k e l = rw (e, drop-drop k at d, l) (sym (append_assoc (take at d) x (drop (at + length x) d)))

-- the columns still to be stored, stored in what stands there now, are all of them
module _ (d₀ d : List ℕ) (at w n left m : ℕ) (h : write at (digits false left m) d ≡ write at (digits false w n) d₀) where
  -- the last of them is stored
  pub columns_turn : (b : ℕ) → 0 < left → left ≤ w → at + w ≤ length d₀ → length d ≡ length d₀ → b ≡ cond (not (eqb m 0)) (48 + m % 10) 32
      → write at (digits false (left - 1) (m / 10)) (set d (at + (left - 1)) b) ≡ write at (digits false w n) d₀
  unfolding digits
  columns_turn b p q r s e =
      let k : left ≡ suc (left - 1) = omega arith in
      let x : List ℕ = digits false (left - 1) (m / 10) in
      let l : length x ≡ left - 1 = digits_length false (left - 1) (m / 10) in
      let g : write at (digits false (suc (left - 1)) m) d ≡ write at (digits false w n) d₀ = rw k at h in
      ap (write at x) (one_stored d (at + (left - 1)) b (omega arith)) ∙ write_ahead d x (b ∷ []) at (at + (left - 1)) (omega arith) (omega arith) ∙ rw e g

  -- none is left
  pub columns_end : left ≤ 0 → d ≡ write at (digits false w n) d₀
  unfolding digits
  columns_end p =
      let k : left ≡ 0 = omega arith in
      sym (write_none d at) ∙ (rw k at h)

-- a column by its last digit and those in front of it
pub column_by : (d d₁ : List ℕ) (at w n b : ℕ) → 1 ≤ w → at + w ≤ length d → b ≡ 48 + n % 10 → d₁ ≡ write at (digits false (w - 1) (n / 10)) d
    → set d₁ (at + w - 1) b ≡ write at (column w n) d
unfolding digits column
column_by d d₁ at w n b p q e u =
    let k : suc (w - 1) ≡ w = omega arith in
    let g : set d₁ (at + w - 1) b ≡ write at (digits true (suc (w - 1)) n) d
    = one_behind d d₁ (digits false (w - 1) (n / 10)) at (at + w - 1) b (omega (arith, digits_length false (w - 1) (n / 10))) (omega arith) u ∙ rw e refl in
    g ∙ ap (λ (j : ℕ). write at (digits true j n) d) k

-- ---- lines
-- the line of a refusal has 12 bytes
pub refused_length : (k : ℕ) → 12 ≡ length (image_lines (refused k))
unfolding ListingSpec.image_lines ListingSpec.line AsciiSpec.ascii
refused_length k = rw (length-append, length-append, column_length 4 k)

-- its bytes, stored one after the other
pub refused_by : (d y d₂ : List ℕ) (k j : ℕ) → 12 ≤ length d → y ≡ 114 ∷ 101 ∷ 102 ∷ 117 ∷ 115 ∷ 101 ∷ 100 ∷ [] → j ≡ k → d₂ ≡ write 7 (column 4 j) (y ++ drop 7 d)
    → set d₂ 11 10 ≡ write 0 (image_lines (refused k)) d
unfolding ListingSpec.image_lines ListingSpec.line AsciiSpec.ascii write
refused_by d y d₂ k j p q told u =
    let x : List ℕ = ascii "refused" in
    let e : d₂ ≡ write 0 (x ++ column 4 k) d = written_behind d (y ++ drop 7 d) d₂ x (column 4 k) 0 7 (omega arith) refl (rw q refl) (u ∙ rw told refl) in
    one_behind d d₂ (x ++ column 4 k) 0 11 10 (rw (length-append, column_length 4 k)) (omega arith) e

-- the first line has 25 bytes
pub first_length : (w i a f : ℕ) → 25 ≡ length (first_line (numbers w i a f))
unfolding ListingSpec.first_line ListingSpec.line
first_length w i a f = rw (length-append, length-append, length-append, length-append, column_length 6 w, column_length 6 i, column_length 6 a, column_length 6 f)

-- its columns, stored one after the other
pub first_by : (d d₁ d₂ d₃ d₄ : List ℕ) (w i a f : ℕ) → 25 ≤ length d → d₁ ≡ write 0 (column 6 w) d → d₂ ≡ write 6 (column 6 i) d₁ → d₃ ≡ write 12 (column 6 a) d₂
    → d₄ ≡ write 18 (column 6 f) d₃
    → set d₄ 24 10 ≡ write 0 (first_line (numbers w i a f)) d
unfolding ListingSpec.first_line ListingSpec.line
first_by d d₁ d₂ d₃ d₄ w i a f room p₁ p₂ p₃ p₄ =
    let x₁ : List ℕ = column 6 w in
    let x₂ : List ℕ = x₁ ++ column 6 i in
    let x₃ : List ℕ = x₂ ++ column 6 a in
    let x₄ : List ℕ = x₃ ++ column 6 f in
    let l₁ : length x₁ ≡ 6 = column_length 6 w in
    let l₂ : length x₂ ≡ 12 = length-append x₁ (column 6 i) ∙ omega (arith, column_length 6 i) in
    let l₃ : length x₃ ≡ 18 = length-append x₂ (column 6 a) ∙ omega (arith, column_length 6 a) in
    let l₄ : length x₄ ≡ 24 = length-append x₃ (column 6 f) ∙ omega (arith, column_length 6 f) in
    let q₂ : d₂ ≡ write 0 x₂ d = written_behind d d₁ d₂ x₁ (column 6 i) 0 6 (omega arith) (omega arith) p₁ p₂ in
    let q₃ : d₃ ≡ write 0 x₃ d = written_behind d d₂ d₃ x₂ (column 6 a) 0 12 (omega arith) (omega arith) q₂ p₃ in
    let q₄ : d₄ ≡ write 0 x₄ d = written_behind d d₃ d₄ x₃ (column 6 f) 0 18 (omega arith) (omega arith) q₃ p₄ in
    one_behind d d₄ x₄ 0 24 10 (omega arith) (omega arith) q₄

-- the numbers of an entry's line have 28 bytes
numbers_length : (f : Fields) → length (entry_numbers f) ≡ 28
unfolding LinesSpec.entry_numbers
numbers_length f =
    rw (
      length-append,
      length-append,
      length-append,
      length-append,
      column_length 6 f.ordinal,
      column_length 6 f.block,
      column_length 6 f.blocks,
      column_length 4 f.attribute,
      column_length 6 f.text,
    )

-- stored one after the other
pub numbers_by : (d d₁ d₂ d₃ d₄ d₅ : List ℕ) (at : ℕ) (f : Fields) → at + 28 ≤ length d → d₁ ≡ write at (column 6 f.ordinal) d
    → d₂ ≡ write (at + 6) (column 6 f.block) d₁ → d₃ ≡ write (at + 12) (column 6 f.blocks) d₂
    → d₄ ≡ write (at + 18) (column 4 f.attribute) d₃ → d₅ ≡ write (at + 22) (column 6 f.text) d₄ → d₅ ≡ write at (entry_numbers f) d
unfolding LinesSpec.entry_numbers
numbers_by d d₁ d₂ d₃ d₄ d₅ at f fits p₁ p₂ p₃ p₄ p₅ =
    let x₁ : List ℕ = column 6 f.ordinal in
    let x₂ : List ℕ = x₁ ++ column 6 f.block in
    let x₃ : List ℕ = x₂ ++ column 6 f.blocks in
    let x₄ : List ℕ = x₃ ++ column 4 f.attribute in
    let l₁ : length x₁ ≡ 6 = column_length 6 f.ordinal in
    let l₂ : length x₂ ≡ 12 = length-append x₁ (column 6 f.block) ∙ omega (arith, column_length 6 f.block) in
    let l₃ : length x₃ ≡ 18 = length-append x₂ (column 6 f.blocks) ∙ omega (arith, column_length 6 f.blocks) in
    let l₄ : length x₄ ≡ 22 = length-append x₃ (column 4 f.attribute) ∙ omega (arith, column_length 4 f.attribute) in
    let q₂ : d₂ ≡ write at x₂ d = written_behind d d₁ d₂ x₁ (column 6 f.block) at (at + 6) (omega arith) (omega arith) p₁ p₂ in
    let q₃ : d₃ ≡ write at x₃ d = written_behind d d₂ d₃ x₂ (column 6 f.blocks) at (at + 12) (omega arith) (omega arith) q₂ p₃ in
    let q₄ : d₄ ≡ write at x₄ d = written_behind d d₃ d₄ x₃ (column 4 f.attribute) at (at + 18) (omega arith) (omega arith) q₃ p₄ in
    written_behind d d₄ d₅ x₄ (column 6 f.text) at (at + 22) (omega arith) (omega arith) q₄ p₅

-- an entry's line has 30 bytes and those of its headword
pub fields_length : (f : Fields) (h : List ℕ) → length (fields_line f h) ≡ 30 + length h
unfolding LinesSpec.fields_line ListingSpec.line
fields_length f h = rw (length-append, length-append, numbers_length f) (omega arith)

-- stored behind its numbers: a space, the headword and a line feed
pub fields_by : (d d₁ y : List ℕ) (at k : ℕ) (f : Fields) (h : List ℕ) → at + 30 + length h ≤ length d → k ≡ length h → d₁ ≡ write at (entry_numbers f) d → y ≡ h
    → set (put_mid (at + 29) k (set d₁ (at + 28) 32) y) (at + 29 + length h) 10 ≡ write at (fields_line f h) d
unfolding LinesSpec.fields_line ListingSpec.line
fields_by d d₁ y at k f h room long p q =
    let x₁ : List ℕ = entry_numbers f in
    let x₂ : List ℕ = x₁ ++ 32 ∷ [] in
    let x₃ : List ℕ = x₁ ++ 32 ∷ h in
    let l₁ : length x₁ ≡ 28 = numbers_length f in
    let l₂ : length x₂ ≡ 29 = length-append x₁ (32 ∷ []) ∙ omega arith in
    let l₃ : length x₃ ≡ 29 + length h = length-append x₁ (32 ∷ h) ∙ omega arith in
    let d₂ : List ℕ = set d₁ (at + 28) 32 in
    let d₃ : List ℕ = put_mid (at + 29) k d₂ y in
    let q₂ : d₂ ≡ write at x₂ d = one_behind d d₁ x₁ at (at + 28) 32 (omega arith) (omega arith) p in
    let r₃ : d₃ ≡ write (at + 29) h d₂ = part_stored d₂ h y (at + 29) k q long in
    let q₃ : d₃ ≡ write at x₃ d = written_behind d d₂ d₃ x₂ h at (at + 29) (omega arith) (omega arith) q₂ r₃ ∙ ap (λ (l : List ℕ). write at l d) (append_assoc x₁ (32 ∷ []) h) in
    one_behind d d₃ x₃ at (at + 29 + length h) 10 (omega arith) (omega arith) q₃
