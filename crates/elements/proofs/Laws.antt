-- Laws of elements that are written and renewed: for the crates above, and what the turns of the loops show.
use Prim.Native.Nat.{ℕ, zero, suc, ◌+◌, ◌-◌, ◌<◌, ◌≤◌}
use mathlib.Core.Path.{◌≡◌, refl, sym, ap, ap₂, ◌∙◌}
use mathlib.Core.List.{List, [], ◌∷◌, ◌++◌, map, append_assoc}
use native.Mathlib.Omega.{arith}
use lib.ListN.{length, get_or, take, drop, length-append, length-drop}
use lib.Seq.{take_at, length-take-le}
use borrow.Author.Tests.{lt-ltb, le-ltb}
use Rattle.spec.specs.Bytes.{from_little_endian, to_little_endian, write, bytes_at}
use Rattle.spec.specs.Index.{Element, element_bytes, elements_bytes}
use Rattle.spec.proofs.BytesLaws.{length_to_little_endian, split_zero_told, small_part, to_from_little_endian}
use Rattle.spec.proofs.PartLaws.{bytes_at_split, length_bytes_at, rest_at}
use Rattle.scans.specs.Scan.{zero_offset}
use Rattle.scans.proofs.Laws.{split_zero_some}
use Rattle.spec.proofs.WriteLaws.{write_none, written_behind}
use Rattle.index.specs.Elements.{element_end, element_headword, element_at, elements_at, elements_end, Inside}
use Rattle.index.proofs.Laws.{element_end_past, element_headword_length, inside_at}
use Rattle.elements.specs.Renewed.{number_after, renewed}

-- ---- renewed numbers
-- a run that started among the first g blocks
pub number_moved : (numbers : List ℕ) (g b : ℕ) → b < g → number_after numbers g b ≡ get_or numbers b 0 - g
unfolding number_after
number_moved numbers g b h = rw (lt-ltb b g h, number_after)

-- one that did not
pub number_kept : (numbers : List ℕ) (g b : ℕ) → g ≤ b → number_after numbers g b ≡ b - g
unfolding number_after
number_kept numbers g b h = rw (le-ltb b g h, number_after)

-- no block renews nothing
pub renewed_none : (numbers : List ℕ) (e : Element) → renewed numbers 0 e ≡ e
unfolding renewed
renewed_none numbers e =
    let p : number_after numbers 0 e.block ≡ e.block = number_kept numbers 0 e.block (omega arith) ∙ omega arith in
    rw p

-- of all elements
pub renewed_none_all : (numbers : List ℕ) (es : List Element) → map (renewed numbers 0) es ≡ es
renewed_none_all numbers [] = refl
renewed_none_all numbers (e ∷ es) = ap₂ (λ (a : Element) (l : List Element). a ∷ l) (renewed_none numbers e) (renewed_none_all numbers es)

-- ---- block numbers of any width
module _ (w : ℕ) where
  -- ---- the lengths of elements
  -- an element takes its number and a byte beside its headword
  pub element_size : (e : Element) → length (element_bytes w e) ≡ w + 1 + length e.headword
  unfolding element_bytes
  element_size e =
      omega (arith, length-append (to_little_endian w e.block ++ e.headword) (0 ∷ []), length-append (to_little_endian w e.block) e.headword, length_to_little_endian w e.block)

  -- an element and those behind it
  pub elements_size : (e : Element) (es : List Element) → length (elements_bytes w (e ∷ es)) ≡ w + 1 + length e.headword + length (elements_bytes w es)
  unfolding elements_bytes
  elements_size e es = omega (arith, length-append (element_bytes w e) (elements_bytes w es), element_size e)

  -- one that stands in an index ends behind its zero byte
  element_at_size : (index : List ℕ) (at : ℕ) → at + w ≤ length index → at + length (element_bytes w (element_at w index at)) ≡ element_end w index at + 1
  unfolding element_at
  element_at_size index at h = omega (arith, element_size (element_at w index at), element_headword_length w index at h, element_end_past w index at)

  -- elements end behind as many bytes as they take
  pub elements_length : (index : List ℕ) (at n : ℕ) → Inside w index at n → elements_end w index at n ≡ at + length (elements_bytes w (elements_at w index at n))
  unfolding elements_end elements_at elements_bytes
  elements_length index at zero h = omega arith
  elements_length index at (suc n) h =
      omega (
        arith,
        elements_length index (element_end w index at + 1) n h.2,
        element_at_size index at h.0,
        length-append (element_bytes w (element_at w index at)) (elements_bytes w (elements_at w index (element_end w index at + 1) n)),
      )

  -- renewed elements take as many bytes
  pub renewed_length : (numbers : List ℕ) (g : ℕ) (es : List Element) → length (elements_bytes w (map (renewed numbers g) es)) ≡ length (elements_bytes w es)
  unfolding renewed
  renewed_length numbers g [] = refl
  renewed_length numbers g (e ∷ es) = omega (arith, elements_size (renewed numbers g e) (map (renewed numbers g) es), elements_size e es, renewed_length numbers g es)

  -- ---- elements in two parts
  -- the first m, and n behind them
  pub elements_split : (index : List ℕ) (at m n : ℕ) → elements_at w index at (m + n) ≡ elements_at w index at m ++ elements_at w index (elements_end w index at m) n
  unfolding elements_end elements_at
  elements_split index at zero n =
      let e : 0 + n ≡ n = omega arith in
      ap (elements_at w index at) e
  elements_split index at (suc m) n =
      let e : suc m + n ≡ suc (m + n) = omega arith in
      ap (elements_at w index at) e ∙ ap (λ (l : List Element). element_at w index at ∷ l) (elements_split index (element_end w index at + 1) m n)

  -- both stand inside the index
  pub inside_split : (index : List ℕ) (at m n : ℕ) → Inside w index at (m + n) → Inside w index at m × Inside w index (elements_end w index at m) n
  unfolding elements_end
  inside_split index at zero n h =
      let e : 0 + n ≡ n = omega arith in
      (inside_at w index at n (rw e at h), rw e at h)
  inside_split index at (suc m) n h =
      let e : suc m + n ≡ suc (m + n) = omega arith in
      let i : Inside w index at (suc (m + n)) = rw e at h in
      let r = inside_split index (element_end w index at + 1) m n i.2 in
      ((i.0, i.1, r.0), r.1)

  -- they end where the second part ends
  pub ends_split : (index : List ℕ) (at m n : ℕ) → elements_end w index at (m + n) ≡ elements_end w index (elements_end w index at m) n
  unfolding elements_end
  ends_split index at zero n =
      let e : 0 + n ≡ n = omega arith in
      ap (elements_end w index at) e
  ends_split index at (suc m) n =
      let e : suc m + n ≡ suc (m + n) = omega arith in
      ap (elements_end w index at) e ∙ ends_split index (element_end w index at + 1) m n

  -- ---- put_element
  -- the number, the headword and the zero byte stored one behind the other are the element
  pub element_put : (d d₁ d₂ d₃ h : List ℕ) (at number : ℕ) → d₁ ≡ write at (to_little_endian w number) d → d₂ ≡ write (at + w) (bytes_at 0 (length h) h) d₁
      → d₃ ≡ write (at + w + length h) (0 ∷ []) d₂
      → at + w + 1 + length h ≤ length d → d₃ ≡ write at (element_bytes w (record { block = number; headword = h })) d
  unfolding element_bytes
  element_put d d₁ d₂ d₃ h at number e₁ e₂ e₃ fits =
      let x : List ℕ = to_little_endian w number in
      let v : length x ≡ w = length_to_little_endian w number in
      let a : bytes_at 0 (length h) h ≡ h = rest_at h 0 (length h) (omega arith) in
      let m : length (x ++ h) ≡ length x + length h = length-append x h in
      let s : d₂ ≡ write at (x ++ h) d = written_behind d d₁ d₂ x h at (at + w) (omega arith) (omega arith) e₁ (rw a at e₂) in
      written_behind d d₂ d₃ (x ++ h) (0 ∷ []) at (at + w + length h) (omega arith) (omega arith) s e₃

  -- ---- copy_elements: what is left, written where the code stands, is the whole written
  -- elements with their numbers renewed, as they are written
  abbrev pub renewed_bytes : List ℕ → ℕ → List Element → List ℕ
  renewed_bytes numbers g es = elements_bytes w (map (renewed numbers g) es)

  -- the room that elements take
  abbrev pub room : List Element → ℕ
  room es = length (elements_bytes w es)

  module _ (es ds : List Element) (e : Element) (next : es ≡ e ∷ ds) (out total : ℕ) (ends : out + room es ≡ total) where
    -- the room of the next element and of those behind it
    room_here : room es ≡ w + 1 + length e.headword + room ds
    room_here = ap room next ∙ elements_size e ds

    -- the next element fits
    pub here_fits : (d : List ℕ) → total ≤ length d → out + w + 1 + length e.headword ≤ length d
    here_fits d h = omega (arith, room_here)

    -- those behind it end as all do
    pub room_turn : (out₁ : ℕ) → out₁ ≡ out + w + 1 + length e.headword → out₁ + room ds ≡ total
    room_turn out₁ q = omega (arith, room_here)

    -- those behind it, written behind it
    pub copy_turn : (numbers d d₁ r : List ℕ) (g out₁ b : ℕ) → write out (renewed_bytes numbers g es) d ≡ r → b ≡ number_after numbers g e.block
        → d₁ ≡ write out (element_bytes w (record { block = b; headword = e.headword })) d → out₁ ≡ out + w + 1 + length e.headword → total ≤ length d
        → write out₁ (renewed_bytes numbers g ds) d₁ ≡ r
    unfolding elements_bytes renewed
    copy_turn numbers d d₁ r g out₁ b inv number put stands fits =
        let x : List ℕ = element_bytes w (renewed numbers g e) in
        let y : List ℕ = renewed_bytes numbers g ds in
        let m : length x ≡ w + 1 + length e.headword = element_size (renewed numbers g e) in
        let s : d₁ ≡ write out x d = put ∙ rw number in
        written_behind d d₁ _ x y out out₁ (omega (arith, here_fits d fits)) (omega arith) s refl ∙ rw next at inv

  -- at the end nothing is left
  module _ (es : List Element) (none : es ≡ []) (out : ℕ) where
    -- the code stands where all end
    pub room_end : (total : ℕ) → out + room es ≡ total → out ≡ total
    unfolding elements_bytes
    room_end total ends =
        let e : out + 0 ≡ total = rw none at ends in
        omega arith

    -- what stands there now is the whole written
    pub copy_end : (numbers d r : List ℕ) (g : ℕ) → write out (renewed_bytes numbers g es) d ≡ r → d ≡ r
    unfolding elements_bytes
    copy_end numbers d r g inv = sym (write_none d out) ∙ rw none at inv

  -- ---- elements as they are
  -- the headword of an element and its zero byte
  headword_stands : (index : List ℕ) (at : ℕ) → element_end w index at < length index → bytes_at (at + w) (element_end w index at + 1 - (at + w)) index ≡ element_headword w index at ++ 0 ∷ []
  unfolding element_end element_headword bytes_at
  headword_stands index at h =
      let l : List ℕ = drop (at + w) index in
      let z : ℕ = zero_offset l in
      let n : at + w + z - (at + w) ≡ z = omega arith in
      let m : at + w + z + 1 - (at + w) ≡ suc z = omega arith in
      let s : l ≡ take z l ++ 0 ∷ drop (suc z) l = split_zero_told l (take z l, drop (suc z) l) (split_zero_some l (omega (arith, length-drop (at + w) index))) in
      let k : length (take z l ++ 0 ∷ []) ≡ suc z = omega (arith, length-append (take z l) (0 ∷ []), length-take-le z l (omega (arith, length-drop (at + w) index))) in
      rw (m, n) (ap (take (suc z)) (s ∙ sym (append_assoc (take z l) (0 ∷ []) (drop (suc z) l))) ∙ take_at (take z l ++ 0 ∷ []) (drop (suc z) l) (suc z) k)

  -- elements end behind their start
  ends_behind : (index : List ℕ) (at n : ℕ) → at ≤ elements_end w index at n
  unfolding elements_end
  ends_behind index at zero = omega arith
  ends_behind index at (suc n) = omega (arith, element_end_past w index at, ends_behind index (element_end w index at + 1) n)

  -- an element's bytes stand in the index
  element_stands : (index : List ℕ) (at : ℕ) → ((k : ℕ) → get_or index k 0 < 256) → at + w ≤ length index → element_end w index at < length index
      → bytes_at at (element_end w index at + 1 - at) index ≡ element_bytes w (element_at w index at)
  unfolding element_bytes element_at
  element_stands index at small p h =
      let n : element_end w index at + 1 - at ≡ w + (element_end w index at + 1 - (at + w)) = omega (arith, element_end_past w index at) in
      let k : length (bytes_at at w index) ≡ w = length_bytes_at index at w p in
      let e : to_little_endian w (from_little_endian (bytes_at at w index)) ≡ bytes_at at w index
      = ap (λ (v : ℕ). to_little_endian v (from_little_endian (bytes_at at w index))) (sym k)
      ∙ to_from_little_endian (bytes_at at w index) (small_part index small w at) in
      ap (λ (q : ℕ). bytes_at at q index) n
      ∙ bytes_at_split index at w (element_end w index at + 1 - (at + w))
      ∙ ap₂ (λ (x y : List ℕ). x ++ y) (sym e) (headword_stands index at h)
      ∙ sym (append_assoc (to_little_endian w (from_little_endian (bytes_at at w index))) (element_headword w index at) (0 ∷ []))

  -- all of them do, one behind the other
  pub elements_stand : (index : List ℕ) (at n : ℕ) → ((k : ℕ) → get_or index k 0 < 256) → Inside w index at n
      → bytes_at at (elements_end w index at n - at) index ≡ elements_bytes w (elements_at w index at n)
  unfolding elements_end elements_at elements_bytes bytes_at
  elements_stand index at zero small i = let e : at - at ≡ 0 = omega arith in rw e
  elements_stand index at (suc n) small (p, h, i) =
      let e : ℕ = element_end w index at + 1 in
      let l : e ≤ elements_end w index e n = ends_behind index e n in
      let m : elements_end w index e n - at ≡ (e - at) + (elements_end w index e n - e) = omega (arith, element_end_past w index at) in
      let q : at + (e - at) ≡ e = omega (arith, element_end_past w index at) in
      ap (λ (k : ℕ). bytes_at at k index) m
      ∙ bytes_at_split index at (e - at) (elements_end w index e n - e)
      ∙ ap₂ (λ (x y : List ℕ). x ++ y) (element_stands index at small p h) (ap (λ (k : ℕ). bytes_at k (elements_end w index e n - e) index) q ∙ elements_stand index e n small i)
