-- What reading a part list shows, in the terms of the code.
use Prim.Native.Nat.{ℕ, suc, ◌+◌, ◌-◌, ◌<◌, ◌≤◌}
use mathlib.Core.Path.{◌≡◌, refl, sym, ap, ap₂, ◌∙◌}
use mathlib.Core.Bool.{Bool, true, false, not}
use mathlib.Core.List.{List, [], ◌∷◌}
use mathlib.Core.Option as Spec
use mathlib.Core.Option.{none, some}
use Rattle.std.specs.Prelude.{⊤, Option, Some, None, is_some, Result, Ok, Err}
use Rattle.std.proofs.lemmas.Option.{MatchOption-at_some}
use Rattle.std.specs.Bool.{then_some}
use native.Mathlib.Omega.{arith}
use lib.ListN.{length, get_or, take, drop, length-drop, drop_of_length-le}
use lib.Seq.{drop-cons, drop-drop, length-take-le}
use lib.Dec.{eqb}
use borrow.Author.Tests.{not-true, not-false}
use Rattle.spec.specs.Outcome.{refused, ok, accepted}
use Rattle.spec.specs.Bytes.{bytes_at, bytes_equal, split_zero}
use Rattle.spec.specs.PartList.{EntryPart, kind_takes, part_by, part_from, list_ends, second_from, parts_from, part_found, step_among, part_step}
use Rattle.spec.specs.Answers.{number_of, part_step_answer}
use Rattle.spec.specs.declared.Refusal.{Refusal}
use Rattle.spec.specs.declared.PartFound.{PartFound}
use Rattle.spec.proofs.PartLaws.{rest_at, length_bytes_at}
use Rattle.spec.proofs.PartListLaws.{
  ends_told,
  parts_one,
  parts_more,
  second_by,
  second_same,
  second_open,
  parts_none,
  second_none,
  step_at,
  step_past,
  step_end,
  step_nowhere,
  step_by,
  step_refused,
}
use Rattle.scans.specs.Scan.{zero_offset}
use Rattle.scans.proofs.Laws.{split_zero_some, split_zero_none}
use Rattle.partlist.specs.declared.Spans.{Spans}
use Rattle.partlist.specs.Spans.{part_in, end_part, EndInside, spans_parts, SpansInside}

-- ---- the end
-- whether one byte is the end
ends_one : (b : ℕ) → list_ends (b ∷ []) ≡ eqb b 0x80
unfolding list_ends bytes_equal
ends_one b = go (eqb b 0x80) refl
  where
    go : (t : Bool) → eqb b 0x80 ≡ t → list_ends (b ∷ []) ≡ eqb b 0x80
    go true e = rw (e, bytes_equal)
    go false e = rw (e, bytes_equal)

module _ (s : List ℕ) (at : ℕ) where
  -- the end is a list's last byte
  ends_length : list_ends (drop at s) ≡ true → length s ≡ at + 1
  ends_length h =
      let l : length (drop at s) ≡ 1 = ap length (ends_told (drop at s) h) in
      omega (arith, length-drop at s)

  -- another than the last byte is not the end
  pub ends_not_last : (length s ≡ at + 1 → ⊥) → false ≡ list_ends (drop at s)
  ends_not_last d = go (list_ends (drop at s)) refl
    where
      go : (t : Bool) → list_ends (drop at s) ≡ t → false ≡ list_ends (drop at s)
      go true e = absurd (d (ends_length e))
      go false e = sym e

  -- the last byte is, if it is 0x80
  pub ends_last : length s ≡ at + 1 → eqb (get_or s at 0) 0x80 ≡ list_ends (drop at s)
  ends_last e =
      let past_last : length s ≤ suc at = omega arith in
      let none_behind : drop (suc at) s ≡ [] = drop_of_length-le s past_last in
      sym (ap list_ends (drop-cons s at 0 (omega arith) ∙ ap (λ (l : List ℕ). get_or s at 0 ∷ l) none_behind) ∙ ends_one (get_or s at 0))

-- ---- a part
-- a part has its kind byte and its zero byte, and ends inside the list
pub end_there : (s : List ℕ) (at : ℕ) (r : Option ℕ) → EndInside s at r → (end : ℕ) → r ≡ Some end → (at + 2 ≤ end) × (end ≤ length s)
end_there s at r i end k = MatchOption-at_some ⊤ (λ x. (at + 2 ≤ x) × (x ≤ length s)) end k i

-- no byte is left
pub part_past : (s : List ℕ) (at : ℕ) → length s ≤ at → end_part s at None ≡ part_from (drop at s)
unfolding end_part part_from
part_past s at p = sym (ap part_from (drop_of_length-le s p))

-- a part by the first zero byte behind its kind byte
from_zero : (k : ℕ) (s : List ℕ) (o : Spec.Option (List ℕ × List ℕ)) → split_zero s ≡ o → part_from (k ∷ s) ≡ elim o [ none ↦ refused 16 | some p ↦ part_by k p.0 p.1 ]
unfolding part_from
from_zero k s o e = ap (λ (x : Spec.Option (List ℕ × List ℕ)). elim x [ none ↦ refused 16 | some p ↦ part_by k p.0 p.1 ]) e

-- the part that starts at `at`, whose zero byte is at z
module _ (s : List ℕ) (at z l : ℕ) (m : l ≡ length s) (p : at < l) (e : z ≡ at + 1 + zero_offset (bytes_at (at + 1) (l - (at + 1)) s)) where
  -- what stands behind its kind byte
  abbrev tail : List ℕ
  tail = drop (at + 1) s

  tail_there : bytes_at (at + 1) (l - (at + 1)) s ≡ tail
  tail_there = rest_at s (at + 1) (l - (at + 1)) (ap (λ (n : ℕ). n - (at + 1)) m)

  tail_length : length tail ≡ l - (at + 1)
  tail_length = omega (arith, length-drop (at + 1) s)

  offset : zero_offset tail ≡ z - (at + 1)
  offset =
      let q : z ≡ at + 1 + zero_offset tail = e ∙ ap (λ (x : List ℕ). at + 1 + zero_offset x) tail_there in
      omega arith

  there : drop at s ≡ get_or s at 0 ∷ tail
  there =
      let k : suc at ≡ at + 1 = omega arith in
      drop-cons s at 0 (omega arith) ∙ ap (λ (n : ℕ). get_or s at 0 ∷ drop n s) k

  -- no zero byte
  pub part_open : l ≤ z → end_part s at None ≡ part_from (drop at s)
  unfolding end_part
  part_open q = sym (ap part_from there ∙ from_zero (get_or s at 0) tail none (split_zero_none tail (omega (arith, tail_length, offset))))

  module _ (q : z < l) where
    parted : part_from (drop at s) ≡ part_by (get_or s at 0) (take (zero_offset tail) tail) (drop (suc (zero_offset tail)) tail)
    parted =
        ap part_from there
        ∙ from_zero (get_or s at 0) tail (some (take (zero_offset tail) tail, drop (suc (zero_offset tail)) tail)) (split_zero_some tail (omega (arith, tail_length, offset)))

    size : length (take (zero_offset tail) tail) ≡ z - (at + 1)
    size = length-take-le (zero_offset tail) tail (omega (arith, tail_length, offset)) ∙ offset

    module _ (k : ℕ) (kind : k ≡ get_or s at 0) (r : Bool) (f : r ≡ kind_takes k (z - (at + 1))) where
      taken : r ≡ kind_takes (get_or s at 0) (length (take (zero_offset tail) tail))
      taken = f ∙ ap₂ kind_takes kind (sym size)

      bytes_same : bytes_at (at + 1) (z + 1 - (at + 2)) s ≡ take (zero_offset tail) tail
      unfolding bytes_at
      bytes_same = ap (λ (n : ℕ). take n (drop (at + 1) s)) (let d : z + 1 - (at + 2) ≡ zero_offset (drop (at + 1) s) = omega (arith, offset) in d)

      rest_same : drop (z + 1) s ≡ drop (suc (zero_offset tail)) tail
      rest_same =
          let d : z + 1 ≡ at + 1 + suc (zero_offset (drop (at + 1) s)) = omega (arith, offset) in
          ap (λ (n : ℕ). drop n s) d ∙ sym (drop-drop (suc (zero_offset (drop (at + 1) s))) (at + 1) s)

      -- a part by its rules, or too long for its kind, or of no kind
      pub part_told : end_part s at (then_some r (z + 1)) ≡ part_from (drop at s)
      unfolding end_part part_by part_in
      part_told = go r refl
        where
          go : (t : Bool) → r ≡ t → end_part s at (then_some t (z + 1)) ≡ part_from (drop at s)
          go true g = ap₂ (λ (b u : List ℕ). ok (record { kind = get_or s at 0; bytes = b }, u)) bytes_same rest_same ∙ sym (parted ∙ rw (← taken, g))
          go false g = sym (parted ∙ rw (← taken, g))

-- ---- a list
-- what a part's end tells
module _ (s : List ℕ) (at : ℕ) (r : Option ℕ) (e : end_part s at r ≡ part_from (drop at s)) where
  end_broken : r ≡ None → part_from (drop at s) ≡ refused 16
  unfolding end_part
  end_broken k = sym e ∙ ap (end_part s at) k

  end_read : (end : ℕ) → r ≡ Some end → part_from (drop at s) ≡ ok (part_in s at end, drop end s)
  unfolding end_part
  end_read end k = sym e ∙ ap (end_part s at) k

-- behind the first part, which ends at second
module _ (s : List ℕ) (second : ℕ) (r : Option ℕ) (e : end_part s second r ≡ part_from (drop second s)) where
  -- no second part
  pub list_broken : r ≡ None → spans_parts s None ≡ second_from (part_in s 0 second) (drop second s)
  unfolding spans_parts
  list_broken k = sym (second_none (part_in s 0 second) (drop second s) (end_broken s second r e k))

  module _ (i : EndInside s second r) (end : ℕ) (k : r ≡ Some end) where
    inside : (second + 2 ≤ end) × (end ≤ length s)
    inside = end_there s second r i end k

    read : part_from (drop second s) ≡ ok (part_in s second end, drop end s)
    read = end_read s second r e end k

    -- it has the first one's kind
    pub list_twice : get_or s second 0 ≡ get_or s 0 0 → spans_parts s None ≡ second_from (part_in s 0 second) (drop second s)
    unfolding spans_parts part_in
    list_twice q = sym (second_same (drop second s) (part_in s second end, drop end s) read (part_in s 0 second) q)

    module _ (q : get_or s second 0 ≡ get_or s 0 0 → ⊥) (b : Bool) (f : b ≡ list_ends (drop end s)) where
      -- no end behind it
      pub list_open : not b ≡ true → spans_parts s None ≡ second_from (part_in s 0 second) (drop second s)
      unfolding spans_parts part_in
      list_open m = sym (second_open (drop second s) (part_in s second end, drop end s) read (part_in s 0 second) q (sym f ∙ not-true b m))

      -- a list of two parts
      pub list_two : not b ≡ false → spans_parts s (Some (Spans.Two second end)) ≡ second_from (part_in s 0 second) (drop second s)
      unfolding spans_parts part_in
      list_two m = sym (second_by (drop second s) (part_in s second end, drop end s) read (part_in s 0 second) q (sym f ∙ not-false b m))

      -- which stand inside it
      pub two_inside : 2 ≤ second → not b ≡ false → SpansInside s (Some (Spans.Two second end))
      two_inside j m =
          let n : length s ≡ end + 1 = ends_length s end (sym f ∙ not-false b m) in
          (j, inside.0, omega arith)

-- from the start
module _ (s : List ℕ) (r : Option ℕ) (e : end_part s 0 r ≡ part_from s) where
  -- no first part
  pub list_none : r ≡ None → spans_parts s None ≡ parts_from s
  unfolding spans_parts
  list_none k = sym (parts_none s (end_broken s 0 r e k))

  module _ (i : EndInside s 0 r) (end : ℕ) (k : r ≡ Some end) where
    -- it has its kind byte and its zero byte
    pub first_size : 2 ≤ end
    first_size = (end_there s 0 r i end k).0

    module _ (b : Bool) (f : b ≡ list_ends (drop end s)) where
      -- a list of one part
      pub list_one : b ≡ true → spans_parts s (Some (Spans.One end)) ≡ parts_from s
      unfolding spans_parts
      list_one t = sym (parts_one s (part_in s 0 end, drop end s) (end_read s 0 r e end k) (sym f ∙ t))

      -- which stands inside it
      pub one_inside : b ≡ true → SpansInside s (Some (Spans.One end))
      one_inside t =
          let n : length s ≡ end + 1 = ends_length s end (sym f ∙ t) in
          (first_size, omega arith)

      -- a list that goes on behind its first part
      pub list_more : b ≡ false → (x : Option Spans) → spans_parts s x ≡ second_from (part_in s 0 end) (drop end s) → spans_parts s x ≡ parts_from s
      list_more n x g = g ∙ sym (parts_more s (part_in s 0 end, drop end s) (end_read s 0 r e end k) (sym f ∙ n))

-- ---- whether it is a list
-- it is one where its parts were found
pub found_list : (s : List ℕ) (r : Option Spans) → spans_parts s r ≡ parts_from s → is_some r ≡ accepted (parts_from s)
unfolding spans_parts accepted
found_list s None e = ap accepted e
found_list s (Some (Spans.One end)) e = ap accepted e
found_list s (Some (Spans.Two second end)) e = ap accepted e

-- ---- the step
-- a part's length and its end
module _ (s : List ℕ) (at end : ℕ) (p : at + 2 ≤ end) (q : end ≤ length s) where
  part_length : length (part_in s at end).bytes ≡ end - (at + 2)
  unfolding part_in
  part_length = length_bytes_at s (at + 1) (end - (at + 2)) (omega arith)

  behind_part : at + (length (part_in s at end).bytes + 2) ≡ end
  behind_part = omega (arith, part_length)

  -- what the step tells of it
  pub step_tells : part_step_answer (Ok (Some (record { kind = get_or s at 0; place = at + 1; part_length = end - (at + 2); next = end }))) ≡ ok (some (part_found at (part_in s at end)))
  unfolding part_step_answer part_found part_in
  step_tells = ap₂ (λ (m k : ℕ). ok (some (record { kind = get_or s at 0; place = at + 1; part_length = m; next = k }))) (sym part_length) (sym behind_part)

  -- past it
  past : (ps : List EntryPart) (offset : ℕ) → (offset ≡ at → ⊥) → step_among at (part_in s at end ∷ ps) offset ≡ step_among end ps offset
  past ps offset n = step_past (part_in s at end) ps at offset n ∙ ap (λ (k : ℕ). step_among k ps offset) behind_part

-- the step at the first part, whatever follows it
pub step_first : (p : EntryPart) (ps : List EntryPart) (offset : ℕ) (a : Result (Option PartFound) Refusal) → part_step_answer a ≡ ok (some (part_found 0 p)) → offset ≡ 0
    → part_step_answer a ≡ step_among 0 (p ∷ ps) offset
step_first p ps offset a t z = t ∙ sym (step_at p ps 0 offset z)

-- in a list of one part
module _ (s : List ℕ) (end offset : ℕ) (p : 2 ≤ end) (q : end ≤ length s) (n : offset ≡ 0 → ⊥) where
  behind_one : step_among 0 (part_in s 0 end ∷ []) offset ≡ step_among end [] offset
  behind_one = past s 0 end (omega arith) q [] offset n

  -- at the end
  pub one_at_end : offset ≡ end → part_step_answer (Ok None) ≡ step_among 0 (part_in s 0 end ∷ []) offset
  unfolding part_step_answer number_of
  one_at_end e = sym (behind_one ∙ step_end end offset e)

  -- elsewhere
  pub one_elsewhere : (offset ≡ end → ⊥) → part_step_answer (Err Refusal.BadParts) ≡ step_among 0 (part_in s 0 end ∷ []) offset
  unfolding part_step_answer number_of
  one_elsewhere e = sym (behind_one ∙ step_nowhere end offset e)

-- in a list of two parts
module _ (s : List ℕ) (second end offset : ℕ) (p : 2 ≤ second) (q : second + 2 ≤ end) (r : end ≤ length s) (n : offset ≡ 0 → ⊥) where
  behind_first : step_among 0 (part_in s 0 second ∷ part_in s second end ∷ []) offset ≡ step_among second (part_in s second end ∷ []) offset
  behind_first = past s 0 second (omega arith) (omega arith) (part_in s second end ∷ []) offset n

  -- at the second
  pub two_at_second : offset ≡ second → (a : Result (Option PartFound) Refusal) → part_step_answer a ≡ ok (some (part_found second (part_in s second end)))
      → part_step_answer a ≡ step_among 0 (part_in s 0 second ∷ part_in s second end ∷ []) offset
  two_at_second e a t = t ∙ sym (behind_first ∙ step_at (part_in s second end) [] second offset e)

  module _ (m : offset ≡ second → ⊥) where
    behind_two : step_among 0 (part_in s 0 second ∷ part_in s second end ∷ []) offset ≡ step_among end [] offset
    behind_two = behind_first ∙ past s second end q r [] offset m

    -- at the end
    pub two_at_end : offset ≡ end → part_step_answer (Ok None) ≡ step_among 0 (part_in s 0 second ∷ part_in s second end ∷ []) offset
    unfolding part_step_answer number_of
    two_at_end e = sym (behind_two ∙ step_end end offset e)

    -- elsewhere
    pub two_elsewhere : (offset ≡ end → ⊥) → part_step_answer (Err Refusal.BadParts) ≡ step_among 0 (part_in s 0 second ∷ part_in s second end ∷ []) offset
    unfolding part_step_answer number_of
    two_elsewhere e = sym (behind_two ∙ step_nowhere end offset e)

-- the step in a slice, by the parts that were found in it
module _ (s : List ℕ) (offset : ℕ) (r : Option Spans) (e : spans_parts s r ≡ parts_from s) where
  -- it is no list
  pub step_no_list : r ≡ None → part_step_answer (Err Refusal.BadParts) ≡ part_step s offset
  unfolding part_step_answer number_of spans_parts
  step_no_list k = sym (step_refused s offset (sym e ∙ ap (spans_parts s) k))

  module _ (v : Spans) (k : r ≡ Some v) where
    -- it has one part
    pub step_in_one : (end : ℕ) → v ≡ Spans.One end → (a : Result (Option PartFound) Refusal) → part_step_answer a ≡ step_among 0 (part_in s 0 end ∷ []) offset
        → part_step_answer a ≡ part_step s offset
    unfolding spans_parts
    step_in_one end h a t = t ∙ sym (step_by s (part_in s 0 end ∷ []) offset (sym e ∙ ap (spans_parts s) (k ∙ ap Some h)))

    -- it has two
    pub step_in_two : (second end : ℕ) → v ≡ Spans.Two second end → (a : Result (Option PartFound) Refusal)
        → part_step_answer a ≡ step_among 0 (part_in s 0 second ∷ part_in s second end ∷ []) offset → part_step_answer a ≡ part_step s offset
    unfolding spans_parts
    step_in_two second end h a t = t ∙ sym (step_by s (part_in s 0 second ∷ part_in s second end ∷ []) offset (sym e ∙ ap (spans_parts s) (k ∙ ap Some h)))
