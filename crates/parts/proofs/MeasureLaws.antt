-- The numbers of the parts of a cut: how many, the bytes of their elements, and their blocks.
use Prim.Native.Nat.{ℕ, zero, suc, ◌+◌, ◌*◌, ◌<◌, ◌≤◌}
use mathlib.Core.Path.{◌≡◌, refl, ap, ◌∙◌}
use mathlib.Core.Bool.{true}
use mathlib.Core.List.{List, [], ◌∷◌, map}
use native.Mathlib.Omega.{arith}
use lib.ListN.{length, take, length-append}
use Rattle.spec.specs.Bytes.{write, no_zero, blocks_for}
use Rattle.spec.specs.Entry.{Entry, entry_bytes}
use Rattle.spec.specs.Run.{entries_bytes}
use Rattle.spec.specs.Index.{element_bytes, elements_bytes}
use Rattle.spec.specs.Blocks.{run_blocks}
use Rattle.spec.specs.Place.{cut, first_headword, new_run, element_of}
use Rattle.spec.specs.Lists.{All}
use Rattle.spec.proofs.BytesLaws.{length_to_little_endian}
use Rattle.spec.proofs.IndexLaws.{headword_no_zero}
use Rattle.spec.proofs.RunLaws.{head_bounds}
use Rattle.encoder.specs.Limits.{longest_entry, longest_run}
use Rattle.parts.specs.Part.{part_of, past_part, Measured}
use Rattle.parts.specs.Room.{largest_limit}
use Rattle.parts.proofs.PartLaws.{Short, front_stored, part_first, part_size, part_short, past_all, past_fewer, cut_parts, none_left, some_left}

-- the parts of entries
unfoldable pub parts_in : ℕ → List Entry → ℕ
parts_in limit es = length (map new_run (cut limit es))

-- the bytes of their elements
unfoldable pub bytes_in : ℕ → ℕ → List Entry → ℕ
bytes_in width limit es = length (elements_bytes width (map element_of (map new_run (cut limit es))))

-- their blocks
unfoldable pub blocks_in : ℕ → List Entry → ℕ
blocks_in limit es = run_blocks (map new_run (cut limit es))

-- without entries there are none
pub none_in : (width limit : ℕ) → (parts_in limit [] ≡ 0) × (bytes_in width limit [] ≡ 0) × (blocks_in limit [] ≡ 0)
unfolding parts_in bytes_in blocks_in cut elements_bytes run_blocks
none_in width limit = (refl, refl, refl)

-- the first part, and the others
module _ (limit : ℕ) (e : Entry) (es : List Entry) where
  parts_cons : parts_in limit (e ∷ es) ≡ 1 + parts_in limit (past_part limit 0 [] (e ∷ es))
  unfolding parts_in
  parts_cons = rw (cut_parts limit e es) (omega arith)

  element_long : (width : ℕ) → length (element_bytes width (element_of (new_run (part_of limit 0 [] (e ∷ es))))) ≡ width + 1 + length e.headword
  unfolding element_bytes element_of new_run first_headword
  element_long width = rw (part_first limit [] e es) (simp (length-append, length_to_little_endian) (omega arith))

  bytes_cons : (width : ℕ) → bytes_in width limit (e ∷ es) ≡ width + 1 + length e.headword + bytes_in width limit (past_part limit 0 [] (e ∷ es))
  unfolding bytes_in elements_bytes
  bytes_cons width = rw (cut_parts limit e es, length-append) (omega (arith, element_long width))

  blocks_cons : blocks_in limit (e ∷ es) ≡ blocks_for (2 + length (entries_bytes [] (part_of limit 0 [] (e ∷ es))) + 2) + blocks_in limit (past_part limit 0 [] (e ∷ es))
  unfolding blocks_in run_blocks new_run
  blocks_cons = rw (cut_parts limit e es) (rw (part_size (part_of limit 0 [] (e ∷ es))) refl)

blocks_most : (used : ℕ) → used ≤ longest_entry → blocks_for (2 + used + 2) ≤ longest_run
unfolding blocks_for
blocks_most used h = omega arith

module _ (width limit : ℕ) (narrow : width ≤ 4) (small : limit ≤ largest_limit) where
  bounded : (n : ℕ) (es : List Entry) → length es ≤ n → All Short es → (parts_in limit es ≤ length es) × (bytes_in width limit es ≤ 253 * length es) × (blocks_in limit es ≤ longest_run * length es)
  bounded zero [] h s = (omega (arith, (none_in width limit).0), omega (arith, (none_in width limit).1), omega (arith, (none_in width limit).2))
  bounded zero (e ∷ es) h s = absurd (omega arith)
  bounded (suc n) [] h s = (omega (arith, (none_in width limit).0), omega (arith, (none_in width limit).1), omega (arith, (none_in width limit).2))
  bounded (suc n) (e ∷ es) h s =
      let Q : List Entry = past_part limit 0 [] (e ∷ es) in
      let l : length Q < suc (length es) = past_fewer limit [] e es in
      let (a, b, c) = bounded n Q (omega arith) (past_all Short limit 0 [] (e ∷ es) s) in (
        omega (arith, parts_cons limit e es),
        omega (arith, bytes_cons limit e es width, head_bounds e.headword s.0.0),
        omega (arith, blocks_cons limit e es, blocks_most _ (part_short limit (e ∷ es) small s)),
      )

  -- no number is more than so many times the entries
  module _ (es : List Entry) (s : All Short es) where
    -- one part for each entry at most
    pub parts_few : parts_in limit es ≤ length es
    parts_few = (bounded (length es) es (omega arith) s).0

    -- an element takes 253 bytes at most
    pub bytes_few : bytes_in width limit es ≤ 253 * length es
    bytes_few = (bounded (length es) es (omega arith) s).1

    -- a part takes no more blocks than the longest run
    pub blocks_few : blocks_in limit es ≤ longest_run * length es
    blocks_few = (bounded (length es) es (omega arith) s).2

-- what was counted, and what is still to come
pub record Counting (width limit : ℕ) (es₀ es : List Entry) (parts bytes blocks : ℕ) : Type 0 where
  pub parts_all : parts + parts_in limit es ≡ parts_in limit es₀
  pub bytes_all : bytes + bytes_in width limit es ≡ bytes_in width limit es₀
  pub blocks_all : blocks + blocks_in limit es ≡ blocks_in limit es₀

-- nothing is counted at first
pub counting_start : (width limit : ℕ) (es : List Entry) → Counting width limit es es 0 0 0
counting_start width limit es = record { parts_all = omega arith; bytes_all = omega arith; blocks_all = omega arith }

module _ (width limit : ℕ) (es₀ es : List Entry) (parts bytes blocks used : ℕ) (counting : Counting width limit es₀ es parts bytes blocks)
    (long : used ≡ length (entries_bytes [] (part_of limit 0 [] es))) where
  -- a part of no bytes: all are counted
  pub counted : used ≡ 0 → Measured width (map new_run (cut limit es₀)) parts bytes blocks
  unfolding parts_in bytes_in blocks_in
  counted z =
      let e : es ≡ [] = none_left limit es used long z in
      let k : Counting width limit es₀ [] parts bytes blocks = rw e at counting in
      (omega (arith, k.parts_all, (none_in width limit).0), omega (arith, k.bytes_all, (none_in width limit).1), omega (arith, k.blocks_all, (none_in width limit).2))

  module _ (some : used ≡ 0 → ⊥) (Q : List Entry) (behind : Q ≡ past_part limit 0 [] es) where
    -- one part more
    pub parts_more : parts + 1 + parts_in limit Q ≡ parts_in limit es₀
    parts_more =
        let (e, ds, p) = some_left limit es used long some in
        let k : parts + parts_in limit (e ∷ ds) ≡ parts_in limit es₀ = rw p at counting.parts_all in
        rw (behind, p) (omega (arith, parts_cons limit e ds))

    -- its blocks
    pub blocks_more : (size : ℕ) → size ≡ blocks_for (2 + used + 2) → blocks + size + blocks_in limit Q ≡ blocks_in limit es₀
    blocks_more size q =
        let (e, ds, p) = some_left limit es used long some in
        let k : blocks + blocks_in limit (e ∷ ds) ≡ blocks_in limit es₀ = rw p at counting.blocks_all in
        let m : size ≡ blocks_for (2 + length (entries_bytes [] (part_of limit 0 [] (e ∷ ds))) + 2) = q ∙ ap (λ (x : ℕ). blocks_for (2 + x + 2)) (rw p at long) in
        rw (behind, p) (omega (arith, blocks_cons limit e ds))

    -- its element's bytes
    pub bytes_more : (part part' : List ℕ) (r : ℕ) → All Short es → part' ≡ write 0 (entries_bytes [] (part_of limit 0 [] es)) part
        → ((e : Entry) (ds : List Entry) → take used part' ≡ entries_bytes [] (e ∷ ds) → no_zero e.headword ≡ true → r ≡ length e.headword)
        → bytes + (width + 1 + r) + bytes_in width limit Q ≡ bytes_in width limit es₀
    bytes_more part part' r s w h =
        let (e, ds, p) = some_left limit es used long some in
        let k : bytes + bytes_in width limit (e ∷ ds) ≡ bytes_in width limit es₀ = rw p at counting.bytes_all in
        let X : List ℕ = entries_bytes [] (part_of limit 0 [] es) in
        let a : take used part' ≡ X = front_stored X part part' used w long in
        let b : X ≡ entries_bytes [] (e ∷ part_of limit (length (entry_bytes [] e)) e.headword ds)
        = ap (λ (xs : List Entry). entries_bytes [] (part_of limit 0 [] xs)) p ∙ ap (entries_bytes []) (part_first limit [] e ds) in
        let ok : All Short (e ∷ ds) = rw p at s in
        let q : r ≡ length e.headword = h e (part_of limit (length (entry_bytes [] e)) e.headword ds) (a ∙ b) (headword_no_zero e.headword ok.0.0) in
        rw (behind, p) (omega (arith, bytes_cons limit e ds width))
