-- The part list of an entry: its bytes, how it is read, and the step through it. Document 02, F-5.
use Rattle.std.specs.Prelude.{ℕ, ◌+◌, Bool, true, false, not, ◌&&◌, ◌||◌, List, [], ◌∷◌, ◌++◌, length, leb, eqb}
use Rattle.std.proofs.Math.Option.{Option, none, some}
use Rattle.spec.specs.Outcome.{Outcome, refused, ok, ◌>>=◌, ◌>>◌, refuse◌when◌}
use Rattle.spec.specs.Bytes.{bytes_equal, split_zero}

-- a part as document 02 has it, by its kind and its bytes: "A part is an element of the entry like its text" (the parts of a cut are `CutForm.IsPart`)
pub record EntryPart : Type 0 where
  pub kind : ℕ
  pub bytes : List ℕ

-- "a kind byte (0x01 example, up to 20,000 bytes; 0x02 pronunciation, up to 1,000)"
unfoldable pub kind_takes : ℕ → ℕ → Bool
kind_takes k n = (eqb k 0x01 && leb n 20_000) || (eqb k 0x02 && leb n 1_000)

-- "a kind byte …, bytes without zero, a zero"
unfoldable pub part_bytes : EntryPart → List ℕ
part_bytes p = p.kind ∷ p.bytes ++ 0 ∷ []

-- parts one behind the other
unfoldable pub parts_bytes : List EntryPart → List ℕ
parts_bytes [] = []
parts_bytes (p ∷ ps) = part_bytes p ++ parts_bytes ps

-- "0x80 ends the list and the field"
unfoldable pub list_bytes : List EntryPart → List ℕ
list_bytes ps = parts_bytes ps ++ 0x80 ∷ []

-- a part of that kind with those bytes, if its kind takes so many, and what stands behind it
unfoldable pub part_by : ℕ → List ℕ → List ℕ → Outcome (EntryPart × List ℕ)
part_by k b rest = do
  refuse 16 when not (kind_takes k (length b))
  ok (record { kind = k; bytes = b }, rest)

-- the part at the front of bytes, and the bytes behind it: "a kind byte …, bytes without zero, a zero"
unfoldable pub part_from : List ℕ → Outcome (EntryPart × List ℕ)
part_from [] = refused 16
part_from (k ∷ s) = elim (split_zero s) [ none ↦ refused 16 | some p ↦ part_by k p.0 p.1 ]

-- "0x80 ends the list and the field"
unfoldable pub list_ends : List ℕ → Bool
list_ends s = bytes_equal s (0x80 ∷ [])

-- whether two parts break "each kind at most once"
unfoldable pub same_kind : EntryPart → EntryPart → Bool
same_kind p q = eqb q.kind p.kind

-- a list's second part and its end, behind the part p
unfoldable pub second_from : EntryPart → List ℕ → Outcome (List EntryPart)
second_from p s = do
  q ← part_from s
  refuse 16 when same_kind p q.0
  refuse 16 when not (list_ends q.1)
  ok (p ∷ q.0 ∷ [])

-- the parts of a list that is all of s: "A list has one or two parts, …, in either order"
unfoldable pub parts_from : List ℕ → Outcome (List EntryPart)
parts_from s = do
  p ← part_from s
  elim (list_ends p.1) [ true ↦ ok (p.0 ∷ []) | false ↦ second_from p.0 p.1 ]

-- what a step finds: "the kind of the part there, place in the list and length of its bytes, and the next offset"
pub record PartAt : Type 0 where
  pub kind : ℕ
  pub place : ℕ
  pub part_length : ℕ
  pub next : ℕ

-- a part that starts at an offset, for the step: its bytes stand behind its kind byte, and the next part behind its zero
unfoldable pub part_found : ℕ → EntryPart → PartAt
part_found at p = record { kind = p.kind; place = at + 1; part_length = length p.bytes; next = at + (length p.bytes + 2) }

-- the step among parts of which the first starts at the offset at: the part there, or the end; "an offset where neither a part nor the end begins, is 16"
unfoldable pub step_among : ℕ → List EntryPart → ℕ → Outcome (Option PartAt)
step_among at [] offset = do
  refuse 16 when not (eqb offset at)
  ok none
step_among at (p ∷ ps) offset = elim (eqb offset at) [ true ↦ ok (some (part_found at p)) | false ↦ step_among (at + (length p.bytes + 2)) ps offset ]

-- the step call: "from a part list and an offset …, or the end; a slice that is not exactly one list by these rules, …, is 16"
unfoldable pub part_step : List ℕ → ℕ → Outcome (Option PartAt)
part_step s offset = do
  ps ← parts_from s
  step_among 0 ps offset

-- names all definitions of this module: who unfolds it unfolds them
unfoldable pub open_part_list : Unit {0}
unfolding kind_takes part_bytes parts_bytes list_bytes part_by part_from list_ends same_kind second_from parts_from part_found step_among part_step
open_part_list = tt
