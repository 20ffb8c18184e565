-- The parts of a list by where they stand in it.
use Rattle.std.specs.Prelude.{ℕ, Option, Some, None, IfSome, ◌+◌, ◌-◌, ◌<◌, ◌≤◌, List, [], ◌∷◌, length, get_or, drop}
use Rattle.spec.specs.Outcome.{Outcome, refused, ok}
use Rattle.spec.specs.Bytes.{bytes_at}
use Rattle.spec.specs.PartList.{EntryPart}
use Rattle.partlist.specs.declared.Spans.{Spans}

-- the part from `at` up to `end`: its kind byte first, its zero byte last
unfoldable pub part_in : List ℕ → ℕ → ℕ → EntryPart
part_in s at end = record { kind = get_or s at 0; bytes = bytes_at (at + 1) (end - (at + 2)) s }

-- what reading a part at `at` gives, by where it ends
unfoldable pub end_part : List ℕ → ℕ → Option ℕ → Outcome (EntryPart × List ℕ)
end_part s at None = refused 16
end_part s at (Some end) = ok (part_in s at end, drop end s)

-- a part's end is behind its kind byte and its zero byte, and inside the list
abbrev pub EndInside : List ℕ → ℕ → Option ℕ → Type 0
EndInside s at r = IfSome r (λ end. (at + 2 ≤ end) × (end ≤ length s))

-- what reading a list gives, by where its parts stand
unfoldable pub spans_parts : List ℕ → Option Spans → Outcome (List EntryPart)
spans_parts s None = refused 16
spans_parts s (Some (Spans.One end)) = ok (part_in s 0 end ∷ [])
spans_parts s (Some (Spans.Two second end)) = ok (part_in s 0 second ∷ part_in s second end ∷ [])

-- parts stand inside the list, in front of its last byte
abbrev pub Inside : List ℕ → Spans → Type 0
Inside s (Spans.One end) = (2 ≤ end) × (end < length s)
Inside s (Spans.Two second end) = (2 ≤ second) × (second + 2 ≤ end) × (end < length s)

-- those that were found do
abbrev pub SpansInside : List ℕ → Option Spans → Type 0
SpansInside s r = IfSome r (Inside s)

-- names all definitions of this module: who unfolds it unfolds them
unfoldable pub open_spans : Unit {0}
unfolding part_in end_part spans_parts
open_spans = tt
