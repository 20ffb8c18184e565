-- What a part list is, without reading it: the parts of which its bytes are made up, and what the step call answers. Document 02, F-5.
use Rattle.std.specs.Prelude.{ℕ, ◌+◌, ◌≤◌, ◌≡◌, ◌⊎◌, ◌↔◌, true, List, ◌∷◌, ◌++◌, length, eqb}
use Rattle.std.proofs.Math.Option.{Option, none, some}
use Rattle.spec.specs.Outcome.{Outcome, refused, ok}
use Rattle.spec.specs.Lists.{All, count}
use Rattle.spec.specs.Bytes.{no_zero, bytes_at}
use Rattle.spec.specs.PartList.{EntryPart, PartAt, part_bytes, parts_bytes, list_bytes, parts_from, part_step}

-- "0x01 example, up to 20,000 bytes; 0x02 pronunciation, up to 1,000"
abbrev pub KindTakes : ℕ → ℕ → Type 0
KindTakes k n = ((k ≡ 0x01) × (n ≤ 20_000)) ⊎ ((k ≡ 0x02) × (n ≤ 1_000))

-- a part by its rules: that of its kind, and "bytes without zero"
pub record IsEntryPart (p : EntryPart) : Type 0 where
  pub kind_rule : KindTakes p.kind (length p.bytes)
  pub zero_rule : no_zero p.bytes ≡ true

-- "A list has one or two parts, each kind at most once, in either order"
pub record IsPartList (ps : List EntryPart) : Type 0 where
  pub one_or_two : (1 ≤ length ps) × (length ps ≤ 2)
  pub are_parts : All IsEntryPart ps
  pub each_kind_once : (k : ℕ) → count (λ p. eqb p.kind k) ps ≤ 1

-- a list is read exactly as the parts of which it is made up
unfoldable pub PartListsRead : Type 0
PartListsRead = (s : List ℕ) (ps : List EntryPart) → (parts_from s ≡ ok ps) ↔ (IsPartList ps × (s ≡ list_bytes ps))

-- every other slice is refused by 16
unfoldable pub PartListsRefused : Type 0
PartListsRefused = (s : List ℕ) → ((ps : List EntryPart) → IsPartList ps → s ≡ list_bytes ps → ⊥) → parts_from s ≡ refused 16

-- a step call as document 02 words it, by the parts in front of the offset
pub record StepsThroughParts (step : List ℕ → ℕ → Outcome (Option PartAt)) : Type 0 where
  -- where a part begins: its kind, "place in the list and length of its bytes, and the next offset"
  pub at_part : (before : List EntryPart) (p : EntryPart) (after : List EntryPart) → IsPartList (before ++ p ∷ after)
      → step (list_bytes (before ++ p ∷ after)) (length (parts_bytes before))
      ≡ ok (some (record { kind = p.kind; place = length (parts_bytes before) + 1; part_length = length p.bytes; next = length (parts_bytes before) + length (part_bytes p) }))
  -- "or the end"
  pub at_end : (ps : List EntryPart) → IsPartList ps → step (list_bytes ps) (length (parts_bytes ps)) ≡ ok none
  -- "an offset where neither a part nor the end begins, is 16"
  pub elsewhere : (ps : List EntryPart) → IsPartList ps → (offset : ℕ)
      → ((before : List EntryPart) (p : EntryPart) (after : List EntryPart) → ps ≡ before ++ p ∷ after → offset ≡ length (parts_bytes before) → ⊥)
      → (offset ≡ length (parts_bytes ps) → ⊥) → step (list_bytes ps) offset ≡ refused 16
  -- "a slice that is not exactly one list by these rules, …, is 16", whatever the offset
  pub no_list : (s : List ℕ) → ((ps : List EntryPart) → IsPartList ps → s ≡ list_bytes ps → ⊥) → (offset : ℕ) → step s offset ≡ refused 16

-- the step call is such a one
unfoldable pub StepIsStep : Type 0
StepIsStep = StepsThroughParts part_step

-- there is no other: these sentences fix the answer for every slice and every offset
unfoldable pub OneStep : Type 0
OneStep = (step : List ℕ → ℕ → Outcome (Option PartAt)) → StepsThroughParts step → (s : List ℕ) (offset : ℕ) → step s offset ≡ part_step s offset

-- where a part begins, the place and the length that the step answers are those of the part's bytes
unfoldable pub StepGivesBytes : Type 0
StepGivesBytes = (before : List EntryPart) (p : EntryPart) (after : List EntryPart)
    → bytes_at (length (parts_bytes before) + 1) (length p.bytes) (list_bytes (before ++ p ∷ after)) ≡ p.bytes

-- names all definitions of this module: who unfolds it unfolds them
unfoldable pub open_part_list_form : Unit {0}
unfolding PartListsRead PartListsRefused StepIsStep OneStep StepGivesBytes
open_part_list_form = tt
