-- One part of a cut at a time.
use Rattle.std.specs.Prelude.{ℕ, ◌+◌, ◌≤◌, ◌≡◌, Bool, true, false, ◌||◌, Option, Some, None, List, [], ◌∷◌, map, length, take, leb, eqb}
use Rattle.spec.specs.Bytes.{write}
use Rattle.spec.specs.Entry.{Entry, entry_bytes}
use Rattle.spec.specs.Run.{Run}
use Rattle.spec.specs.Index.{elements_bytes}
use Rattle.spec.specs.Blocks.{run_blocks}
use Rattle.spec.specs.Place.{element_of}
use Rattle.encoder.specs.Limits.{longest_entry}

-- whether a part whose entries take so many bytes so far takes one more entry, by the limit, after the headword prev: always, as its first
unfoldable pub has_room : ℕ → ℕ → List ℕ → Entry → Bool
has_room limit used prev e = eqb used 0 || leb (4 + (used + length (entry_bytes prev e))) limit

-- the entries that a part takes further
unfoldable pub part_of : ℕ → ℕ → List ℕ → List Entry → List Entry
part_of limit used prev [] = []
part_of limit used prev (e ∷ es) = elim (has_room limit used prev e) [
  | true ↦ e ∷ part_of limit (used + length (entry_bytes prev e)) e.headword es
  | false ↦ []
]

-- those behind it
unfoldable pub past_part : ℕ → ℕ → List ℕ → List Entry → List Entry
past_part limit used prev [] = []
past_part limit used prev (e ∷ es) = elim (has_room limit used prev e) [
  | true ↦ past_part limit (used + length (entry_bytes prev e)) e.headword es
  | false ↦ e ∷ es
]

-- an entry appended to a part of so many bytes, by the limit, or no room for it
abbrev pub Appended : ℕ → ℕ → List ℕ → Entry → List ℕ → List ℕ → List ℕ → Option ℕ → Type 0
Appended limit used prev e part part' last r =
    (r ≡ None → (has_room limit used prev e ≡ false) × (part' ≡ part))
    × ((u : ℕ) → r ≡ Some u
    → (has_room limit used prev e ≡ true) × (u ≡ used + length (entry_bytes prev e)) × (part' ≡ write used (entry_bytes prev e) part) × (take (length e.headword) last ≡ e.headword)
    × (u ≤ longest_entry))

-- parts by their numbers: how many, the bytes of their elements with block numbers of that width, their blocks
abbrev pub Measured : ℕ → List Run → ℕ → ℕ → ℕ → Type 0
Measured width ps parts bytes blocks = (parts ≡ length ps) × (bytes ≡ length (elements_bytes width (map element_of ps))) × (blocks ≡ run_blocks ps)

-- names all definitions of this module: who unfolds it unfolds them
unfoldable pub open_part : Unit {0}
unfolding has_room part_of past_part
open_part = tt
