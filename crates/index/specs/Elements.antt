-- The elements of an index by where they stand, under no rule.
use Rattle.std.specs.Prelude.{ℕ, zero, suc, ◌+◌, ◌-◌, ◌≤◌, ◌<◌, Bool, true, false, List, [], ◌∷◌, length, drop, Result, Ok, Err}
use Rattle.std.specs.Coded.{le_prop}
use Rattle.spec.specs.Order.{HeadwordOrder}
use Rattle.spec.specs.Bytes.{from_little_endian, bytes_at}
use Rattle.spec.specs.Index.{Element}
use Rattle.scans.specs.Scan.{zero_offset}
use Rattle.index.specs.declared.Place.{Place}
use Rattle.spec.specs.declared.Refusal.{Refusal}

-- where the zero byte of the element at `at` is
unfoldable pub element_end : ℕ → List ℕ → ℕ → ℕ
element_end w index at = at + w + zero_offset (drop (at + w) index)

-- the headword of the element at `at`
unfoldable pub element_headword : ℕ → List ℕ → ℕ → List ℕ
element_headword w index at = bytes_at (at + w) (element_end w index at - (at + w)) index

-- the element at `at`
unfoldable pub element_at : ℕ → List ℕ → ℕ → Element
element_at w index at = record { block = from_little_endian (bytes_at at w index); headword = element_headword w index at }

-- n elements from `at` on
unfoldable pub elements_at : ℕ → List ℕ → ℕ → ℕ → List Element
elements_at w index at zero = []
elements_at w index at (suc n) = element_at w index at ∷ elements_at w index (element_end w index at + 1) n

-- where n elements from `at` on end
unfoldable pub elements_end : ℕ → List ℕ → ℕ → ℕ → ℕ
elements_end w index at zero = at
elements_end w index at (suc n) = elements_end w index (element_end w index at + 1) n

-- the answer about elements that end at e, by whether they keep their rules: row 6
unfoldable pub ended : Bool → ℕ → Result ℕ Refusal
ended true e = Ok e
ended false e = Err Refusal.BadIndex

-- n elements from `at` on stand inside the index, each with its zero byte
abbrev pub Inside : ℕ → List ℕ → ℕ → ℕ → Type 0
Inside w index at zero = at ≤ length index
Inside w index at (suc n) = (at + w ≤ length index) × (element_end w index at < length index) × Inside w index (element_end w index at + 1) n

-- there is one proof of that at most
pub inside_prop : (w : ℕ) (index : List ℕ) (at n : ℕ) → IsProp (Inside w index at n)
inside_prop w index at zero = le_prop
inside_prop w index at (suc n) = let rest = inside_prop w index (element_end w index at + 1) n in Prim.hlevel (le_prop, rest)

-- of n + 1 elements from `at` on the last before the first, from the second on, whose headword is above h
unfoldable pub concerned_from : ℕ → HeadwordOrder → List ℕ → List ℕ → ℕ → ℕ → Place
concerned_from w below index h at zero = record { at = at; left = 1 }
concerned_from w below index h at (suc n) = elim (below h (element_headword w index (element_end w index at + 1))) [
  | true ↦ record { at = at; left = suc (suc n) }
  | false ↦ concerned_from w below index h (element_end w index at + 1) n
]

-- names all definitions of this module: who unfolds it unfolds them
unfoldable pub open_elements : Unit {0}
unfolding element_end element_headword element_at elements_at elements_end ended concerned_from
open_elements = tt
