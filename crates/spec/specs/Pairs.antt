-- Two-byte characters. Document 02, F-4.
use Rattle.std.specs.Prelude.{ℕ, ◌-◌, Bool, true, false, ◌&&◌, ◌||◌, List, [], ◌∷◌, length, take, leb, ltb}

-- "a byte 0x81 to 0x9F or 0xE0 to 0xFC": one that begins a pair, unless it is the second of one
unfoldable pub is_lead : ℕ → Bool
is_lead b = (leb 0x81 b && leb b 0x9F) || (leb 0xE0 b && leb b 0xFC)

-- whether a byte behind b is the second of a pair ("with the byte after it"), by whether b itself is the second of one
unfoldable pub second_next : Bool → ℕ → Bool
second_next true b = false
second_next false b = is_lead b

-- the same behind more bytes, one after the other
unfoldable pub second_behind : Bool → List ℕ → Bool
second_behind second [] = second
second_behind second (b ∷ bs) = second_behind (second_next second b) bs

-- whether the first n bytes of a headword, "read from the headword's start", end inside a pair: a byte is behind them ("such a byte at the very end stands alone"),
-- and it is the second of a pair
unfoldable pub ends_inside : List ℕ → ℕ → Bool
ends_inside h n = ltb n (length h) && second_behind false (take n h)

-- the largest front of up to n bytes "that ends inside no pair": one byte less where n bytes end inside one
unfoldable pub whole_front : List ℕ → ℕ → ℕ
whole_front h n = elim (ends_inside h n) [ true ↦ n - 1 | false ↦ n ]

-- names all definitions of this module: who unfolds it unfolds them
unfoldable pub open_pairs : Unit {0}
unfolding is_lead second_next second_behind ends_inside whole_front
open_pairs = tt
