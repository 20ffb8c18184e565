-- Pairs and the front that is written as document 02 words them, beside `Pairs` and `shared_front`, which compute them. F-4.
use Rattle.std.specs.Prelude.{ℕ, ◌+◌, ◌≤◌, ◌≡◌, ◌⊎◌, ◌↔◌, true, List, [], ◌∷◌, ◌++◌, length, take}
use Rattle.spec.specs.Pairs.{ends_inside}
use Rattle.spec.specs.Entry.{shared_front}

-- "a byte 0x81 to 0x9F or 0xE0 to 0xFC"
unfoldable pub BeginsPair : ℕ → Type 0
BeginsPair b = ((0x81 ≤ b) × (b ≤ 0x9F)) ⊎ ((0xE0 ≤ b) × (b ≤ 0xFC))

-- characters "read from the headword's start", all whole: "A pair is a byte … with the byte after it", and every other byte is one by itself
unfoldable pub Characters : List ℕ → Type 0
Characters [] = Unit {0}
Characters (b ∷ []) = BeginsPair b → ⊥
Characters (b ∷ c ∷ h) = (BeginsPair b × Characters h) ⊎ ((BeginsPair b → ⊥) × Characters (c ∷ h))

-- The first n bytes of a headword end inside a pair: whole characters stand before it, and of the pair its first byte alone is among the n. A byte that
-- has none behind it makes no pair: "such a byte at the very end stands alone".
pub record EndsInside (h : List ℕ) (n : ℕ) : Type 0 where
  pub before : List ℕ
  pub lead : ℕ
  pub second : ℕ
  pub rest : List ℕ
  pub made_up : h ≡ before ++ lead ∷ second ∷ rest
  pub characters : Characters before
  pub begins : BeginsPair lead
  pub cut : n ≡ length before + 1

-- the scan of `Pairs` finds the fronts that do
unfoldable pub PairsRead : Type 0
PairsRead = (h : List ℕ) (n : ℕ) → (ends_inside h n ≡ true) ↔ EndsInside h n

-- the first n bytes are there in both, and the same
pub record IsCommon (prev h : List ℕ) (n : ℕ) : Type 0 where
  pub in_earlier : n ≤ length prev
  pub in_later : n ≤ length h
  pub same : take n prev ≡ take n h

-- "the largest front, up to the common one, that ends inside no pair of the later headword"
pub record IsFront (prev h : List ℕ) (n : ℕ) : Type 0 where
  pub common : IsCommon prev h n
  pub whole : EndsInside h n → ⊥
  pub largest : (m : ℕ) → IsCommon prev h m → (EndsInside h m → ⊥) → m ≤ n

-- "We now write" that front
unfoldable pub FrontIsFront : Type 0
FrontIsFront = (prev h : List ℕ) → IsFront prev h (shared_front prev h)

-- there is no other
unfoldable pub OneFront : Type 0
OneFront = (prev h : List ℕ) (n m : ℕ) → IsFront prev h n → IsFront prev h m → n ≡ m

-- names all definitions of this module: who unfolds it unfolds them
unfoldable pub open_front_form : Unit {0}
unfolding BeginsPair Characters PairsRead FrontIsFront OneFront
open_front_form = tt
