-- The numbers of marked blocks.
use Rattle.std.specs.Prelude.{ℕ, suc, ◌-◌, Bool, true, false, List, [], ◌∷◌, ltb}
use Rattle.spec.specs.Blocks.{free_list_end}

-- the numbers of those marks that are set, the first mark being that of block i
unfoldable pub numbers : ℕ → List Bool → List ℕ
numbers i [] = []
numbers i (true ∷ ms) = i ∷ numbers (suc i) ms
numbers i (false ∷ ms) = numbers (suc i) ms

-- the number of block b, block g being number 0; the end of the free list where b is not below d
unfoldable pub link_to : ℕ → ℕ → ℕ → ℕ
link_to b g d = elim (ltb b d) [ true ↦ b - g | false ↦ free_list_end ]

-- names all definitions of this module: who unfolds it unfolds them
unfoldable pub open_numbers : Unit {0}
unfolding numbers link_to
open_numbers = tt
