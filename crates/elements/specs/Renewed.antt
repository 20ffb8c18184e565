-- Elements whose numbers are renewed when the index takes the place of the first data blocks.
use Rattle.std.specs.Prelude.{ℕ, ◌-◌, true, false, List, get_or, ltb}
use Rattle.spec.specs.Index.{Element}

-- a run's number after g blocks became the index's: of one that started among them by the table of moved runs
unfoldable pub number_after : List ℕ → ℕ → ℕ → ℕ
number_after numbers g b = elim (ltb b g) [ true ↦ get_or numbers b 0 - g | false ↦ b - g ]

-- an element with its number renewed
unfoldable pub renewed : List ℕ → ℕ → Element → Element
renewed numbers g e = record { block = number_after numbers g e.block; headword = e.headword }

-- names all definitions of this module: who unfolds it unfolds them
unfoldable pub open_renewed : Unit {0}
unfolding number_after renewed
open_renewed = tt
