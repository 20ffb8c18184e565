-- A changed image in the order in which code writes it.
use Rattle.std.specs.Prelude.{ℕ, ◌+◌, ◌-◌, ◌*◌, List, [], ◌∷◌, length}
use Rattle.spec.specs.Bytes.{write}
use Rattle.spec.specs.Header.{block_position}
use Rattle.spec.specs.Entry.{Entry}
use Rattle.spec.specs.Run.{Run, run_bytes}
use Rattle.spec.specs.Index.{Element, element_bytes}
use Rattle.spec.specs.Place.{first_headword, at_block, new_run}

-- the index element of a part at block b
unfoldable pub part_element : ℕ → List Entry → Element
part_element b p = record { block = b; headword = first_headword p }

-- Parts written at their blocks' positions, behind an extended header of so many bytes and so many index blocks, and their elements, with block
-- numbers of `width` bytes, from `at` on; the elements' numbers are g lower.
unfoldable pub parts_written : ℕ → ℕ → ℕ → ℕ → ℕ → List ℕ → List (List Entry) → List ℕ → List ℕ
parts_written width extended index g at [] ps s = s
parts_written width extended index g at (b ∷ bs) [] s = s
parts_written width extended index g at (b ∷ bs) (p ∷ ps) s =
    let element : List ℕ = element_bytes width (part_element (b - g) p) in
    parts_written width extended index g (at + length element) bs ps (write at element (write (block_position extended index b) (run_bytes p) s))

-- parts as runs at their places, numbered g lower
unfoldable pub part_runs : ℕ → List ℕ → List (List Entry) → List Run
part_runs g [] ps = []
part_runs g (b ∷ bs) [] = []
part_runs g (b ∷ bs) (p ∷ ps) = at_block (b - g) (new_run p) ∷ part_runs g bs ps

-- runs written one after the other, the first one first
unfoldable pub runs_put : List Run → List ℕ → List ℕ
runs_put [] area = area
runs_put (r ∷ rs) area = runs_put rs (write (256 * r.block) r.bytes area)

-- names all definitions of this module: who unfolds it unfolds them
unfoldable pub open_written : Unit {0}
unfolding part_element parts_written part_runs runs_put
open_written = tt
