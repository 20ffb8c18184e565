-- The runs that start among the first g blocks, by a table of these blocks.
use Rattle.std.specs.Result.{result_unwrap_or}
use Rattle.std.specs.Prelude.{ℕ, zero, suc, ◌*◌, Bool, true, false, List, [], ◌∷◌, map, get_or, set, ltb, eqb}
use Rattle.spec.specs.Bytes.{bytes_at, write}
use Rattle.runs.specs.Size.{size_told}
use Rattle.marks.specs.Marks.{with_range}
use Rattle.placing.specs.Spread.{Spread, spread}

-- the table with 1 at each of these blocks that is below g
unfoldable pub noted : ℕ → List ℕ → List ℕ → List ℕ
noted g [] T = T
noted g (b ∷ bs) T = noted g bs (elim (ltb b g) [ true ↦ set T b 1 | false ↦ T ])

-- the blocks of the k from b on at which the table has a run, ascending
unfoldable pub starts : ℕ → ℕ → List ℕ → List ℕ
starts b zero T = []
starts b (suc k) T = elim (eqb (get_or T b 0) 0) [ true ↦ starts (suc b) k T | false ↦ b ∷ starts (suc b) k T ]

-- the number of blocks of the run at block b of D: a block that no run may start at counts as one
unfoldable pub size_at : List ℕ → ℕ → ℕ → ℕ
size_at area D b = result_unwrap_or (size_told D area b) 1

-- the marks with the blocks of the runs at these blocks free
unfoldable pub freed : List ℕ → ℕ → List ℕ → List Bool → List Bool
freed area D [] ms = ms
freed area D (b ∷ bs) ms = freed area D bs (with_range b (size_at area D b) true ms)

-- the runs at these blocks of D placed in order among the blocks g to end − 1, or from `end` on
abbrev pub moved_to : List ℕ → ℕ → ℕ → ℕ → List Bool → List ℕ → Spread
moved_to area D g end ms bs = spread g end ms (map (size_at area D) bs)

-- the table with the places of the runs at these blocks
unfoldable pub tabled : List ℕ → List ℕ → List ℕ → List ℕ
tabled [] ps T = T
tabled (b ∷ bs) [] T = T
tabled (b ∷ bs) (p ∷ ps) T = tabled bs ps (set T b p)

-- the runs at these blocks of the old area written at their places by the table
unfoldable pub moved_written : List ℕ → ℕ → List ℕ → List ℕ → List ℕ → List ℕ
moved_written area D T [] dst = dst
moved_written area D T (b ∷ bs) dst = moved_written area D T bs (write (256 * get_or T b 0) (bytes_at (256 * b) (256 * size_at area D b) area) dst)

-- names all definitions of this module: who unfolds it unfolds them
unfoldable pub open_moved : Unit {0}
unfolding noted starts size_at freed tabled moved_written
open_moved = tt
