-- Runs written one after the other, and their elements, as the code writes them.
use Rattle.std.specs.Prelude.{ℕ, zero, suc, ◌+◌, ◌≤◌, ◌≡◌, List, [], ◌∷◌, ◌++◌, map, length}
use Rattle.spec.specs.Order.{below_of}
use Rattle.spec.specs.Outcome.{ok}
use Rattle.spec.specs.Bytes.{write, blocks_for}
use Rattle.spec.specs.Header.{block_position}
use Rattle.spec.specs.Run.{Run}
use Rattle.spec.specs.Index.{Element, elements_bytes}
use Rattle.spec.specs.Blocks.{run_blocks}
use Rattle.spec.specs.Check.{runs_from}
use Rattle.spec.specs.Place.{element_of, packed}

-- how many blocks an index of so many elements needs, which take so many bytes
unfoldable pub blocks_needed : ℕ → ℕ → ℕ
blocks_needed zero bytes = 0
blocks_needed (suc k) bytes = blocks_for (bytes + 4)

-- the bytes of runs one after the other
unfoldable pub runs_bytes : List Run → List ℕ
runs_bytes [] = []
runs_bytes (r ∷ rs) = r.bytes ++ runs_bytes rs

-- the elements of runs that stand one after the other from block b on
unfoldable pub packed_elements : ℕ → ℕ → List Run → List ℕ
packed_elements width b rs = elements_bytes width (map element_of (packed b rs))

-- a slice with runs written one after the other from `base` on, and their elements from `front` on
unfoldable pub runs_packed : ℕ → ℕ → ℕ → List Run → List ℕ → List ℕ
runs_packed width front base rs s = write front (packed_elements width 0 rs) (write base (runs_bytes rs) s)

-- the runs of elements in a data area are read; the elements fit from `front` on in an index of m blocks, and they behind it in a slice of that length
pub record RunsFit (width order extended : ℕ) (elements : List Element) (area : List ℕ) (d front m long : ℕ) : Type 0 where
  pub runs : List Run
  pub read : runs_from (below_of order) d area elements ≡ ok runs
  pub index_room : front + length (elements_bytes width elements) ≤ block_position extended m 0
  pub area_room : block_position extended m (run_blocks runs) ≤ long

-- names all definitions of this module: who unfolds it unfolds them
unfoldable pub open_packing : Unit {0}
unfolding blocks_needed runs_bytes packed_elements runs_packed
open_packing = tt
