-- What stands at a block's position in the file, and which position is L. Document 02, F-3.
use Rattle.std.specs.Prelude.{ℕ, ◌+◌, ◌*◌, ◌≡◌, List, [], ◌∷◌, take, T}
use Rattle.std.proofs.Math.Pow.{are_bytes}
use Rattle.spec.specs.Lists.{All}
use Rattle.spec.specs.Bytes.{bytes_at}
use Rattle.spec.specs.Outcome.{ok}
use Rattle.spec.specs.Blocks.{link_bytes, free_list_start}
use Rattle.spec.specs.Check.{Frame, Image, position_in, data_start, data_area, image_in}

-- "D data blocks numbered from 0": block b stands b blocks behind the first
unfoldable pub NumberedFrom0 : Type 0
NumberedFrom0 = (f : Frame) (b : ℕ) → position_in f b ≡ data_start f + 256 * b

-- the bytes from its position on in the file are those from its place on in the data area
unfoldable pub SameInTheArea : Type 0
SameInTheArea = (f : Frame) (s : List ℕ) (b n : ℕ) → bytes_at (position_in f b) n s ≡ bytes_at (256 * b) n (data_area f s)

-- L is the position of block D, the first that is not there: "L = 256 × (1 + index_block + D)", longer by the extended header
unfoldable pub LengthIsPosition : Type 0
LengthIsPosition =
    (s : List ℕ) (L : ℕ) (i : Image) → T (are_bytes s) → image_in s L ≡ ok i → let f : Frame = i.frame in
    (L ≡ position_in f f.data_blocks) × (L ≡ 256 * (1 + f.index_blocks + f.data_blocks) + f.format.extended)

-- "A run is written in the image from its first block onward": the bytes of each run of an accepted image stand at its first block's position
unfoldable pub RunsAtPositions : Type 0
RunsAtPositions =
    (s : List ℕ) (L : ℕ) (i : Image) → T (are_bytes s) → image_in s L ≡ ok i
    → All (λ r. bytes_at (position_in i.frame r.block) (256 * r.size) (take L s) ≡ r.bytes) i.runs

-- the links of these free blocks stand at their positions
unfoldable pub LinksAt : Frame → List ℕ → List ℕ → Type 0
LinksAt f s [] = Unit {0}
LinksAt f s (b ∷ bs) = (bytes_at (position_in f b) 6 s ≡ link_bytes (free_list_start bs)) × LinksAt f s bs

-- "A free block: two zero bytes, then the next free number (4), 0xFFFFFFFF at the end": each at its own position
unfoldable pub LinksAtPositions : Type 0
LinksAtPositions = (s : List ℕ) (L : ℕ) (i : Image) → T (are_bytes s) → image_in s L ≡ ok i → LinksAt i.frame (take L s) i.free_list

-- names all definitions of this module: who unfolds it unfolds them
unfoldable pub open_position_form : Unit {0}
unfolding NumberedFrom0 SameInTheArea LengthIsPosition RunsAtPositions LinksAt LinksAtPositions
open_position_form = tt
