-- A block's position: what stands there, and that an image ends at the position of block D.
use Prim.Native.Nat.{ℕ, ◌*◌}
use mathlib.Core.Path.{◌≡◌, sym, ap, ◌∙◌}
use mathlib.Core.List.{List, [], ◌∷◌}
use native.Mathlib.Omega.{arith}
use lib.ListN.{length, take, drop}
use lib.Seq.{length-take-le, drop-drop}
use Rattle.spec.specs.Lists.{All}
use Rattle.spec.specs.Bytes.{bytes_at}
use Rattle.spec.specs.Run.{Run}
use Rattle.spec.specs.Check.{Image, position_in, data_start, data_area}
use Rattle.spec.specs.ImageForm.{StoredRuns, StoredFreeList, IsImage, Accepted}
use Rattle.spec.specs.PositionForm.{NumberedFrom0, SameInTheArea, LengthIsPosition, RunsAtPositions, LinksAt, LinksAtPositions}
use Rattle.spec.proofs.AcceptedLaws.{made_up_length, made_up_area}
use Rattle.spec.proofs.ImageFormLaws.{accepted}

-- THE LAW: block b stands b blocks behind the first
pub numbered_from_0 : NumberedFrom0
unfolding NumberedFrom0 data_start
numbered_from_0 f b = omega arith

-- THE LAW: what stands at a block's position in the file
pub same_in_the_area : SameInTheArea
unfolding SameInTheArea NumberedFrom0 data_area bytes_at
same_in_the_area f s b n = ap (λ (k : ℕ). take n (drop k s)) (numbered_from_0 f b) ∙ ap (take n) (sym (drop-drop (256 * b) (data_start f) s))

-- Bytes that are made up as an image.
module _ (s : List ℕ) (i : Image) (m : IsImage s i) where
  -- what stands at a block's place in its data area stands at its position
  at_position : (b n : ℕ) (x : List ℕ) → bytes_at (256 * b) n m.area ≡ x → bytes_at (position_in i.frame b) n s ≡ x
  unfolding SameInTheArea
  at_position b n x e = same_in_the_area i.frame s b n ∙ ap (bytes_at (256 * b) n) (sym (made_up_area s i m)) ∙ e

  -- so each of these runs stands at its first block's position
  runs_there : (rs : List Run) → StoredRuns m.area rs → All (λ r. bytes_at (position_in i.frame r.block) (256 * r.size) s ≡ r.bytes) rs
  unfolding StoredRuns
  runs_there [] st = tt
  runs_there (r ∷ rs) (st, sts) = (at_position r.block (256 * r.size) r.bytes st.placed, runs_there rs sts)

  -- and each of these free blocks' links at its own
  links_there : (bs : List ℕ) → StoredFreeList m.area bs → LinksAt i.frame s bs
  unfolding StoredFreeList LinksAt
  links_there [] st = tt
  links_there (b ∷ bs) (st, sts) = (at_position b 6 _ st, links_there bs sts)

-- THE LAW: L is the position of block D
pub length_is_position : LengthIsPosition
unfolding LengthIsPosition Accepted
length_is_position s L i small got =
    let (inside, m) = (accepted s L i small).0 got in
    let whole : length (take L s) ≡ position_in i.frame i.frame.data_blocks = made_up_length (take L s) i m in
    let e : L ≡ position_in i.frame i.frame.data_blocks = sym (length-take-le L s inside) ∙ whole in
    (e, omega (arith, e))

-- THE LAW: each run stands at its first block's position
pub runs_at_positions : RunsAtPositions
unfolding RunsAtPositions Accepted
runs_at_positions s L i small got = let m = ((accepted s L i small).0 got).1 in runs_there (take L s) i m i.runs m.runs_stored

-- THE LAW: each free block's link stands at its position
pub links_at_positions : LinksAtPositions
unfolding LinksAtPositions Accepted
links_at_positions s L i small got = let m = ((accepted s L i small).0 got).1 in links_there (take L s) i m i.free_list m.free_list_stored
