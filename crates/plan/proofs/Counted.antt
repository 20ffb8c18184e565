-- How many runs a plan has, and how many blocks they take.
use Prim.Native.Nat.{ℕ, ◌+◌, ◌-◌, ◌≤◌, max}
use mathlib.Core.Bool.{not}
use mathlib.Core.Path.{◌≡◌, refl}
use mathlib.Core.List.{List, [], ◌∷◌, ◌++◌, map}
use native.Mathlib.Omega.{arith}
use lib.ListN.{length, length-append, length-map}
use Rattle.spec.specs.Lists.{filter}
use Rattle.spec.specs.Header.{Format, block_position}
use Rattle.spec.specs.Entry.{Entry}
use Rattle.spec.specs.Run.{Run}
use Rattle.spec.specs.Index.{index_need}
use Rattle.spec.specs.Blocks.{place_for, run_blocks}
use Rattle.spec.specs.Check.{Image, frame_length}
use Rattle.spec.specs.Place.{Target, Placed, Move, Grown, target_run, cut, new_run, at_block, with_run, place, element_of, in_number_order, touches, renumbered, grown, plan_change}
use Rattle.spec.specs.Calls.{plan_length}
use Rattle.placing.proofs.SpreadLaws.{place_grows}

-- the blocks of two lists of runs
pub blocks_joined : (x y : List Run) → run_blocks (x ++ y) ≡ run_blocks x + run_blocks y
unfolding run_blocks
blocks_joined [] y = omega arith
blocks_joined (r ∷ x) y = omega (arith, blocks_joined x y)

-- placing keeps the runs' number
place_length : (g D : ℕ) (there rs : List Run) → length (place g D there rs).runs ≡ length rs
unfolding place with_run
place_length g D there [] = refl
place_length g D there (r ∷ rs) =
    let b : ℕ = place_for g D there r.size in
    omega (arith, place_length g (max D (b + r.size)) (at_block b r ∷ there) rs)

-- and their blocks
place_blocks : (g D : ℕ) (there rs : List Run) → run_blocks (place g D there rs).runs ≡ run_blocks rs
unfolding place with_run run_blocks at_block
place_blocks g D there [] = refl
place_blocks g D there (r ∷ rs) =
    let b : ℕ = place_for g D there r.size in
    omega (arith, place_blocks g (max D (b + r.size)) (at_block b r ∷ there) rs)

-- so does renumbering
renumbered_blocks : (g : ℕ) (ms : List Move) (rs : List Run) → run_blocks (map (renumbered g ms) rs) ≡ run_blocks rs
unfolding run_blocks renumbered at_block
renumbered_blocks g ms [] = refl
renumbered_blocks g ms (r ∷ rs) = omega (arith, renumbered_blocks g ms rs)

grown_lengths : (g D : ℕ) (before after : List Run) → (length (grown g D before after).before ≡ length before) × (length (grown g D before after).after ≡ length after)
unfolding grown
grown_lengths g D before after = (length-map before _, length-map after _)

grown_blocks : (g D : ℕ) (before after : List Run) → (run_blocks (grown g D before after).before ≡ run_blocks before) × (run_blocks (grown g D before after).after ≡ run_blocks after)
unfolding grown
grown_blocks g D before after = (renumbered_blocks g _ before, renumbered_blocks g _ after)

-- the plan of a change has the other runs and one for each part
pub change_length : (F : Format) (i : Image) (h : List ℕ) (f : List Entry → List Entry)
    → let c : Target = target_run F.below h i.runs in length (plan_change F i h f).runs ≡ length c.before + length (map new_run (cut F.run_limit (f c.entries))) + length c.after
unfolding plan_change
change_length F i h f =
    let c : Target = target_run F.below h i.runs in
    let ps : List Run = map new_run (cut F.run_limit (f c.entries)) in
    let g : ℕ = index_need F.number_width (map element_of (c.before ++ ps ++ c.after)) - i.frame.index_blocks in
    let m : Grown = grown g i.frame.data_blocks c.before c.after in
    let p : Placed = place 0 m.data_blocks (m.before ++ m.after) ps in
    let (a, b) = grown_lengths g i.frame.data_blocks c.before c.after in
    omega (arith, length-append (m.before ++ p.runs) m.after, length-append m.before p.runs, a, b, place_length 0 m.data_blocks (m.before ++ m.after) ps)

-- with their blocks
pub change_blocks : (F : Format) (i : Image) (h : List ℕ) (f : List Entry → List Entry)
    → let c : Target = target_run F.below h i.runs in run_blocks (plan_change F i h f).runs ≡ run_blocks (c.before ++ c.after) + run_blocks (map new_run (cut F.run_limit (f c.entries)))
unfolding plan_change
change_blocks F i h f =
    let c : Target = target_run F.below h i.runs in
    let ps : List Run = map new_run (cut F.run_limit (f c.entries)) in
    let g : ℕ = index_need F.number_width (map element_of (c.before ++ ps ++ c.after)) - i.frame.index_blocks in
    let m : Grown = grown g i.frame.data_blocks c.before c.after in
    let p : Placed = place 0 m.data_blocks (m.before ++ m.after) ps in
    let (a, b) = grown_blocks g i.frame.data_blocks c.before c.after in
    omega (
      arith,
      blocks_joined (m.before ++ p.runs) m.after,
      blocks_joined m.before p.runs,
      blocks_joined c.before c.after,
      a,
      b,
      place_blocks 0 m.data_blocks (m.before ++ m.after) ps,
    )

-- the growing index and the displaced runs take no block from the end
grown_blocks_kept : (g D : ℕ) (before after : List Run) → D ≤ g + (grown g D before after).data_blocks
unfolding grown
grown_blocks_kept g D before after =
    omega (arith, place_grows g (max D g) (filter (λ r. not (touches g r)) (before ++ after)) (in_number_order (filter (touches g) (before ++ after))))

-- an insertion or a deletion never shortens the image
pub change_longer : (F : Format) (i : Image) (h : List ℕ) (f : List Entry → List Entry)
    → block_position F.extended i.frame.index_blocks i.frame.data_blocks ≤ plan_length (plan_change F i h f)
unfolding plan_change plan_length frame_length
change_longer F i h f =
    let c : Target = target_run F.below h i.runs in
    let ps : List Run = map new_run (cut F.run_limit (f c.entries)) in
    let g : ℕ = index_need F.number_width (map element_of (c.before ++ ps ++ c.after)) - i.frame.index_blocks in
    let m : Grown = grown g i.frame.data_blocks c.before c.after in
    omega (arith, grown_blocks_kept g i.frame.data_blocks c.before c.after, place_grows 0 m.data_blocks (m.before ++ m.after) ps)
