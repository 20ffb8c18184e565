-- Runs that lie apart still do when the index has grown, and after a change: what rests on LaidLaws.moved_from.
use Prim.Native.Nat.{ℕ, ◌-◌}
use mathlib.Core.Path.{sym}
use mathlib.Core.List.{List, [], ◌∷◌, ◌++◌, map, map-append}
use native.Mathlib.Omega.{arith}
use Rattle.spec.specs.Lists.{All}
use Rattle.spec.specs.Bytes.{blocks_for}
use Rattle.spec.specs.Header.{Format}
use Rattle.spec.specs.Entry.{Entry}
use Rattle.spec.specs.Run.{Run, encoded_size, run_size}
use Rattle.spec.specs.Check.{Image}
use Rattle.spec.specs.Place.{Target, Placed, Grown, target_run, cut, new_run, place, renumbered, grown, plan_change}
use Rattle.spec.specs.Sound.{Laid}
use Rattle.spec.proofs.ListsLaws.{all_append}
use Rattle.spec.proofs.RunLaws.{length_run_bytes}
use Rattle.spec.proofs.LaidLaws.{Sized, at_sized, placed_laid, laid_fallen, staying, moving, grown_place, grown_moves, moved_laid, moved_from}
use Rattle.spec.proofs.PlaceLaws.{grown_all}

-- step 4: what moved lies apart at blocks from g up, and then falls by g
pub renumbered_laid : (g D : ℕ) (rs : List Run) → Laid D rs → All Sized rs → Laid ((grown_place g D rs).data_blocks - g) (map (renumbered g (grown_moves g D rs)) rs)
renumbered_laid g D rs l s = laid_fallen g _ (grown_moves g D rs) rs (moved_from g D rs l s) (moved_laid g D rs l s)

-- step 4: the runs before and after the run concerned lie apart at their places under a longer index
pub grown_laid : (g D : ℕ) (before after : List Run) → Laid D (before ++ after) → All Sized (before ++ after)
    → Laid (grown g D before after).data_blocks ((grown g D before after).before ++ (grown g D before after).after)
unfolding grown staying moving grown_place grown_moves
grown_laid g D before after l s = rw (sym (map-append (renumbered g (grown_moves g D (before ++ after))) before after)) (renumbered_laid g D (before ++ after) l s)

-- steps 4 and 5: after a change all runs lie apart
pub change_laid : (g D : ℕ) (c : Target) (parts : List Run) → Laid D (c.before ++ c.after) → All Sized (c.before ++ c.after) → All Sized parts
    → let m : Grown = grown g D c.before c.after in let p : Placed = place 0 m.data_blocks (m.before ++ m.after) parts in Laid p.data_blocks (m.before ++ p.runs ++ m.after)
change_laid g D c parts l s t =
    let m : Grown = grown g D c.before c.after in
    let (a, b) = grown_all Sized at_sized g D c.before c.after s in
    placed_laid m.data_blocks m.before m.after parts (grown_laid g D c.before c.after l s) (all_append Sized m.before m.after a b) t

-- the runs of parts have the bytes of their blocks, at least one
pub new_sized : (ps : List (List Entry)) → All Sized (map new_run ps)
unfolding new_run run_size encoded_size blocks_for
new_sized [] = tt
new_sized (p ∷ ps) = ((omega arith, length_run_bytes p), new_sized ps)

-- steps 1 to 6: the runs of the plan of a change lie apart, if those before and after the run concerned do
pub plan_laid : (F : Format) (i : Image) (h : List ℕ) (change : List Entry → List Entry)
    → let c : Target = target_run F.below h i.runs in Laid i.frame.data_blocks (c.before ++ c.after) → All Sized (c.before ++ c.after)
    → Laid (plan_change F i h change).frame.data_blocks (plan_change F i h change).runs
unfolding plan_change
plan_laid F i h change l s =
    let c : Target = target_run F.below h i.runs in
    change_laid _ i.frame.data_blocks c _ l s (new_sized (cut F.run_limit (change c.entries)))
