-- An accepted image needs no more when packed, by how its bytes are made up.
use Prim.Native.Nat.{ℕ, ◌≤◌}
use mathlib.Core.List.{List, map}
use native.Mathlib.Omega.{arith}
use lib.ListN.{length, take}
use lib.Seq.{length-take-le}
use borrow.Author.Tests.{le-ltb}
use Rattle.spec.specs.Header.{Format}
use Rattle.spec.specs.Index.{index_need}
use Rattle.spec.specs.Blocks.{run_blocks}
use Rattle.spec.specs.Check.{Frame, Image, frame_length}
use Rattle.spec.specs.Place.{element_of, plan_packed, plan_full}
use Rattle.spec.specs.Calls.{plan_length}
use Rattle.spec.specs.ImageForm.{IsImage, Accepted}
use Rattle.spec.specs.Claim.{optimise_placing}
use Rattle.spec.specs.PackedForm.{NeedsNoMore, PackedNeedsNoMore, PackedNeverFull}
use Rattle.spec.proofs.CountLaws.{covered_few}
use Rattle.spec.proofs.StoredIndexLaws.{index_enough}
use Rattle.spec.proofs.AcceptedLaws.{all_inside, made_up_length}
use Rattle.spec.proofs.ImageFormLaws.{accepted}

-- bytes that are made up as an image: its index has the blocks that its elements need, and its runs lie in its data blocks, none twice
pub made_up_enough : (s : List ℕ) (i : Image) → IsImage s i → NeedsNoMore (length s) i (optimise_placing i)
unfolding optimise_placing plan_packed plan_length frame_length
made_up_enough s i m =
    let f : Frame = i.frame in
    let F : Format = f.format in
    let index : index_need F.number_width (map element_of i.runs) ≤ f.index_blocks
    = index_enough F.number_width f.index_blocks m.index (map element_of i.runs) m.index_length m.index_stored in
    let blocks : run_blocks i.runs ≤ f.data_blocks
    = covered_few f.data_blocks i.runs i.free_list m.each_once (all_inside F.below f.data_blocks m.area m.area_length i.runs m.runs_stored) in
    record { no_longer_index = index; no_more_data_blocks = blocks; no_longer = omega (arith, index, blocks, made_up_length s i m) }

-- THE LAW: an accepted image needs no more when packed
pub packed_needs_no_more : PackedNeedsNoMore
unfolding PackedNeedsNoMore Accepted
packed_needs_no_more s L i small got =
    let (inside, m) = (accepted s L i small).0 got in
    rw (length-take-le L s inside) at (made_up_enough (take L s) i m)

-- so the packed image is never too long for the slice, nor over a limit
pub packed_never_full : PackedNeverFull
unfolding PackedNeverFull PackedNeedsNoMore Accepted optimise_placing plan_packed plan_full plan_length
packed_never_full s L i small got =
    let (inside, m) = (accepted s L i small).0 got in
    let n = packed_needs_no_more s L i small got in
    rw (
      le-ltb (length s) (frame_length (optimise_placing i).frame) (omega (arith, n.no_longer, inside)),
      le-ltb i.frame.format.most_blocks (run_blocks i.runs) (omega (arith, n.no_more_data_blocks, m.few_data_blocks)),
      le-ltb 32_767 (index_need i.frame.format.number_width (map element_of i.runs)) (omega (arith, n.no_longer_index, m.few_index_blocks)),
    )
