-- What a packed image needs, beside what there is. Document 02, F-2.
use Rattle.std.specs.Prelude.{ℕ, ◌≤◌, ◌≡◌, false, List, T}
use Rattle.std.proofs.Math.Pow.{are_bytes}
use Rattle.spec.specs.Outcome.{ok}
use Rattle.spec.specs.Check.{Image, image_in}
use Rattle.spec.specs.Place.{Plan, plan_full}
use Rattle.spec.specs.Calls.{plan_length}
use Rattle.spec.specs.Claim.{optimise_placing}

-- a plan beside an image of L bytes: it "never needs a longer index or more data blocks", and so no more bytes
pub record NeedsNoMore (L : ℕ) (i : Image) (p : Plan) : Type 0 where
  pub no_longer_index : p.frame.index_blocks ≤ i.frame.index_blocks
  pub no_more_data_blocks : p.frame.data_blocks ≤ i.frame.data_blocks
  pub no_longer : plan_length p ≤ L

-- "An accepted image never needs a longer index or more data blocks when packed."
unfoldable pub PackedNeedsNoMore : Type 0
PackedNeedsNoMore = (s : List ℕ) (L : ℕ) (i : Image) → T (are_bytes s) → image_in s L ≡ ok i → NeedsNoMore L i (optimise_placing i)

-- so row 15, "when finished: L over the slice, D over 65,536, or index over 32,767 blocks", never applies to the packed image in the same slice
unfoldable pub PackedNeverFull : Type 0
PackedNeverFull = (s : List ℕ) (L : ℕ) (i : Image) → T (are_bytes s) → image_in s L ≡ ok i → plan_full s (optimise_placing i) ≡ false

-- names all definitions of this module: who unfolds it unfolds them
unfoldable pub open_packed_form : Unit {0}
unfolding PackedNeedsNoMore PackedNeverFull
open_packed_form = tt
