-- `put_rest` meets its contract.
use native.Mathlib.Omega.{arith}
use Rattle.change.proofs.KeptLaws.{put_fitted}
use Rattle.change.proofs.put_rest.Goals as goal

pub returns-clause-image_after : goal.returns-clause-image_after
returns-clause-image_after c = put_fitted _ _ _ _ _ _ _ c.min-long.ensures c.copy.ensures.dst_after c.fill_zero.ensures.dst_after (omega (arith, c.requires))
