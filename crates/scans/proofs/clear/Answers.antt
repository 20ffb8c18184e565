-- The parts passed are zero, the others as they were.
use Prim.Native.Nat.{◌*◌, ◌/◌}
use mathlib.Core.Path.{◌≡◌}
use lib.ListN.{length}
use native.Mathlib.Omega.{arith}
use Rattle.scans.proofs.Clears.{cleared_none, cleared_more, cleared_whole}
use Rattle.scans.proofs.clear.Goals as goal

pub loop-i-init : goal.loop-i-init
loop-i-init c = cleared_none _

pub loop-i-preserved : goal.loop-i-preserved
loop-i-preserved c = cleared_more _ _ _ (4096 * c.loop-i.i) 4096 _ (omega arith) c.loop-i.invariant c.clear_4096.ensures.dst_after

pub returns-clause-dst_after : goal.returns-clause-dst_after
returns-clause-dst_after c =
    let e : c.loop-i.i ≡ length c.args.dst.now / 4096 = omega arith in
    cleared_whole _ _ _ _ _ (rw e at c.loop-i.invariant) c.fill_zero.ensures.dst_after (omega arith) (omega arith)
