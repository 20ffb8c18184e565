-- `play` meets its contract.
use Prim.Native.Nat.{◌-◌, ◌≤◌}
use mathlib.Core.Path.{◌≡◌}
use lib.ListN.{length, drop}
use Rattle.script.specs.Script.{calls_of, played_from, played}
use Rattle.script.proofs.play.Given as goal

abbrev pub invariant-loop-size : goal.invariant-loop-size
invariant-loop-size l =
    (l.at ≤ length l.script) × (l.n ≤ l.at) × (length l.image ≡ length l.initial.image) × (length l.work ≡ length l.initial.work) × (length l.codes ≡ length l.initial.codes)
    × (played_from l.n (calls_of (length l.initial.work) (drop l.at l.script)) l.image l.l l.work l.codes
    ≡ played (calls_of (length l.initial.work) l.script) l.initial.image l.len l.initial.work l.initial.codes)

abbrev pub decreases-loop-size : goal.decreases-loop-size
decreases-loop-size l = length l.script - l.at
