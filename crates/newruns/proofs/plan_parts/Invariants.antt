-- `plan_parts` meets its contract.
use Prim.Native.Nat.{◌+◌, ◌*◌, ◌≤◌}
use mathlib.Core.Path.{◌≡◌}
use lib.ListN.{length}
use Rattle.marks.specs.Marks.{marks}
use Rattle.encoder.specs.Limits.{longest_run}
use Rattle.parts.specs.Room.{part_room}
use Rattle.parts.specs.Merge.{todo, changed_entries, CursorOk}
use Rattle.newruns.proofs.Laws.{Planning}
use Rattle.newruns.proofs.plan_parts.Given as goal

abbrev pub invariant-loop-form : goal.invariant-loop-form
invariant-loop-form l =
    (length l.word ≡ 256) × (length l.part ≡ part_room) × CursorOk l.run l.word l.cur × (length l.free ≡ length l.initial.free) × (l.g ≤ l.last)
    × (l.initial.last ≤ l.last) × (l.last ≤ l.most) × (l.most ≤ 0xFFFFFFFF)
    × (l.most + longest_run ≤ 64 * length l.free)
    × Planning l.form.limit l.g l.initial.last (marks l.initial.free) (changed_entries l.form.order l.run l.h l.body l.fresh) l.last (marks l.free) (todo l.form.order l.run l.word l.h l.body l.cur)

abbrev pub decreases-loop-form : goal.decreases-loop-form
decreases-loop-form l = length (todo l.form.order l.run l.word l.h l.body l.cur)
