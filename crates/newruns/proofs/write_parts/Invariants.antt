-- `write_parts` meets its contract.
use Prim.Native.Nat.{◌+◌, ◌*◌, ◌≤◌}
use mathlib.Core.Path.{◌≡◌}
use lib.ListN.{length}
use Rattle.marks.specs.Marks.{marks}
use Rattle.spec.specs.Header.{block_position}
use Rattle.encoder.specs.Limits.{longest_run}
use Rattle.parts.specs.Room.{part_room}
use Rattle.parts.specs.Merge.{todo, changed_entries, CursorOk}
use Rattle.newruns.specs.Laid.{laid, elements_long}
use Rattle.newruns.proofs.Laws.{Writing}
use Rattle.newruns.proofs.write_parts.Given as goal

abbrev pub invariant-loop-form : goal.invariant-loop-form
invariant-loop-form l =
    (length l.word ≡ 256) × (length l.part ≡ part_room) × CursorOk l.run l.word l.cur × (length l.image ≡ length l.initial.image) × (length l.free ≡ length l.initial.free) × (l.g ≤ l.last)
    × ((laid l.form.limit l.g l.initial.last (marks l.initial.free) (changed_entries l.form.order l.run l.h l.body l.fresh)).end + longest_run ≤ 64 * length l.initial.free)
    × (block_position l.form.extended l.index (laid l.form.limit l.g l.initial.last (marks l.initial.free) (changed_entries l.form.order l.run l.h l.body l.fresh)).end ≤ length l.initial.image)
    × (l.initial.out + elements_long l.form.width l.form.limit l.g (laid l.form.limit l.g l.initial.last (marks l.initial.free) (changed_entries l.form.order l.run l.h l.body l.fresh)).places
    (changed_entries l.form.order l.run l.h l.body l.fresh) ≤ length l.initial.image)
    × Writing l.form.width l.form.limit l.form.extended l.index l.g l.initial.out l.initial.last (marks l.initial.free) (changed_entries l.form.order l.run l.h l.body
    l.fresh) l.initial.image l.out l.last (marks l.free)
    (todo l.form.order l.run l.word l.h l.body l.cur) l.image

abbrev pub decreases-loop-form : goal.decreases-loop-form
decreases-loop-form l = length (todo l.form.order l.run l.word l.h l.body l.cur)
