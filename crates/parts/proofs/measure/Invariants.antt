-- `measure` meets its contract.
use Prim.Native.Nat.{◌≤◌}
use mathlib.Core.Path.{◌≡◌}
use lib.ListN.{length}
use mathlib.Core.List.{[]}
use Rattle.spec.specs.Order.{below_of}
use Rattle.parts.specs.Merge.{entries_left, ahead, todo, changed_entries, CursorOk, Met}
use Rattle.parts.specs.Room.{part_room}
use Rattle.parts.proofs.MeasureLaws.{parts_in, bytes_in, blocks_in, Counting}
use Rattle.parts.proofs.measure.Given as goal

abbrev pub invariant-loop-form : goal.invariant-loop-form
invariant-loop-form l =
    (length l.word ≡ 256) × (length l.part ≡ part_room) × CursorOk l.run l.word l.cur
    × Counting l.form.width l.form.limit (changed_entries l.form.order l.run l.h l.body l.fresh) (todo l.form.order l.run l.word l.h l.body l.cur) l.parts l.bytes l.blocks
    × (parts_in l.form.limit (changed_entries l.form.order l.run l.h l.body l.fresh) ≤ 8388609)
    × (bytes_in l.form.width l.form.limit (changed_entries l.form.order l.run l.h l.body l.fresh) ≤ 2122318077)
    × (blocks_in l.form.limit (changed_entries l.form.order l.run l.h l.body l.fresh) ≤ 109051917)
    × Met l.h (entries_left (below_of l.form.order) [] l.run) l.found (ahead l.form.order l.run l.word l.cur)

abbrev pub decreases-loop-form : goal.decreases-loop-form
decreases-loop-form l = length (todo l.form.order l.run l.word l.h l.body l.cur)
