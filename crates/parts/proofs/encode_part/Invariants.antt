-- `encode_part` meets its contract.
use Prim.Native.Nat.{◌≤◌}
use mathlib.Core.Path.{◌≡◌}
use lib.ListN.{length, take}
use Rattle.encoder.specs.Limits.{longest_headword, longest_entry}
use Rattle.parts.specs.Merge.{ahead, todo, CursorOk, Met}
use Rattle.parts.proofs.PartLaws.{Filling}
use Rattle.parts.proofs.Laws.{work}
use Rattle.parts.proofs.encode_part.Given as goal

abbrev pub invariant-loop-e : goal.invariant-loop-e
invariant-loop-e l =
    (l.held ≤ longest_headword) × (l.used ≤ longest_entry) × (length l.last ≡ 256) × (length l.word ≡ length l.initial.word) × (length l.part ≡ length l.initial.part) × CursorOk l.run l.word l.cursor
    × Filling l.limit (todo l.order l.run l.initial.word l.h l.body l.initial.cursor) l.initial.part (todo l.order l.run l.word l.h l.body l.cursor) l.part (take l.held l.last) l.used
    × Met l.h (ahead l.order l.run l.initial.word l.initial.cursor) l.found (ahead l.order l.run l.word l.cursor)

abbrev pub decreases-loop-e : goal.decreases-loop-e
decreases-loop-e l = work l.order l.run l.word l.cursor
