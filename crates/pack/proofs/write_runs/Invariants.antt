-- What is left, written where the code stands, is the whole written.
use Rattle.std.proofs.Common.{◌≡◌, ◌≤◌, length}
use Rattle.spec.specs.Header.{block_position}
use Rattle.index.specs.Walk as walk
use Rattle.pack.proofs.Laws.{Underway}
use Rattle.pack.proofs.write_runs.Given as goal

abbrev pub invariant-loop-element : goal.invariant-loop-element
invariant-loop-element l =
    (length l.image ≡ length l.initial.image) × (block_position l.extended l.m l.b ≤ length l.image)
    × Underway l.width l.fn.form.order l.extended (walk.elements l.elements) l.area.bytes.now l.area.blocks l.front l.m l.initial.image l.image
    (walk.elements l.element-iterator) l.out l.b
