-- What is left, written where the code stands, is the whole written.
use Rattle.std.proofs.Common.{◌≡◌, ◌+◌, length}
use Rattle.spec.specs.Bytes.{write}
use Rattle.index.specs.Walk as walk
use Rattle.elements.proofs.Laws.{renewed_bytes, room}
use Rattle.elements.proofs.copy_elements.Given as goal

abbrev pub invariant-loop-element : goal.invariant-loop-element
invariant-loop-element l =
    (l.out + room l.width (walk.elements l.element-iterator) ≡ l.at + room l.width (walk.elements l.elements))
    × (write l.out (renewed_bytes l.width l.numbers (length l.numbers) (walk.elements l.element-iterator)) l.dst
    ≡ write l.at (renewed_bytes l.width l.numbers (length l.numbers) (walk.elements l.elements)) l.initial.dst)
