-- `next` meets its contract.
use Rattle.std.proofs.Common.{◌≡◌, ◌*◌, max}
use Rattle.marks.specs.Marks.{marks, next}
use Rattle.marks.proofs.next.Given as goal

abbrev pub invariant-loop-q : goal.invariant-loop-q
invariant-loop-q l = next l.v (marks l.ws) (max l.from (64 * l.q)) ≡ next l.v (marks l.ws) l.from
