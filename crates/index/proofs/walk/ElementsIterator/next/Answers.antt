-- An iterator over elements gives the first of those left, and ends with the last.
use native.Mathlib.Omega.{arith}
use Prim.Native.Nat.{◌+◌, ◌-◌}
use Rattle.spec.specs.Bytes as Bytes
use Rattle.index.proofs.Laws.{elements_none_left, element_given, elements_count}
use Rattle.index.proofs.walk.ElementsIterator.next.Goals as goal

pub returns-then-self-eq0-clause-steps : goal.returns-then-self-eq0-clause-steps
returns-then-self-eq0-clause-steps c =
    let s = c.args.self.now in
    let none = elements_none_left s.width s.index.now s.at s.left (omega arith) in
    (none, none)

pub returns-clause-steps : goal.returns-clause-steps
unfolding Bytes.bytes_at
returns-clause-steps c =
    let s = c.args.self.now in
    element_given s.width s.index.now s.at s.left _ _ (omega arith) c.element_end-end.ensures.value c.read_number-number.ensures.value

pub returns-clause-goes : goal.returns-clause-goes
returns-clause-goes c =
    let s = c.args.self.now in
    let before = elements_count s.width s.index.now s.at s.left in
    let after = elements_count s.width s.index.now (c.element_end-end.result + 1) (s.left - 1) in
    record { on = λ f. (tt, f, omega (arith, before, after)); keeps = tt; rests = λ f. tt }
