-- `place_moved` meets its contract.
use Rattle.std.proofs.Common.{rules, arith}
use Rattle.moves.proofs.Laws.{place_turn, place_over, place_end}
use Rattle.moves.proofs.place_moved.Goals as goal

pub returns-then-limit-last-clause-within : goal.returns-then-limit-last-clause-within
returns-then-limit-last-clause-within c = (λ h. absurd (omega arith), λ h. search (place_over, rules))

pub loop-b-preserved : goal.loop-b-preserved
loop-b-preserved c = (omega arith, omega arith, search (place_turn, rules))

pub returns-clause-within : goal.returns-clause-within
returns-clause-within c =
    let r = place_end _ _ _ _ _ _ _ _ _ _ c.loop-b.invariant.2 c.loop-b-test.false in
    (λ h. (r.0, r.1), λ h. absurd (omega arith))

pub returns-clause-numbers_after : goal.returns-clause-numbers_after
returns-clause-numbers_after c = λ h. (place_end _ _ _ _ _ _ _ _ _ _ c.loop-b.invariant.2 c.loop-b-test.false).2
