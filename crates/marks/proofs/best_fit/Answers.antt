-- `best_fit` meets its contract.
use native.Mathlib.Omega.{arith}
use borrow.Author.Rules.{rules}
use borrow.Author.Tests.{leb-true, leb-false}
use Rattle.marks.proofs.Fit.{fit_start, fit_take, fit_short, fit_long, fit_end, fit_exact, fit_less}
use Rattle.marks.proofs.best_fit.Goals as goal
use Rattle.marks.proofs.best_fit.Goals.{else-n-size-via-then-n-size+else-size-limit, else-n-size-via-else-n-size}

pub loop-from-init : goal.loop-from-init
loop-from-init c = (omega arith, omega arith, search (fit_start, rules))

pub loop-from-smaller-then-size-limit : goal.loop-from-smaller-then-size-limit
loop-from-smaller-then-size-limit c = search (fit_less, rules)

pub loop-from-preserved-then-size-limit : goal.loop-from-preserved-then-size-limit
loop-from-preserved-then-size-limit c = (omega arith, omega arith, search (fit_take, leb-true, rules))

pub loop-from-smaller : goal.loop-from-smaller
loop-from-smaller c = search (fit_less, rules)

pub loop-from-preserved : goal.loop-from-preserved
loop-from-preserved c = (
  omega arith,
  omega arith,
  elim c.else-n-size.branch [
    | else-n-size-via-then-n-size+else-size-limit w ↦ search (fit_long, rules)
    | else-n-size-via-else-n-size w ↦ search (fit_short, rules)
  ],
)

pub returns-else-n-limit : goal.returns-else-n-limit
returns-else-n-limit c = (search (fit_exact, leb-false, rules), omega arith)

pub returns-after-loop-from : goal.returns-after-loop-from
returns-after-loop-from c = (search (fit_end, rules), omega arith)
