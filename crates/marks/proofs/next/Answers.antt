-- `next` meets its contract.
use Rattle.std.proofs.Common.{rules, arith}
use Rattle.marks.proofs.Laws.{next_near, next_found, next_on, next_end}
use Rattle.marks.proofs.next.Goals as goal

pub overflow_add-p : goal.overflow_add-p
overflow_add-p c = search (next_near, rules)

pub returns-then-u-ne0 : goal.returns-then-u-ne0
returns-then-u-ne0 c = (search (next_found, rules), omega arith, omega arith)

pub loop-q-preserved : goal.loop-q-preserved
loop-q-preserved c = search (next_on, rules)

pub returns : goal.returns
returns c = (search (next_end, rules), omega arith, omega arith)
