-- `set_range` meets its contract.
use Rattle.std.proofs.Common.{rules, arith}
use Rattle.std.proofs.lemmas.List.{length-set, set-get_or}
use Rattle.marks.proofs.Laws.{range_turn, range_end}
use Rattle.marks.proofs.set_range.Goals as goal

pub loop-w-preserved : goal.loop-w-preserved
loop-w-preserved c = (omega arith, simp length-set (omega arith), search (range_turn, rules))

pub returns-then-left-eq0 : goal.returns-then-left-eq0
returns-then-left-eq0 c = rw set-get_or (search (range_end, rules))

pub returns : goal.returns
returns c = search (range_end, rules)
