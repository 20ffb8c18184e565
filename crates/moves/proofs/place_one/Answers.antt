-- `place_one` meets its contract.
use Rattle.std.proofs.Common.{rules}
use Rattle.moves.proofs.Laws.{place_none_end, place_none_free, place_none_table, place_last, place_free, place_table}
use Rattle.moves.proofs.place_one.Goals as goal

pub returns-then-numbers-b-eq0-clause-value : goal.returns-then-numbers-b-eq0-clause-value
returns-then-numbers-b-eq0-clause-value c = search (place_none_end, rules)

pub returns-then-numbers-b-eq0-clause-free_after : goal.returns-then-numbers-b-eq0-clause-free_after
returns-then-numbers-b-eq0-clause-free_after c = search (place_none_free, rules)

pub returns-then-numbers-b-eq0-clause-numbers_after : goal.returns-then-numbers-b-eq0-clause-numbers_after
returns-then-numbers-b-eq0-clause-numbers_after c = search (place_none_table, rules)

pub returns-clause-value : goal.returns-clause-value
returns-clause-value c = search (place_last, rules)

pub returns-clause-free_after : goal.returns-clause-free_after
returns-clause-free_after c = search (place_free, rules)

pub returns-clause-numbers_after : goal.returns-clause-numbers_after
returns-clause-numbers_after c = search (place_table, rules)
