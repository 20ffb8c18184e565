-- `next_turn` meets its contract.
use Rattle.parts.proofs.Laws.{last_new, last_done, below_old, same_skip, above_new, above_old}
use Rattle.parts.proofs.next_turn.Goals as goal

pub returns-then-cursor : goal.returns-then-cursor
returns-then-cursor c = search last_new

pub returns-else-cursor : goal.returns-else-cursor
returns-else-cursor c = search last_done

pub returns-in-Less : goal.returns-in-Less
returns-in-Less c = search below_old

pub returns-in-Equal : goal.returns-in-Equal
returns-in-Equal c = search same_skip

pub returns-in-Greater : goal.returns-in-Greater
returns-in-Greater c = search above_new

pub returns-in-Greater-2 : goal.returns-in-Greater-2
returns-in-Greater-2 c = search above_old
