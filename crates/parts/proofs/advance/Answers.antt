-- `advance` meets its contract.
use Rattle.parts.proofs.Laws.{read_ahead, read_cursor}
use Rattle.parts.proofs.advance.Goals as goal

pub returns-clause-result_after : goal.returns-clause-result_after
returns-clause-result_after c = search read_ahead

pub returns-clause-cursor_ok : goal.returns-clause-cursor_ok
returns-clause-cursor_ok c = search read_cursor
