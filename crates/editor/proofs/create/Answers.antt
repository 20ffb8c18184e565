-- `create` meets its contract.
use mathlib.Core.Path.{sym}
use Rattle.editor.proofs.Rows.{create_short, create_unknown, create_done}
use Rattle.editor.proofs.create.Goals as goal

pub returns-then-image-lt-HEADER : goal.returns-then-image-lt-HEADER
returns-then-image-lt-HEADER c = search create_short

pub returns-then-not-known_version : goal.returns-then-not-known_version
returns-then-not-known_version c = create_unknown _ c.args.new c.if-image-lt-HEADER.false _ c.from.ensures (sym c.if-not-known_version.ensures)

pub returns : goal.returns
returns c = create_done _ c.args.new c.if-image-lt-HEADER.false _ c.from.ensures (sym c.if-not-known_version.ensures) _ c.write_empty.ensures.s_after
