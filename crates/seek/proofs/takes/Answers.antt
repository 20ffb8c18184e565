use Rattle.std.proofs.Common.{sym}
use borrow.Author.Tests.{eqb-true, eqb-false}
use Rattle.seek.proofs.Returns.{takes_empty, takes_above, takes_from}
use Rattle.seek.proofs.takes.Goals as goal

pub returns-then-is_empty : goal.returns-then-is_empty
returns-then-is_empty c = takes_empty _ _ _ _ (eqb-true _ _ (sym c.if-is_empty.ensures))

pub returns-then-above : goal.returns-then-above
returns-then-above c = takes_above _ _ _ _ (eqb-false _ _ (sym c.if-is_empty.ensures)) _ c.if-above.true c.is_below.ensures

pub returns : goal.returns
returns c = takes_from _ _ _ _ (eqb-false _ _ (sym c.if-is_empty.ensures)) _ c.if-above.false c.is_below-2.ensures
