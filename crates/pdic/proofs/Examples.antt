-- The table of the calls from C holds, by computation.
use Rattle.spec.specs.Lists.{open_lists}
use Rattle.spec.specs.Bytes.{open_bytes}
use Rattle.spec.specs.Answers.{open_answers}
use Rattle.pdic.specs.Lent.{open_lent}
use Rattle.pdic.specs.Examples.{open_examples, LentHold}

-- every call, done or found, absent, and refused
pub lent_hold : LentHold
unfolding open_lists open_bytes open_answers open_lent open_examples
lent_hold = tt
