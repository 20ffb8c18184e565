-- `put_code` meets its contract.
use mathlib.Core.Path.{sym}
use lib.Seq.{set_out}
use Rattle.script.proofs.put_code.Goals as goal

pub returns-else-n-codes : goal.returns-else-n-codes
returns-else-n-codes c = sym (search set_out)
