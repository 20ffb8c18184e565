-- `words_after` meets its contract.
use Prim.Native.Nat.{ℕ, ◌+◌}
use mathlib.Core.Path.{◌≡◌}
use mathlib.Core.Bool.{Bool, true, false, not}
use native.Mathlib.Omega.{arith}
use mir.Val.{bool_byte}
use Rattle.editor.specs.Entered as Entered
use Rattle.editor.specs.Entered.{words_after}
use Rattle.editor.proofs.words_after.Goals as goal

-- one more, unless one is replaced
counted : (words r : ℕ) (b : Bool) → r ≡ bool_byte (not b) → words + r ≡ words_after words b
unfolding Entered.words_after
counted words r true e = omega arith
counted words r false e = omega arith

pub returns : goal.returns
returns c = counted _ _ _ c.from.ensures
