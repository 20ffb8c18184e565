-- How many entries there are after an insertion.
use Rattle.std.specs.Prelude.{ℕ, suc, Bool, true, false}

-- how many entries there are after an insertion that replaces one or not
unfoldable pub words_after : ℕ → Bool → ℕ
words_after words true = words
words_after words false = suc words

-- names all definitions of this module: who unfolds it unfolds them
unfoldable pub open_entered : Unit {0}
unfolding words_after
open_entered = tt
