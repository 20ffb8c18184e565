-- What reading a free list tells of it.
use Rattle.std.specs.Prelude.{ℕ, ◌≡◌, Bool, true, false, List, [], ◌∷◌, length, set, eqb}
use Rattle.spec.specs.Outcome.{Outcome, refused, ok}

-- whether a list was read, of n numbers
unfoldable pub has_length : ℕ → Outcome (List ℕ) → Bool
has_length n (refused k) = false
has_length n (ok fl) = eqb (length fl) n

-- the marks with those of the blocks of a list set
unfoldable pub with_marks : List ℕ → List Bool → List Bool
with_marks [] ms = ms
with_marks (b ∷ bs) ms = with_marks bs (set ms b true)

-- the marks after are those before with the blocks of the list that was read set
abbrev pub Marked : Outcome (List ℕ) → List Bool → List Bool → Type 0
Marked o before after = (fl : List ℕ) → o ≡ ok fl → after ≡ with_marks fl before
