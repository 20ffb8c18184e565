-- Step 2 of the placing as document 01 words it, beside `cut`, which computes it.
use Rattle.std.specs.Prelude.{ℕ, ◌<◌, ◌≤◌, ◌≡◌, ◌⊎◌, List, [], ◌∷◌, ◌++◌, length}
use Rattle.spec.specs.Entry.{Entry}
use Rattle.spec.specs.Run.{encoded_size}
use Rattle.spec.specs.Place.{cut}

-- "entries … encode in 1,024 bytes, count and end marks included. An entry too large for that stands alone."
pub record IsPart (limit : ℕ) (p : List Entry) : Type 0 where
  pub some_entry : 1 ≤ length p
  pub fits : (encoded_size p ≤ limit) ⊎ (length p ≡ 1)

-- "as many entries as encode in 1,024 bytes": with the first entry of the next part it would pass the limit
pub record IsFull (limit : ℕ) (p q : List Entry) : Type 0 where
  pub next : Entry
  pub others : List Entry
  pub begins : q ≡ next ∷ others
  pub passes : limit < encoded_size (p ++ next ∷ [])

-- "The list is cut from the left: each part takes as many entries as encode in 1,024 bytes": a list of such parts
unfoldable pub IsCut : ℕ → List (List Entry) → Type 0
IsCut limit [] = Unit {0}
IsCut limit (p ∷ []) = IsPart limit p
IsCut limit (p ∷ q ∷ ps) = IsPart limit p × IsFull limit p q × IsCut limit (q ∷ ps)

-- parts one after the other
unfoldable pub joined_parts : List (List Entry) → List Entry
joined_parts [] = []
joined_parts (p ∷ ps) = p ++ joined_parts ps

-- `cut` gives such parts, and no entry is lost
unfoldable pub CutIsCut : Type 0
CutIsCut = (limit : ℕ) (es : List Entry) → (joined_parts (cut limit es) ≡ es) × IsCut limit (cut limit es)

-- no other cut of the list is such a cut
unfoldable pub OneCut : Type 0
OneCut = (limit : ℕ) (ps qs : List (List Entry)) → IsCut limit ps → IsCut limit qs → joined_parts ps ≡ joined_parts qs → ps ≡ qs

-- names all definitions of this module: who unfolds it unfolds them
unfoldable pub open_cut_form : Unit {0}
unfolding IsCut joined_parts CutIsCut OneCut
open_cut_form = tt
