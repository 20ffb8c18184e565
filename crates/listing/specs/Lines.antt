-- The lines of the printed list by the numbers that stand in them.
use Rattle.std.specs.Prelude.{ℕ, suc, ◌+◌, ◌≡◌, true, false, List, [], ◌∷◌, ◌++◌, length, drop, ltb}
use Rattle.spec.specs.Order.{HeadwordOrder}
use Rattle.spec.specs.Outcome.{ok}
use Rattle.spec.specs.Bytes.{write}
use Rattle.spec.specs.Run.{Run, entries_from}
use Rattle.spec.specs.Check.{Image, image_from}
use Rattle.spec.specs.Calls.{Figures, figures}
use Rattle.spec.specs.Listing.{column, line, entry_lines, run_lines, listing}
use Rattle.inspect.specs.Overview.{AcceptedImage}
use Rattle.inspect.specs.declared.Overview.{Overview}
use Rattle.listing.specs.declared.Printed.{Printed}
use Rattle.listing.specs.declared.Fields.{Fields}

-- the numbers of an entry's line in their columns
unfoldable pub entry_numbers : Fields → List ℕ
entry_numbers f = column 6 f.ordinal ++ column 6 f.block ++ column 6 f.blocks ++ column 4 f.attribute ++ column 6 f.text

-- the line, by these and the headword
unfoldable pub fields_line : Fields → List ℕ → List ℕ
fields_line f h = line (entry_numbers f ++ 32 ∷ h)

-- four numbers: headwords, index blocks, data blocks, free blocks
abbrev pub numbers : ℕ → ℕ → ℕ → ℕ → Figures
numbers h i d f = record { headwords = h; index_blocks = i; data_blocks = d; free_blocks = f }

-- the lines of the run of n blocks at block b, whose bytes these are, the first with the ordinal k, stand in out' from `start` on;
-- the answer says where they end, and which ordinal is next
abbrev pub RunPrinted : HeadwordOrder → ℕ → ℕ → List ℕ → ℕ → ℕ → List ℕ → List ℕ → Printed → Type 0
RunPrinted below b n run k start out out' p =
    (r : Run) → r.block ≡ b → r.size ≡ n → entries_from below (suc (length run)) [] (drop 2 run) ≡ ok r.entries
    → (out' ≡ write start (entry_lines k r r.entries) out) × (p.at ≡ start + length (entry_lines k r r.entries)) × (p.next ≡ k + length r.entries)

-- the lines of the runs of the image s, the first with the ordinal 1, stand in out' from `start` up to `end`
abbrev pub AllPrinted : List ℕ → ℕ → List ℕ → List ℕ → ℕ → Type 0
AllPrinted s start out out' end = (i : Image) → image_from s ≡ ok i → (out' ≡ write start (run_lines 1 i.runs) out) × (end ≡ start + length (run_lines 1 i.runs))

-- an accepted image, of which v tells, with so many free blocks: its four numbers
abbrev pub Accepted : List ℕ → Overview → ℕ → Type 0
Accepted s v free = (a : AcceptedImage s v) × (figures a.image ≡ numbers v.words v.n v.d free)

-- what is stored for an input in a slice: its list, if the slice has the 4,000,000 bytes that the longest may take, else nothing
unfoldable pub listed : List ℕ → List ℕ → List ℕ
listed s out = elim (ltb (length out) 4_000_000) [ true ↦ [] | false ↦ listing s ]

-- names all definitions of this module: who unfolds it unfolds them
unfoldable pub open_lines : Unit {0}
unfolding entry_numbers fields_line listed
open_lines = tt
