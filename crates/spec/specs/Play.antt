-- Short histories of calls for the tables of examples: a slice after create and some steps, and what is told of it as numbers.
use Rattle.std.specs.Prelude.{ℕ, List, [], ◌∷◌, map, replicate}
use Rattle.std.proofs.Math.Option.{Option, none, some}
use Rattle.spec.specs.Outcome.{Outcome, refused, ok}
use Rattle.spec.specs.Bytes.{write}
use Rattle.spec.specs.Entry.{Entry, entry_of}
use Rattle.spec.specs.Check.{Image}
use Rattle.spec.specs.Calls.{ChangeResult, Figures, FoundText, FoundEntry, create, insert, delete, optimise}
use Rattle.spec.specs.Claim.{new_length, new_length_or}
use Rattle.spec.specs.declared.NewFile.{NewFile}

-- "Text of n letters is written t(n)": letters a
unfoldable pub t : ℕ → List ℕ
t n = replicate n 97

-- "attributes are 128"
unfoldable pub entry : List ℕ → List ℕ → Entry
entry h x = entry_of h 128 x

-- a step of an example: a changing call, or bytes that another program stores in the slice
pub data Step : Type 0 where
  -- headword, attribute, text
  ins_as : List ℕ → ℕ → List ℕ → Step
  del : List ℕ → Step
  opt : Step
  -- offset, bytes
  store : ℕ → List ℕ → Step

-- an insertion with the attribute 128
unfoldable pub ins : List ℕ → List ℕ → Step
ins h x = ins_as h 128 x

-- a slice with an image in it, the image's L, the last answer as numbers, and the working slice of the last changing call
pub record State : Type 0 where
  pub slice : List ℕ
  pub L : ℕ
  pub told : List ℕ
  pub work : List ℕ

-- a refusal as numbers: no other answer begins with 0, but a check's of an image with no headword, which has four
unfoldable pub refusal : ℕ → List ℕ
refusal n = 0 ∷ n ∷ []

-- an answer that is a length, as numbers: the new L
unfoldable pub told_length : Outcome ℕ → List ℕ
told_length (refused n) = refusal n
told_length (ok n) = n ∷ []

-- the same for a deletion; nothing where it is absent
unfoldable pub told_removed : Outcome (Option ℕ) → List ℕ
told_removed (refused n) = refusal n
told_removed (ok none) = []
told_removed (ok (some n)) = n ∷ []

-- a check's four numbers, or its refusal
unfoldable pub told_figures : Outcome Figures → List ℕ
told_figures (refused n) = refusal n
told_figures (ok c) = c.headwords ∷ c.index_blocks ∷ c.data_blocks ∷ c.free_blocks ∷ []

-- a look up's attribute and text length, its refusal, or nothing where it is absent
unfoldable pub told_text : Outcome (Option FoundText) → List ℕ
told_text (refused n) = refusal n
told_text (ok none) = []
told_text (ok (some f)) = f.attribute ∷ f.text_length ∷ []

-- a walk's attribute, headword length and text length, its refusal, or nothing where it is absent
unfoldable pub told_entry : Outcome (Option FoundEntry) → List ℕ
told_entry (refused n) = refusal n
told_entry (ok none) = []
told_entry (ok (some f)) = f.attribute ∷ f.headword_length ∷ f.text_length ∷ []

-- the state after a change by its result
unfoldable pub after_change : ℕ → ChangeResult ℕ → State
after_change L r = record { slice = r.image; L = new_length L r.answer; told = told_length r.answer; work = r.work }

-- the same for a deletion
unfoldable pub after_delete : ℕ → ChangeResult (Option ℕ) → State
after_delete L r = record { slice = r.image; L = new_length_or L r.answer; told = told_removed r.answer; work = r.work }

-- the state after a step with a working slice
unfoldable pub step_with : List ℕ → State → Step → State
step_with work q (ins_as h a x) = after_change q.L (insert q.slice q.L work h a x)
step_with work q (del h) = after_delete q.L (delete q.slice q.L work h)
step_with work q opt = after_change q.L (optimise q.slice q.L work)
step_with work q (store i x) = record { slice = write i x q.slice; L = q.L; told = []; work = [] }

-- the state after a step; the image slice serves as the working slice too, whose contents do not matter
unfoldable pub step : State → Step → State
step q c = step_with q.slice q c

-- the state after all steps
unfoldable pub play : State → List Step → State
play q [] = q
play q (c ∷ cs) = play (step q c) cs

-- n bytes 0xAA: slices that were not cleared
unfoldable pub lent : ℕ → List ℕ
lent n = replicate n 0xAA

-- a new file of version 4; what is given as its identifier is not looked at
unfoldable pub file4 : NewFile
file4 = record { version = 4; identifier = 0xFFFFFFFFFFFFFFFF }

-- a new file of version 5
unfoldable pub file5 : NewFile
file5 = record { version = 5; identifier = 0x8877665544332211 }

-- "From empty": a slice of n bytes after create
unfoldable pub empty : NewFile → ℕ → State
empty k n = let r = create (lent n) k in record { slice = r.image; L = new_length 0 r.answer; told = told_length r.answer; work = [] }

-- an image's index blocks
unfoldable pub index_blocks_of : Outcome Image → ℕ
index_blocks_of (refused n) = 0
index_blocks_of (ok i) = i.frame.index_blocks

-- the first blocks of an image's runs
unfoldable pub runs_at : Outcome Image → List ℕ
runs_at (refused n) = []
runs_at (ok i) = map (λ r. r.block) i.runs

-- an image's free list
unfoldable pub free_at : Outcome Image → List ℕ
free_at (refused n) = []
free_at (ok i) = i.free_list

-- names all definitions of this module: who unfolds it unfolds them
unfoldable pub open_play : Unit {0}
unfolding t entry ins refusal told_length told_removed told_figures told_text told_entry after_change after_delete step_with step play lent file4 file5 empty index_blocks_of runs_at free_at
open_play = tt
