-- Cases of our own for part lists and the step through them (document 02, F-5): rows with literal bytes and literal answers.
use Rattle.std.specs.Prelude.{ℕ, List, [], ◌∷◌, ◌++◌, length, T}
use Rattle.std.proofs.Math.Option.{Option, none, some}
use Rattle.std.specs.Prelude.{Some, None, Ok, Err}
use Rattle.spec.specs.declared.Refusal.{Refusal}
use Rattle.spec.specs.Outcome.{Outcome, refused, ok}
use Rattle.spec.specs.Lists.{all}
use Rattle.spec.specs.PartList.{EntryPart, PartAt, parts_from, part_step}
use Rattle.spec.specs.Answers.{part_step_answer}
use Rattle.spec.specs.Play.{t, refusal}
use Rattle.spec.specs.Cases.{Case, gives, case_holds}

-- parts as numbers: the kind and the length of each
unfoldable pub told_kinds : List EntryPart → List ℕ
told_kinds [] = []
told_kinds (p ∷ ps) = p.kind ∷ length p.bytes ∷ told_kinds ps

-- a list that is read, as numbers, or its refusal
unfoldable pub told_list : Outcome (List EntryPart) → List ℕ
told_list (refused n) = refusal n
told_list (ok ps) = told_kinds ps

-- a step's kind, place, length and next offset, its refusal, or nothing at the end
unfoldable pub told_part : Outcome (Option PartAt) → List ℕ
told_part (refused n) = refusal n
told_part (ok none) = []
told_part (ok (some f)) = f.kind ∷ f.place ∷ f.part_length ∷ f.next ∷ []

-- a slice is read as these kinds and lengths
unfoldable pub reads : List ℕ → List ℕ → Case
reads s told = gives (told_list (parts_from s)) told

-- a slice is no list: it is refused by 16
unfoldable pub no_list : List ℕ → Case
no_list s = reads s (refusal 16)

-- in a slice the step at an offset answers so
unfoldable pub steps : List ℕ → ℕ → List ℕ → Case
steps s offset told = gives (told_part (part_step s offset)) told

-- a pronunciation and an example, and where they stand: 0 to 2 and 3 to 6, the end at 7
unfoldable pub two_parts : List ℕ
two_parts = 0x02 ∷ 0x61 ∷ 0 ∷ 0x01 ∷ 0x62 ∷ 0x63 ∷ 0 ∷ 0x80 ∷ []

-- all rows
unfoldable pub part_cases : List Case
part_cases =
    -- "A list has one or two parts, each kind at most once, in either order"; a part may be empty
    no_list []
    ∷ no_list (0x80 ∷ [])
    ∷ reads (0x01 ∷ 0 ∷ 0x80 ∷ []) (1 ∷ 0 ∷ [])
    ∷ reads (0x01 ∷ 0 ∷ 0x02 ∷ 0 ∷ 0x80 ∷ []) (1 ∷ 0 ∷ 2 ∷ 0 ∷ [])
    ∷ reads (0x02 ∷ 0 ∷ 0x01 ∷ 0 ∷ 0x80 ∷ []) (2 ∷ 0 ∷ 1 ∷ 0 ∷ [])
    ∷ no_list (0x01 ∷ 0 ∷ 0x01 ∷ 0 ∷ 0x80 ∷ [])
    ∷ no_list (0x02 ∷ 0 ∷ 0x02 ∷ 0 ∷ 0x80 ∷ [])
    ∷ no_list (0x01 ∷ 0 ∷ 0x02 ∷ 0 ∷ 0x01 ∷ 0 ∷ 0x80 ∷ [])
    -- other kinds; 0x80 is a byte like others inside a part
    ∷ no_list (0 ∷ 0 ∷ 0x80 ∷ [])
    ∷ no_list (0x03 ∷ 0 ∷ 0x80 ∷ [])
    ∷ no_list (0x81 ∷ 0 ∷ 0x80 ∷ [])
    ∷ reads (0x01 ∷ 0x80 ∷ 0 ∷ 0x80 ∷ []) (1 ∷ 1 ∷ [])
    -- "a zero; 0x80 ends the list and the field": no zero, no end, another end, a byte behind the end
    ∷ no_list (0x01 ∷ 0x61 ∷ 0x80 ∷ [])
    ∷ no_list (0x01 ∷ 0 ∷ [])
    ∷ no_list (0x01 ∷ 0 ∷ 0x02 ∷ 0 ∷ [])
    ∷ no_list (0x01 ∷ 0 ∷ 0x02 ∷ 0 ∷ 0x81 ∷ [])
    ∷ no_list (0x01 ∷ 0 ∷ 0x80 ∷ 0 ∷ [])
    ∷ no_list (0x01 ∷ 0 ∷ 0x02 ∷ 0 ∷ 0x80 ∷ 0 ∷ [])
    -- "0x01 example, up to 20,000 bytes; 0x02 pronunciation, up to 1,000"
    ∷ reads (0x01 ∷ t 20_000 ++ 0 ∷ 0x02 ∷ t 1_000 ++ 0 ∷ 0x80 ∷ []) (1 ∷ 20_000 ∷ 2 ∷ 1_000 ∷ [])
    ∷ no_list (0x01 ∷ t 20_001 ++ 0 ∷ 0x80 ∷ [])
    ∷ no_list (0x02 ∷ t 1_001 ++ 0 ∷ 0x80 ∷ [])
    -- "the kind of the part there, place in the list and length of its bytes, and the next offset, or the end"
    ∷ steps two_parts 0 (2 ∷ 1 ∷ 1 ∷ 3 ∷ [])
    ∷ steps two_parts 1 (refusal 16)
    ∷ steps two_parts 2 (refusal 16)
    ∷ steps two_parts 3 (1 ∷ 4 ∷ 2 ∷ 7 ∷ [])
    ∷ steps two_parts 4 (refusal 16)
    ∷ steps two_parts 6 (refusal 16)
    ∷ steps two_parts 7 []
    ∷ steps two_parts 8 (refusal 16)
    ∷ steps two_parts 0xFFFFFFFFFFFFFFFF (refusal 16)
    ∷ steps (0x01 ∷ 0 ∷ 0x80 ∷ []) 0 (1 ∷ 1 ∷ 0 ∷ 2 ∷ [])
    ∷ steps (0x01 ∷ 0 ∷ 0x80 ∷ []) 1 (refusal 16)
    ∷ steps (0x01 ∷ 0 ∷ 0x80 ∷ []) 2 []
    -- "a slice that is not exactly one list by these rules" has no step, at no offset
    ∷ steps [] 0 (refusal 16)
    ∷ steps (0x80 ∷ []) 0 (refusal 16)
    ∷ steps (two_parts ++ 0 ∷ []) 0 (refusal 16)
    ∷ steps (two_parts ++ 0 ∷ []) 7 (refusal 16)
    -- the engine's answers
    ∷ gives (told_part (part_step_answer (Ok (Some (record { kind = 1; place = 2; part_length = 3; next = 4 })))) ++ told_part (part_step_answer (Ok None))
    ++ told_part (part_step_answer (Err Refusal.BadParts))) (1 ∷ 2 ∷ 3 ∷ 4 ∷ 0 ∷ 16 ∷ [])
    ∷ []

-- THE THEOREM: every row holds
unfoldable pub PartCasesHold : Type 0
PartCasesHold = T (all case_holds part_cases)

-- names all definitions of this module: who unfolds it unfolds them
unfoldable pub open_part_cases : Unit {0}
unfolding told_kinds told_list told_part reads no_list steps two_parts part_cases PartCasesHold
open_part_cases = tt
