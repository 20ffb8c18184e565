-- The calls from C with literal numbers: every number lent and every number answered is another one, so that no two of them can change places.
use Rattle.std.specs.Prelude.{ℕ, Bool, List, [], ◌∷◌, ◌++◌, T, Some, None, Ok, Err}
use Rattle.spec.specs.Lists.{all}
use Rattle.spec.specs.Bytes.{bytes_equal}
use Rattle.spec.specs.Answers.{length_answer, check_answer, look_up_answer, walk_answer, delete_answer}
use Rattle.spec.specs.declared.Refusal.{Refusal}
use Rattle.pdic.specs.Lent.{CreateLent, CheckLent, LookUpLent, WalkLent, ChangeLent, create_lent, check_lent, look_up_lent, walk_lent, change_lent, delete_lent}

-- create: the number returned, *new_len, image
unfoldable pub seen_create : CreateLent → List ℕ
seen_create l = l.returned ∷ l.new_length ∷ l.image

-- check: the number returned, *headwords, *index_blocks, *data_blocks, *free_blocks
unfoldable pub seen_check : CheckLent → List ℕ
seen_check l = l.returned ∷ l.headwords ∷ l.index_blocks ∷ l.data_blocks ∷ l.free_blocks ∷ []

-- look up: the number returned, *attribute, *text_len, text
unfoldable pub seen_look_up : LookUpLent → List ℕ
seen_look_up l = l.returned ∷ l.attribute ∷ l.text_length ∷ l.text

-- walk: the number returned, *attribute, *headword_len, *text_len, headword_out, text
unfoldable pub seen_walk : WalkLent → List ℕ
seen_walk l = l.returned ∷ l.attribute ∷ l.headword_length ∷ l.text_length ∷ l.headword ++ l.text

-- insert, delete, optimise: the number returned, *new_len, image, working slice
unfoldable pub seen_change : ChangeLent → List ℕ
seen_change l = l.returned ∷ l.new_length ∷ l.image ++ l.work

-- create: done, refused
unfoldable pub create_rows : List Bool
create_rows =
    bytes_equal (seen_create (create_lent (record { answer = length_answer (Ok 256); image = 1 ∷ 2 ∷ [] }) 70)) (0 ∷ 256 ∷ 1 ∷ 2 ∷ [])
    ∷ bytes_equal (seen_create (create_lent (record { answer = length_answer (Err Refusal.BadLength); image = 1 ∷ 2 ∷ [] }) 70)) (1 ∷ 70 ∷ 1 ∷ 2 ∷ [])
    ∷ []

-- check: counted, refused
unfoldable pub check_rows : List Bool
check_rows =
    bytes_equal (seen_check (check_lent (check_answer (Ok (record { headwords = 11; index_blocks = 12; data_blocks = 13; free_blocks = 14 }))) 71 72 73 74)) (0 ∷ 11 ∷ 12 ∷ 13 ∷ 14 ∷ [])
    ∷ bytes_equal (seen_check (check_lent (check_answer (Err Refusal.BadBlocks)) 71 72 73 74)) (9 ∷ 71 ∷ 72 ∷ 73 ∷ 74 ∷ [])
    ∷ []

-- look up: found, absent, refused
unfoldable pub look_up_rows : List Bool
look_up_rows =
    bytes_equal (seen_look_up (look_up_lent (record { answer = look_up_answer (Ok (Some (record { attribute = 128; text_length = 3 }))); text = 4 ∷ 5 ∷ [] }) 71 72)) (0 ∷ 128 ∷ 3 ∷ 4 ∷ 5 ∷ [])
    ∷ bytes_equal (seen_look_up (look_up_lent (record { answer = look_up_answer (Ok None); text = 4 ∷ 5 ∷ [] }) 71 72)) (100 ∷ 71 ∷ 72 ∷ 4 ∷ 5 ∷ [])
    ∷ bytes_equal (seen_look_up (look_up_lent (record { answer = look_up_answer (Err Refusal.ShortOutput); text = 4 ∷ 5 ∷ [] }) 71 72)) (14 ∷ 71 ∷ 72 ∷ 4 ∷ 5 ∷ [])
    ∷ []

-- walk: found, absent, refused
unfoldable pub walk_rows : List Bool
walk_rows =
    bytes_equal
    (seen_walk (walk_lent (record { answer = walk_answer (Ok (Some (record { attribute = 128; headword_length = 2; text_length = 3 }))); headword = 4 ∷ 5 ∷ []; text = 6 ∷ 7 ∷ [] }) 71 72 73))
    (0 ∷ 128 ∷ 2 ∷ 3 ∷ 4 ∷ 5 ∷ 6 ∷ 7 ∷ [])
    ∷ bytes_equal (seen_walk (walk_lent (record { answer = walk_answer (Ok None); headword = 4 ∷ 5 ∷ []; text = 6 ∷ 7 ∷ [] }) 71 72 73)) (100 ∷ 71 ∷ 72 ∷ 73 ∷ 4 ∷ 5 ∷ 6 ∷ 7 ∷ [])
    ∷ bytes_equal (seen_walk (walk_lent (record { answer = walk_answer (Err Refusal.BadHeadword); headword = 4 ∷ 5 ∷ []; text = 6 ∷ 7 ∷ [] }) 71 72 73)) (12 ∷ 71 ∷ 72 ∷ 73 ∷ 4 ∷ 5 ∷ 6 ∷ 7 ∷ [])
    ∷ []

-- insert: done, refused
unfoldable pub insert_rows : List Bool
insert_rows =
    bytes_equal (seen_change (change_lent (record { answer = length_answer (Ok 768); image = 1 ∷ 2 ∷ []; work = 3 ∷ 4 ∷ [] }) 70)) (0 ∷ 768 ∷ 1 ∷ 2 ∷ 3 ∷ 4 ∷ [])
    ∷ bytes_equal (seen_change (change_lent (record { answer = length_answer (Err Refusal.BadText); image = 1 ∷ 2 ∷ []; work = 3 ∷ 4 ∷ [] }) 70)) (13 ∷ 70 ∷ 1 ∷ 2 ∷ 3 ∷ 4 ∷ [])
    ∷ []

-- delete: removed, absent, refused
unfoldable pub delete_rows : List Bool
delete_rows =
    bytes_equal (seen_change (delete_lent (record { answer = delete_answer (Ok (Some 512)); image = 1 ∷ 2 ∷ []; work = 3 ∷ 4 ∷ [] }) 70)) (0 ∷ 512 ∷ 1 ∷ 2 ∷ 3 ∷ 4 ∷ [])
    ∷ bytes_equal (seen_change (delete_lent (record { answer = delete_answer (Ok None); image = 1 ∷ 2 ∷ []; work = 3 ∷ 4 ∷ [] }) 70)) (100 ∷ 70 ∷ 1 ∷ 2 ∷ 3 ∷ 4 ∷ [])
    ∷ bytes_equal (seen_change (delete_lent (record { answer = delete_answer (Err Refusal.Full); image = 1 ∷ 2 ∷ []; work = 3 ∷ 4 ∷ [] }) 70)) (15 ∷ 70 ∷ 1 ∷ 2 ∷ 3 ∷ 4 ∷ [])
    ∷ []

-- optimise: done, refused
unfoldable pub optimise_rows : List Bool
optimise_rows =
    bytes_equal (seen_change (change_lent (record { answer = length_answer (Ok 1_280); image = 1 ∷ 2 ∷ []; work = 3 ∷ 4 ∷ [] }) 70)) (0 ∷ 1_280 ∷ 1 ∷ 2 ∷ 3 ∷ 4 ∷ [])
    ∷ bytes_equal (seen_change (change_lent (record { answer = length_answer (Err Refusal.ReadOnly); image = 1 ∷ 2 ∷ []; work = 3 ∷ 4 ∷ [] }) 70)) (11 ∷ 70 ∷ 1 ∷ 2 ∷ 3 ∷ 4 ∷ [])
    ∷ []

-- THE THEOREM: every row holds
unfoldable pub LentHold : Type 0
LentHold = T (all (λ b. b) (create_rows ++ check_rows ++ look_up_rows ++ walk_rows ++ insert_rows ++ delete_rows ++ optimise_rows))

-- names all definitions of this module: who unfolds it unfolds them
unfoldable pub open_examples : Unit {0}
unfolding seen_create seen_check seen_look_up seen_walk seen_change create_rows check_rows look_up_rows walk_rows insert_rows delete_rows optimise_rows LentHold
open_examples = tt
