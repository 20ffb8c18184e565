-- The calls from C: the number returned, and what every slice and number lent for writing holds then.
use Rattle.std.specs.Prelude.{ℕ, List}
use Rattle.std.proofs.Math.Option.{Option}
use Rattle.spec.specs.Outcome.{Outcome}
use Rattle.spec.specs.Calls.{CreateResult, Figures, LookUpResult, WalkResult, ChangeResult}
use Rattle.spec.specs.Answers.{code, code_or_absent, lent_number, lent_number_or_absent}

-- create from C
pub record CreateLent : Type 0 where
  pub returned : ℕ
  pub image : List ℕ
  pub new_length : ℕ

-- by create's result and what the lent number held
unfoldable pub create_lent : CreateResult → ℕ → CreateLent
create_lent r n = record { returned = code r.answer; image = r.image; new_length = lent_number (λ l. l) n r.answer }

-- check from C
pub record CheckLent : Type 0 where
  pub returned : ℕ
  pub headwords : ℕ
  pub index_blocks : ℕ
  pub data_blocks : ℕ
  pub free_blocks : ℕ

-- by check's answer and what the lent numbers held
unfoldable pub check_lent : Outcome Figures → ℕ → ℕ → ℕ → ℕ → CheckLent
check_lent o h i d f =
    record {
      returned = code o;
      headwords = lent_number (λ c. c.headwords) h o;
      index_blocks = lent_number (λ c. c.index_blocks) i o;
      data_blocks = lent_number (λ c. c.data_blocks) d o;
      free_blocks = lent_number (λ c. c.free_blocks) f o;
    }

-- look up from C
pub record LookUpLent : Type 0 where
  pub returned : ℕ
  pub text : List ℕ
  pub attribute : ℕ
  pub text_length : ℕ

-- by look up's result and what the lent numbers held
unfoldable pub look_up_lent : LookUpResult → ℕ → ℕ → LookUpLent
look_up_lent r a n =
    record {
      returned = code_or_absent r.answer;
      text = r.text;
      attribute = lent_number_or_absent (λ f. f.attribute) a r.answer;
      text_length = lent_number_or_absent (λ f. f.text_length) n r.answer;
    }

-- walk from C
pub record WalkLent : Type 0 where
  pub returned : ℕ
  pub headword : List ℕ
  pub text : List ℕ
  pub attribute : ℕ
  pub headword_length : ℕ
  pub text_length : ℕ

-- by walk's result and what the lent numbers held
unfoldable pub walk_lent : WalkResult → ℕ → ℕ → ℕ → WalkLent
walk_lent r a h t =
    record {
      returned = code_or_absent r.answer;
      headword = r.headword;
      text = r.text;
      attribute = lent_number_or_absent (λ f. f.attribute) a r.answer;
      headword_length = lent_number_or_absent (λ f. f.headword_length) h r.answer;
      text_length = lent_number_or_absent (λ f. f.text_length) t r.answer;
    }

-- insert, delete and optimise from C
pub record ChangeLent : Type 0 where
  pub returned : ℕ
  pub image : List ℕ
  pub work : List ℕ
  pub new_length : ℕ

-- by the result of insert or optimise and what the lent number held
unfoldable pub change_lent : ChangeResult ℕ → ℕ → ChangeLent
change_lent r n = record { returned = code r.answer; image = r.image; work = r.work; new_length = lent_number (λ l. l) n r.answer }

-- by delete's result and what the lent number held
unfoldable pub delete_lent : ChangeResult (Option ℕ) → ℕ → ChangeLent
delete_lent r n = record { returned = code_or_absent r.answer; image = r.image; work = r.work; new_length = lent_number_or_absent (λ l. l) n r.answer }

-- names all definitions of this module: who unfolds it unfolds them
unfoldable pub open_lent : Unit {0}
unfolding create_lent check_lent look_up_lent walk_lent change_lent delete_lent
open_lent = tt
