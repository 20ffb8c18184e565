-- What the returns of the calls from C show.
use Prim.Native.Nat.{ℕ}
use mathlib.Core.Path.{◌≡◌, refl, sym, ap, subst, ◌∙◌}
use mathlib.Core.List.{List, ◌∷◌}
use mathlib.Core.Option.{Option}
use native.Mathlib.Omega.{arith}
use lib.Dec.{eqb}
use Rattle.std.specs.Prelude as std
use Rattle.std.specs.Prelude.{Result, Some, None, Ok, Err}
use Rattle.spec.specs.Outcome.{Outcome, refused, ok}
use Rattle.spec.specs.Lists as Lists
use Rattle.spec.specs.Lists.{any, ◌∈◌}
use Rattle.spec.specs.Calls.{CreateResult, Figures, LookUpResult, WalkResult, ChangeResult}
use Rattle.spec.specs.Answers as Answers
use Rattle.spec.specs.Answers.{number_of, length_answer, check_answer, look_up_answer, walk_answer, delete_answer, code, lent_number}
use Rattle.spec.specs.Rows as Rows
use Rattle.spec.specs.Rows.{No}
use Rattle.spec.specs.CallRows.{change_numbers}
use Rattle.spec.specs.declared.Refusal.{Refusal}
use Rattle.spec.specs.declared.ImageCounts.{ImageCounts}
use Rattle.spec.specs.declared.TextFound.{TextFound}
use Rattle.spec.specs.declared.EntryFound.{EntryFound}
use Rattle.spec.proofs.ListsLaws.{or_right}
use Rattle.pdic.specs.Lent.{create_lent, check_lent, look_up_lent, walk_lent, change_lent, delete_lent}

module _ (r : Result ImageCounts Refusal) (o : Outcome Figures) (e : check_answer r ≡ o) (h₀ i₀ d₀ f₀ : ℕ) where
  -- a refusal returns its number alone
  pub check_refused : (k : Refusal) (n : ℕ) → r ≡ Err k → n ≡ number_of k → record { returned = n; headwords = h₀; index_blocks = i₀; data_blocks = d₀; free_blocks = f₀ } ≡ check_lent o h₀ i₀ d₀ f₀
  unfolding check_lent Answers.check_answer Answers.code Answers.lent_number
  check_refused k n q m = rw (← e, q, m)

  -- else 0, and the four numbers
  pub check_counted : (c : ImageCounts) → r ≡ Ok c
      → record { returned = 0; headwords = c.headwords; index_blocks = c.index_blocks; data_blocks = c.data_blocks; free_blocks = c.free_blocks } ≡ check_lent o h₀ i₀ d₀ f₀
  unfolding check_lent Answers.check_answer Answers.code Answers.lent_number
  check_counted c q = rw (← e, q)

module _ (r : Result (std.Option TextFound) Refusal) (t : List ℕ) (o : LookUpResult) (e : record { answer = look_up_answer r; text = t } ≡ o) (a₀ n₀ : ℕ) where
  -- a refusal's number
  pub look_up_refused : (k : Refusal) (n : ℕ) → r ≡ Err k → n ≡ number_of k → record { returned = n; text = t; attribute = a₀; text_length = n₀ } ≡ look_up_lent o a₀ n₀
  unfolding look_up_lent Answers.look_up_answer Answers.code_or_absent Answers.lent_number_or_absent
  look_up_refused k n q m = rw (← e, q, m)

  -- absent: 100
  pub look_up_absent : (x : std.Option TextFound) → r ≡ Ok x → x ≡ None → record { returned = 100; text = t; attribute = a₀; text_length = n₀ } ≡ look_up_lent o a₀ n₀
  unfolding look_up_lent Answers.look_up_answer Answers.code_or_absent Answers.lent_number_or_absent
  look_up_absent x q p = rw (← e, q, p)

  -- found: 0, the attribute and the text's length
  pub look_up_found : (x : std.Option TextFound) (f : TextFound) → r ≡ Ok x → x ≡ Some f
      → record { returned = 0; text = t; attribute = f.attribute; text_length = f.text_length } ≡ look_up_lent o a₀ n₀
  unfolding look_up_lent Answers.look_up_answer Answers.code_or_absent Answers.lent_number_or_absent
  look_up_found x f q p = rw (← e, q, p)

module _ (r : Result (std.Option EntryFound) Refusal) (h t : List ℕ) (o : WalkResult) (e : record { answer = walk_answer r; headword = h; text = t } ≡ o) (a₀ m₀ n₀ : ℕ) where
  -- a refusal's number
  pub walk_refused : (k : Refusal) (n : ℕ) → r ≡ Err k → n ≡ number_of k
      → record { returned = n; headword = h; text = t; attribute = a₀; headword_length = m₀; text_length = n₀ } ≡ walk_lent o a₀ m₀ n₀
  unfolding walk_lent Answers.walk_answer Answers.code_or_absent Answers.lent_number_or_absent
  walk_refused k n q m = rw (← e, q, m)

  -- absent: 100
  pub walk_absent : (x : std.Option EntryFound) → r ≡ Ok x → x ≡ None → record { returned = 100; headword = h; text = t; attribute = a₀; headword_length = m₀; text_length = n₀ } ≡ walk_lent o a₀ m₀ n₀
  unfolding walk_lent Answers.walk_answer Answers.code_or_absent Answers.lent_number_or_absent
  walk_absent x q p = rw (← e, q, p)

  -- found: 0, the attribute and both lengths
  pub walk_found : (x : std.Option EntryFound) (f : EntryFound) → r ≡ Ok x → x ≡ Some f
      → record { returned = 0; headword = h; text = t; attribute = f.attribute; headword_length = f.headword_length; text_length = f.text_length } ≡ walk_lent o a₀ m₀ n₀
  unfolding walk_lent Answers.walk_answer Answers.code_or_absent Answers.lent_number_or_absent
  walk_found x f q p = rw (← e, q, p)

module _ (r : Result ℕ Refusal) (n₀ : ℕ) where
  -- what a refused call returns, and the length lent as it was
  pub told_refused : (k : Refusal) (n : ℕ) → r ≡ Err k → n ≡ number_of k → (n ≡ code (length_answer r)) × (n₀ ≡ lent_number (λ l. l) n₀ (length_answer r))
  unfolding Answers.length_answer Answers.code Answers.lent_number
  told_refused k n q m = (rw q m, rw q)

  -- what a call that is done returns, and its length
  pub told_done : (n : ℕ) → r ≡ Ok n → (0 ≡ code (length_answer r)) × (n ≡ lent_number (λ l. l) n₀ (length_answer r))
  unfolding Answers.length_answer Answers.code Answers.lent_number
  told_done n q = (rw q, rw q)

  -- a code of 0, or of a number that the answer can refuse with
  pub optimise_number : (n : ℕ) → n ≡ code (length_answer r) → No (length_answer r ≡ refused 15) → ((k : ℕ) → length_answer r ≡ refused k → k ∈ change_numbers) → No (n ≡ 15) × (n ∈ 0 ∷ change_numbers)
  unfolding Rows.No Lists.any Answers.code
  optimise_number n m never known = go (length_answer r) refl
    where
      go : (a : Outcome ℕ) → length_answer r ≡ a → No (n ≡ 15) × (n ∈ 0 ∷ change_numbers)
      go (refused k) q = subst (λ x. No (x ≡ 15) × (x ∈ 0 ∷ change_numbers)) (sym (m ∙ ap code q)) (λ e. never (rw (q, e)), or_right (eqb k 0) (any (eqb k) change_numbers) (known k q))
      go (ok l) q = subst (λ x. No (x ≡ 15) × (x ∈ 0 ∷ change_numbers)) (sym (m ∙ ap code q)) (λ e. omega (arith, e), refl)

-- create by what is told of its answer
pub create_told : (r : Result ℕ Refusal) (s : List ℕ) (o : CreateResult) (e : record { answer = length_answer r; image = s } ≡ o) (n l l₀ : ℕ)
    → n ≡ code (length_answer r) → l ≡ lent_number (λ l. l) l₀ (length_answer r) → record { returned = n; image = s; new_length = l } ≡ create_lent o l₀
unfolding create_lent
create_told r s o e n l l₀ p q = rw (← e, p, q)

-- insert and optimise by what is told of their answer
pub change_told : (r : Result ℕ Refusal) (s w : List ℕ) (o : ChangeResult ℕ) (e : record { answer = length_answer r; image = s; work = w } ≡ o) (n l l₀ : ℕ)
    → n ≡ code (length_answer r) → l ≡ lent_number (λ l. l) l₀ (length_answer r) → record { returned = n; image = s; work = w; new_length = l } ≡ change_lent o l₀
unfolding change_lent
change_told r s w o e n l l₀ p q = rw (← e, p, q)

module _ (r : Result (std.Option ℕ) Refusal) (s w : List ℕ) (o : ChangeResult (Option ℕ)) (e : record { answer = delete_answer r; image = s; work = w } ≡ o) (n₀ : ℕ) where
  -- a refusal's number
  pub delete_refused : (k : Refusal) (n : ℕ) → r ≡ Err k → n ≡ number_of k → record { returned = n; image = s; work = w; new_length = n₀ } ≡ delete_lent o n₀
  unfolding delete_lent Answers.delete_answer Answers.code_or_absent Answers.lent_number_or_absent
  delete_refused k n q m = rw (← e, q, m)

  -- absent: 100
  pub delete_absent : (x : std.Option ℕ) → r ≡ Ok x → x ≡ None → record { returned = 100; image = s; work = w; new_length = n₀ } ≡ delete_lent o n₀
  unfolding delete_lent Answers.delete_answer Answers.code_or_absent Answers.lent_number_or_absent
  delete_absent x q p = rw (← e, q, p)

  -- removed: 0 and the new length
  pub delete_removed : (x : std.Option ℕ) (n : ℕ) → r ≡ Ok x → x ≡ Some n → record { returned = 0; image = s; work = w; new_length = n } ≡ delete_lent o n₀
  unfolding delete_lent Answers.delete_answer Answers.code_or_absent Answers.lent_number_or_absent
  delete_removed x n q p = rw (← e, q, p)
