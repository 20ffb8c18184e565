-- A code is a byte.
use Prim.Native.Nat.{ℕ, ◌<◌}
use mathlib.Core.Path.{◌≡◌, refl}
use mathlib.Core.Bool.{true}
use mathlib.Core.List.{List, [], ◌∷◌, ◌++◌}
use mathlib.Core.Option.{Option, none, some}
use native.Mathlib.Omega.{arith}
use lib.ListN.{get_or}
use lib.Dec.{T, ltb}
use lib.Pow.{are_bytes}
use borrow.Author.Tests.{ltb-true}
use Rattle.spec.specs.Outcome.{Outcome, refused, ok}
use Rattle.spec.specs.Lists.{all, ◌∈◌}
use Rattle.spec.specs.Calls.{FoundText, FoundEntry, look_up, walk, insert, delete, optimise}
use Rattle.spec.specs.Claim.{Call, look_up_call, walk_call, insert_call, delete_call, optimise_call, perform, observed_text, observed_entry, observed_done, observed_removed}
use Rattle.spec.specs.Rows.{numbers, content_numbers, image_numbers}
use Rattle.spec.specs.CallRows.{change_numbers}
use Rattle.spec.proofs.ListsLaws.{in_all}
use Rattle.spec.proofs.BytesLaws.{all_bytes}
use Rattle.spec.proofs.CallRowsLaws.{first_numbers}
use Rattle.script.specs.Script.{code_of, Told, told}

-- a look up that is refused by bytes alone has a byte for its code
text_code : (o : Outcome (Option FoundText)) (t : List ℕ) → ((n : ℕ) → o ≡ refused n → n < 256) → code_of (observed_text o t) < 256
unfolding code_of observed_text
text_code (refused n) t h = omega (arith, h n refl)
text_code (ok none) t h = omega arith
text_code (ok (some f)) t h = omega arith

-- a walk
entry_code : (o : Outcome (Option FoundEntry)) (h t : List ℕ) → ((n : ℕ) → o ≡ refused n → n < 256) → code_of (observed_entry o h t) < 256
unfolding code_of observed_entry
entry_code (refused n) h t k = omega (arith, k n refl)
entry_code (ok none) h t k = omega arith
entry_code (ok (some f)) h t k = omega arith

-- an insertion or an optimising
done_code : (o : Outcome ℕ) → ((n : ℕ) → o ≡ refused n → n < 256) → code_of (observed_done o) < 256
unfolding code_of observed_done
done_code (refused n) h = omega (arith, h n refl)
done_code (ok n) h = omega arith

-- a deletion
removed_code : (o : Outcome (Option ℕ)) → ((n : ℕ) → o ≡ refused n → n < 256) → code_of (observed_removed o) < 256
unfolding code_of observed_removed
removed_code (refused n) h = omega (arith, h n refl)
removed_code (ok none) h = omega arith
removed_code (ok (some n)) h = omega arith

-- a number of a list of bytes is a byte
in_bytes : (ns : List ℕ) → all (λ n. ltb n 256) ns ≡ true → (n : ℕ) → n ∈ ns → n < 256
in_bytes ns b n h = ltb-true n 256 (in_all (λ m. ltb m 256) ns n b h)

-- every call's code is a byte
code_byte : (s : List ℕ) (L : ℕ) → T (are_bytes s) → (c : Call) → code_of (perform s L c).observed < 256
unfolding perform all numbers content_numbers image_numbers change_numbers
code_byte s L small (look_up_call h out) =
    let r = look_up s L h out in
    text_code r.answer r.text (λ n e. in_bytes (image_numbers ++ 12 ∷ 14 ∷ []) refl n ((first_numbers.look_up_rows s L h out small).no_other n e))
code_byte s L small (walk_call above h word text) =
    let r = walk s L above h word text in
    entry_code r.answer r.headword r.text (λ n e. in_bytes (image_numbers ++ 12 ∷ 14 ∷ []) refl n ((first_numbers.walk_rows s L above h word text small).no_other n e))
code_byte s L small (insert_call work h a t) =
    done_code (insert s L work h a t).answer (λ n e. in_bytes (change_numbers ++ 12 ∷ 13 ∷ 15 ∷ []) refl n ((first_numbers.insert_rows s L work h a t small).no_other n e))
code_byte s L small (delete_call work h) =
    removed_code (delete s L work h).answer (λ n e. in_bytes (change_numbers ++ 12 ∷ 15 ∷ []) refl n ((first_numbers.delete_rows s L work h small).no_other n e))
code_byte s L small (optimise_call work) = done_code (optimise s L work).answer (λ n e. in_bytes change_numbers refl n ((first_numbers.optimise_rows s L work small).no_other n e))

-- as the code knows it
pub code_small : (s : List ℕ) → ((k : ℕ) → get_or s k 0 < 256) → (L : ℕ) (work : List ℕ) (c : Call) (t : Told) → t ≡ told s L work c → t.code < 256
unfolding told
code_small s h L work c t e = rw e (code_byte s L (all_bytes s h) c)
