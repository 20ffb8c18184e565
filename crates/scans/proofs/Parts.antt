-- What a test of each whole part of a slice, and of its end, shows of the whole slice.
use Prim.Native.Nat.{ℕ, zero, suc, ◌+◌, ◌-◌, ◌*◌, ◌/◌, ◌<◌, ◌≤◌}
use mathlib.Core.Path.{◌≡◌, sym, ap, ap₂, subst, ◌∙◌}
use mathlib.Core.Bool.{Bool, true, false, ◌&&◌}
use mathlib.Core.List.{List, ◌∷◌, ◌++◌}
use native.Mathlib.Omega.{arith}
use native.Mathlib.Nat.{div-eq_of_lt, add-div_left, div-mul-le_self, lt-div-mul-add}
use lib.ListN.{length, length-append, take, drop}
use lib.Seq.{take-add, take_at, drop_at, take_all}
use denote.Ref.{Bor}
use Rattle.std.specs.List.{list_all}
use Rattle.std.specs.Simd.{first_chunks}
use Rattle.std.specs.Slice.Iter.{chunks_exact_rest, chunks_exact_size, chunks_exact_steps}
use Rattle.std.specs.declared.slice.ChunksExact.{ChunksExact}
use Rattle.std.specs.declared.option.Option.TheVariants.{Some, None}
use Rattle.std.proofs.lemmas.Iterator.{YieldsList}
use Rattle.std.proofs.lemmas.Iterator.Splits.{YieldsList-from_shown_while}
use Rattle.spec.specs.Lists.{all}
use Rattle.spec.proofs.ListsLaws.{all_joined}
use Rattle.scans.proofs.Scans.{front_more}

-- the parts that are left
abbrev parts_left : ChunksExact ℕ → List (List ℕ)
parts_left s = first_chunks (chunks_exact_size s) (length (chunks_exact_rest s) / chunks_exact_size s) (chunks_exact_rest s)

-- a part in front of the others
parts_next : (n : ℕ) (x r : List ℕ) → 0 < n → length x ≡ n → first_chunks n (length (x ++ r) / n) (x ++ r) ≡ x ∷ first_chunks n (length r / n) r
parts_next n x r h l =
    let k : length (x ++ r) / n ≡ suc (length r / n) = ap (λ (m : ℕ). m / n) (length-append x r ∙ ap (λ (m : ℕ). m + length r) l) ∙ add-div_left (length r) h ∙ omega arith in
    ap (λ (q : ℕ). first_chunks n q (x ++ r)) k ∙ ap₂ (λ (y : List ℕ) (z : List ℕ). y ∷ first_chunks n (length r / n) z) (take_at x r n l) (drop_at x r n l)

-- none where less is left
parts_none : (n : ℕ) (r : List ℕ) → length r < n → length (first_chunks n (length r / n) r) ≡ 0
parts_none n r h = ap (λ (q : ℕ). length (first_chunks n q r)) (div-eq_of_lt h)

-- the iterator yields the parts
parts_yielded : (s : ChunksExact ℕ) → 0 < chunks_exact_size s → YieldsList (chunks_exact_steps {A = ℕ}) (λ x. x.now) s (parts_left s)
parts_yielded s h =
    YieldsList-from_shown_while (chunks_exact_steps {A = ℕ}) (λ x. x.now) parts_left (λ (t : ChunksExact ℕ). 0 < chunks_exact_size t) none some s h
  where
    none : (u t : ChunksExact ℕ) → 0 < chunks_exact_size u → chunks_exact_steps u None t → length (parts_left u) ≡ 0
    none u t p e = parts_none (chunks_exact_size u) (chunks_exact_rest u) e.1.0

    some : (u : ChunksExact ℕ) (x : Bor (List ℕ)) (t : ChunksExact ℕ) → 0 < chunks_exact_size u → chunks_exact_steps u (Some x) t
        → (0 < chunks_exact_size t) × (parts_left u ≡ x.now ∷ parts_left t)
    some u x t p e = (
      omega (arith, e.0),
      ap (λ (r : List ℕ). first_chunks (chunks_exact_size u) (length r / chunks_exact_size u) r) e.1.0
          ∙ parts_next (chunks_exact_size u) x.now (chunks_exact_rest t) p e.1.1
          ∙ ap (λ (n : ℕ). x.now ∷ first_chunks n (length (chunks_exact_rest t) / n) (chunks_exact_rest t)) (sym e.0),
    )

-- the parts of xs
pub parts_of : (s : ChunksExact ℕ) (n : ℕ) (xs : List ℕ) → 0 < n → chunks_exact_size s ≡ n → chunks_exact_rest s ≡ xs
    → YieldsList (chunks_exact_steps {A = ℕ}) (λ x. x.now) s (first_chunks n (length xs / n) xs)
parts_of s n xs h p q =
    subst (λ (l : List (List ℕ)). YieldsList (chunks_exact_steps {A = ℕ}) (λ x. x.now) s l)
    (ap₂ (λ (m : ℕ) (r : List ℕ). first_chunks m (length r / m) r) p q)
    (parts_yielded s (omega arith))

-- a test of the bytes of each of k parts
parts_tested : (f : ℕ → Bool) (n k : ℕ) (s : List ℕ) → list_all (all f) (first_chunks n k s) ≡ all f (take (k * n) s)
unfolding all
parts_tested f n zero s = let e : 0 * n ≡ 0 = omega arith in rw e
parts_tested f n (suc k) s =
    let e : suc k * n ≡ n + k * n = omega arith in
    ap (λ (t : Bool). all f (take n s) && t) (parts_tested f n k (drop n s))
    ∙ sym (ap (λ (m : ℕ). all f (take m s)) e ∙ ap (all f) (take-add n (k * n) s) ∙ all_joined f (take n s) (take (k * n) (drop n s)))

-- and of the last n bytes
parts_and_end : (f : ℕ → Bool) (n : ℕ) (s : List ℕ) → 0 < n → n ≤ length s
    → list_all (all f) (first_chunks n (length s / n) s) && all f (take n (drop (length s - n) s)) ≡ all f s
parts_and_end f n s p q =
    let k : ℕ = length s / n in
    let w : length s - n + n ≡ length s = omega arith in
    ap (λ (t : Bool). t && all f (take n (drop (length s - n) s))) (parts_tested f n k s)
    ∙ front_more f s (length s - n) (k * n) n (omega (arith, lt-div-mul-add {a = length s} {b = n} p)) (omega (arith, div-mul-le_self (length s) n))
    ∙ ap (all f) (ap (λ (m : ℕ). take m s) w ∙ take_all (length s) s (omega arith))

-- what the test of each part answers, and where that is true the test of the last n bytes
module _ (f : ℕ → Bool) (n : ℕ) (s : List ℕ) (r : Bool) (p : 0 < n) (q : n ≤ length s) (e : r ≡ list_all (all f) (first_chunks n (length s / n) s)) where
  pub parts_pass : (z : Bool) → r ≡ true → z ≡ all f (take (length s - (length s - n)) (drop (length s - n) s)) → z ≡ all f s
  parts_pass z t g =
      let w : length s - (length s - n) ≡ n = omega arith in
      let h : list_all (all f) (first_chunks n (length s / n) s) ≡ true = sym e ∙ t in
      (rw w at g) ∙ rw h at (parts_and_end f n s p q)

  pub parts_fail : r ≡ false → r ≡ all f s
  parts_fail t =
      let h : list_all (all f) (first_chunks n (length s / n) s) ≡ false = sym e ∙ t in
      t ∙ rw h at (parts_and_end f n s p q)

-- four parts of k bytes, none behind the end of the one before, the last at the end
pub four_parts : (f : ℕ → Bool) (s : List ℕ) (k b c : ℕ) (w x y z : Bool) → k ≤ length s → b ≤ k → b ≤ c → c ≤ b + k → c ≤ length s - k → length s - k ≤ c + k
    → w ≡ all f (take k s) → x ≡ all f (take (b + k - b) (drop b s)) → y ≡ all f (take (c + k - c) (drop c s))
    → z ≡ all f (take (length s - (length s - k)) (drop (length s - k) s)) → ((w && x) && y) && z ≡ all f s
four_parts f s k b c w x y z h₁ h₂ h₃ h₄ h₅ h₆ p q r t =
    let i : b + k - b ≡ k = omega arith in
    let j : c + k - c ≡ k = omega arith in
    let l : length s - (length s - k) ≡ k = omega arith in
    let n : length s - k + k ≡ length s = omega arith in
    let u : (w && x) ≡ all f (take (b + k) s) = ap₂ (λ (m n : Bool). m && n) p (rw i at q) ∙ front_more f s b k k h₂ (omega arith) in
    let v : ((w && x) && y) ≡ all f (take (c + k) s) = ap₂ (λ (m n : Bool). m && n) u (rw j at r) ∙ front_more f s c (b + k) k h₄ (omega arith) in
    ap₂ (λ (m n : Bool). m && n) v (rw l at t) ∙ front_more f s (length s - k) (c + k) k h₆ (omega arith)
    ∙ ap (all f) (ap (λ (m : ℕ). take m s) n ∙ take_all (length s) s (omega arith))
