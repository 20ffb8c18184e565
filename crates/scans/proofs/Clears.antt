-- What clearing a slice shows, in the terms of the code.
use Prim.Native.Nat.{ℕ, ◌+◌, ◌-◌, ◌≤◌}
use mathlib.Core.Path.{◌≡◌, sym, ap, ◌∙◌}
use mathlib.Core.Bool.{Bool, true}
use mathlib.Core.List.{List, [], ◌++◌, append-nil}
use native.Mathlib.Omega.{arith}
use lib.ListN.{length, drop, drop_of_length-le, replicate-append-replicate}
use Rattle.spec.specs.Bytes.{write, bytes_at, zeros, all_zero}
use Rattle.spec.proofs.BytesLaws.{all_zero_told, length_zeros}
use Rattle.spec.proofs.PartLaws.{length_bytes_at}
use Rattle.spec.proofs.WriteLaws.{write_same, write_none, written_behind}

-- zeros written where all bytes are zero change nothing
pub cleared_already : (s : List ℕ) (i k : ℕ) (b : Bool) → i + k ≤ length s → b ≡ all_zero (bytes_at i (i + k - i) s) → b ≡ true → s ≡ write i (zeros k) s
cleared_already s i k b l e t =
    let w : i + k - i ≡ k = omega arith in
    let n : length (bytes_at i k s) ≡ k = length_bytes_at s i k l in
    let z : bytes_at i k s ≡ zeros k = rw n at (all_zero_told (bytes_at i k s) (rw w at (sym e ∙ t))) in
    sym (write_same i (zeros k) s (rw (length_zeros k) z))

-- no zeros yet
pub cleared_none : (d : List ℕ) → d ≡ write 0 (zeros 0) d
unfolding zeros
cleared_none d = sym (write_none d 0)

-- k zeros behind the first i, m in all
pub cleared_more : (d₀ d d₁ : List ℕ) (i k m : ℕ) → i + k ≡ m → d ≡ write 0 (zeros i) d₀ → d₁ ≡ write i (zeros k) d → d₁ ≡ write 0 (zeros m) d₀
unfolding zeros
cleared_more d₀ d d₁ i k m r h e =
    written_behind d₀ d d₁ (zeros i) (zeros k) 0 i (omega arith) (omega (arith, length_zeros i)) h e
    ∙ ap (λ (x : List ℕ). write 0 x d₀) (replicate-append-replicate i k 0 ∙ ap zeros r)

-- and up to the end
pub cleared_whole : (d₀ d d₁ : List ℕ) (i n : ℕ) → d ≡ write 0 (zeros i) d₀ → d₁ ≡ write i (zeros (n - i)) d → i ≤ n → n ≡ length d₀ → d₁ ≡ zeros (length d₀)
unfolding write
cleared_whole d₀ d d₁ i n h e p l =
    let w : i + (n - i) ≡ n = omega arith in
    let r : drop (0 + length (zeros n)) d₀ ≡ [] = drop_of_length-le d₀ {i = (0 + length (zeros n))} (omega (arith, length_zeros n)) in
    let z : d₁ ≡ write 0 (zeros n) d₀ = cleared_more d₀ d d₁ i (n - i) n w h e in
    z ∙ ap (λ (x : List ℕ). zeros n ++ x) r ∙ append-nil (zeros n) ∙ ap zeros l
