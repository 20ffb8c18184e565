-- The size of a run. Document 01, "Where each refusal is given", row 7.
use Rattle.std.specs.Prelude.{ℕ, ◌+◌, ◌*◌, ◌≤◌, cond, not, ◌||◌, List, ltb, eqb, Result, Ok, Err, IfOk}
use Rattle.spec.specs.Bytes.{from_little_endian, bytes_at}
use Rattle.spec.specs.declared.Refusal.{Refusal}

-- "number not below D, size 0, top bit set, or run past the data area"; else the number in the first two bytes of block b
unfoldable pub size_told : ℕ → List ℕ → ℕ → Result ℕ Refusal
size_told D area b =
    let n : ℕ = from_little_endian (bytes_at (256 * b) 2 area) in
    cond (not (ltb b D) || eqb n 0 || ltb 32_767 n || ltb D (b + n)) (Err Refusal.BadPlace) (Ok n)

-- a run that keeps row 7 has some blocks, not too many, all inside the data area
abbrev pub SizeInside : ℕ → ℕ → Result ℕ Refusal → Type 0
SizeInside D b r = IfOk r (λ n. (1 ≤ n) × (n ≤ 32_767) × (b + n ≤ D))

-- names all definitions of this module: who unfolds it unfolds them
unfoldable pub open_size : Unit {0}
unfolding size_told
open_size = tt
