-- The call at the front of a script by its kind, as the code performs it.
use Prim.Native.Nat.{ℕ, ◌+◌, ◌-◌, ◌<◌}
use mathlib.Core.Path.{◌≡◌, refl, sym, ◌∙◌}
use mathlib.Core.Bool.{true, false}
use mathlib.Core.List.{List}
use mathlib.Core.Option.{some, some-injective}
use native.Mathlib.Omega.{arith}
use lib.ListN.{length, get_or, take, drop}
use Rattle.spec.specs.Bytes as Bytes
use Rattle.spec.specs.Bytes.{from_little_endian, bytes_at, zeros}
use Rattle.spec.specs.Claim.{Call, look_up_call, walk_call, insert_call, delete_call, optimise_call, perform}
use Rattle.script.specs.Script.{headword_size, text_size, kinds, call_of, code_of, work_left, Told, told}
use Rattle.script.proofs.Codes.{code_small}

-- the bytes of a part
part_is : (s : List ℕ) (i e n : ℕ) → e ≡ i + n → take (e - i) (drop i s) ≡ bytes_at i n s
unfolding Bytes.bytes_at
part_is s i e n q = let f : e - i ≡ n = omega arith in rw f

-- What is known when a call was performed: what the claim's call gives, and that the code is a byte.
abbrev Performs : List ℕ → List ℕ → List ℕ → ℕ → Told → Type 0
Performs work s image L t = ((c : Call) → call_of (length work) s ≡ some c → t ≡ told image L work c) × (t.code < 256)

module _ (work s image : List ℕ) (L : ℕ) (bytes : (k : ℕ) → get_or image k 0 < 256) where
  -- the call of this kind
  chosen : (x : Call) → call_of (length work) s ≡ some x → (t : Told) → t ≡ told image L work x → Performs work s image L t
  chosen x e t p = (λ c q. rw (← some-injective x c (sym e ∙ q)) p, code_small image bytes L work x t p)

  module _ (a : ℕ) (e : a ≡ get_or s 1 0) where
    -- the headword
    headword_is : take (5 + a - 5) (drop 5 s) ≡ bytes_at 5 (headword_size s) s
    headword_is = part_is s 5 (5 + a) (get_or s 1 0) (omega arith)

    -- a look up
    pub performed_0 : get_or s 0 0 ≡ 0 → (code : ℕ) → code ≡ code_of (perform image L (look_up_call (take (5 + a - 5) (drop 5 s)) (zeros 3000))).observed
        → Performs work s image L (record { code = code; image = image; length_after = L; work = work })
    unfolding call_of kinds told work_left perform
    performed_0 k code p = chosen (look_up_call (take (5 + a - 5) (drop 5 s)) (zeros 3000)) (rw (k, headword_is)) (record { code = code; image = image; length_after = L; work = work }) (rw p)

    -- a walk not below
    pub performed_1 : get_or s 0 0 ≡ 1 → (code : ℕ) → code ≡ code_of (perform image L (walk_call false (take (5 + a - 5) (drop 5 s)) (zeros 248) (zeros 3000))).observed
        → Performs work s image L (record { code = code; image = image; length_after = L; work = work })
    unfolding call_of kinds told work_left perform
    performed_1 k code p =
        chosen (walk_call false (take (5 + a - 5) (drop 5 s)) (zeros 248) (zeros 3000)) (rw (k, headword_is)) (record { code = code; image = image; length_after = L; work = work }) (rw p)

    -- a walk above
    pub performed_2 : get_or s 0 0 ≡ 2 → (code : ℕ) → code ≡ code_of (perform image L (walk_call true (take (5 + a - 5) (drop 5 s)) (zeros 248) (zeros 3000))).observed
        → Performs work s image L (record { code = code; image = image; length_after = L; work = work })
    unfolding call_of kinds told work_left perform
    performed_2 k code p =
        chosen (walk_call true (take (5 + a - 5) (drop 5 s)) (zeros 248) (zeros 3000)) (rw (k, headword_is)) (record { code = code; image = image; length_after = L; work = work }) (rw p)

    -- the text
    text_is : (b : ℕ) → b ≡ from_little_endian (bytes_at 2 2 s) → take (5 + a + b - (5 + a)) (drop (5 + a) s) ≡ bytes_at (5 + headword_size s) (text_size s) s
    text_is b f = part_is s (5 + a) (5 + a + b) b refl ∙ rw (e, f)

    -- an insertion
    pub performed_3 : get_or s 0 0 ≡ 3 → (b : ℕ) → b ≡ from_little_endian (bytes_at 2 2 s) → (t : Told)
        → t ≡ told image L work (insert_call (zeros (length work)) (take (5 + a - 5) (drop 5 s)) (get_or s 4 0) (take (5 + a + b - (5 + a)) (drop (5 + a) s))) → Performs work s image L t
    unfolding call_of kinds
    performed_3 k b f t p = chosen (insert_call (zeros (length work)) (take (5 + a - 5) (drop 5 s)) (get_or s 4 0) (take (5 + a + b - (5 + a)) (drop (5 + a) s))) (rw (k, headword_is, text_is b f)) t p

    -- a deletion
    pub performed_4 : get_or s 0 0 ≡ 4 → (t : Told) → t ≡ told image L work (delete_call (zeros (length work)) (take (5 + a - 5) (drop 5 s))) → Performs work s image L t
    unfolding call_of kinds
    performed_4 k t p = chosen (delete_call (zeros (length work)) (take (5 + a - 5) (drop 5 s))) (rw (k, headword_is)) t p

  -- an optimising
  pub performed_5 : get_or s 0 0 ≡ 5 → (t : Told) → t ≡ told image L work (optimise_call (zeros (length work))) → Performs work s image L t
  unfolding call_of kinds
  performed_5 k t p = chosen (optimise_call (zeros (length work))) (rw k) t p
