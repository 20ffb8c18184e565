-- Laws of a run's size: row 7.
use Prim.Native.Nat.{ℕ, ◌+◌, ◌-◌, ◌*◌, ◌<◌, ◌≤◌}
use mathlib.Core.Path.{◌≡◌, refl, sym, ◌∙◌}
use mathlib.Core.Bool.{Bool, true, false, cond, not, ◌||◌}
use mathlib.Core.List.{List}
use mathlib.Core.Option.{Option}
use native.Mathlib.Omega.{arith}
use lib.ListN.{length, take, drop}
use lib.Dec.{ltb, eqb}
use borrow.Author.Tests.{lt-ltb, le-ltb, eq-eqb, ne_eqb, not-false, ltb-true, ltb-false, eqb-false}
use Rattle.spec.specs.Outcome.{Outcome, refused, ok, ◌>>◌, refuse◌when◌}
use Rattle.spec.specs.Order.{HeadwordOrder}
use Rattle.spec.specs.Bytes.{from_little_endian, bytes_at}
use Rattle.spec.specs.Index.{Element}
use Rattle.spec.specs.Run.{Run}
use Rattle.spec.specs.Check.{run_from}
use Rattle.spec.proofs.ListsLaws.{clash}
use Rattle.spec.proofs.PartLaws.{length_bytes_at}
use Rattle.spec.proofs.ReadLaws.{RunTold, run_told}
use Rattle.runs.specs.Size.{size_told}
use Rattle.spec.specs.Answers.{number_of}
use Rattle.spec.specs.declared.Refusal.{Refusal}
use Rattle.std.specs.Prelude.{Result, Ok, Err}

module _ (D : ℕ) (area : List ℕ) (b : ℕ) where
  -- number not below D
  pub size_number : D ≤ b → Err Refusal.BadPlace ≡ size_told D area b
  unfolding size_told
  size_number p = rw (le-ltb b D p)

  module _ (p : b < D) (n : ℕ) (count : n ≡ from_little_endian (bytes_at (256 * b) 2 area)) where
    -- size 0
    pub size_none : n ≡ 0 → Err Refusal.BadPlace ≡ size_told D area b
    unfolding size_told
    size_none z = rw (lt-ltb b D p, ← count, eq-eqb n 0 z)

    module _ (some_blocks : n ≡ 0 → ⊥) where
      -- top bit set
      pub size_top : 32_767 < n → Err Refusal.BadPlace ≡ size_told D area b
      unfolding size_told
      size_top q = rw (lt-ltb b D p, ← count, ne_eqb n 0 some_blocks, lt-ltb 32_767 n q)

      module _ (few : n ≤ 32_767) where
        -- run past the data area
        pub size_past : D - b < n → Err Refusal.BadPlace ≡ size_told D area b
        unfolding size_told
        size_past q = rw (lt-ltb b D p, ← count, ne_eqb n 0 some_blocks, le-ltb 32_767 n few, lt-ltb D (b + n) (omega arith))

        -- a run that keeps row 7
        pub size_good : n ≤ D - b → Ok n ≡ size_told D area b
        unfolding size_told
        size_good q = rw (lt-ltb b D p, ← count, ne_eqb n 0 some_blocks, le-ltb 32_767 n few, le-ltb D (b + n) (omega arith))

-- tests of one row, one after the other
refused_in_turn : (a b c d : Bool) (o : Outcome Run) → (a || b || c || d) ≡ true
    → ((refuse 7 when a) >> ((refuse 7 when b) >> ((refuse 7 when c) >> ((refuse 7 when d) >> o)))) ≡ refused 7
refused_in_turn true b c d o h = refl
refused_in_turn false true c d o h = refl
refused_in_turn false false true d o h = refl
refused_in_turn false false false true o h = refl
refused_in_turn false false false false o h = clash (cc)

-- none of four tests
none_of : (a b c d : Bool) → (a || b || c || d) ≡ false → (a ≡ false) × (b ≡ false) × (c ≡ false) × (d ≡ false)
none_of true b c d h = clash (cc)
none_of false true c d h = clash (cc)
none_of false false true d h = clash (cc)
none_of false false false true h = clash (cc)
none_of false false false false h = (refl, refl, refl, refl)

-- a size that is refused by a test
test_broken : (t : Bool) (n : ℕ) (r : Refusal) → cond t (Err Refusal.BadPlace) (Ok n) ≡ Err r → (t ≡ true) × (r ≡ Refusal.BadPlace)
test_broken true n r h = (refl, cc)
test_broken false n r h = clash (cc)

-- a size of blocks by a test
test_blocks : (t : Bool) (n m : ℕ) → cond t (Err Refusal.BadPlace) (Ok n) ≡ Ok m → (t ≡ false) × (m ≡ n)
test_blocks true n m h = clash (cc)
test_blocks false n m h = (refl, cc)

module _ (D : ℕ) (area : List ℕ) (b : ℕ) (size : Result ℕ Refusal) (told : size ≡ size_told D area b) where
  -- a size that is refused is row 7
  pub broken_seven : (r : Refusal) → size ≡ Err r → (below : HeadwordOrder) (e : Element) (next : Option (List ℕ)) → e.block ≡ b → run_from below D area e next ≡ refused (number_of r)
  unfolding size_told run_from number_of
  broken_seven r h below e next q =
      let n : ℕ = from_little_endian (bytes_at (256 * b) 2 area) in
      let (t, seven) = test_broken (not (ltb b D) || eqb n 0 || ltb 32_767 n || ltb D (b + n)) n r (sym told ∙ h) in
      rw (q, seven) (refused_in_turn (not (ltb b D)) (eqb n 0) (ltb 32_767 n) (ltb D (b + n)) _ t)

  -- what any other size tells
  pub blocks_told : (n : ℕ) → size ≡ Ok n → (b < D) × (n ≡ from_little_endian (bytes_at (256 * b) 2 area)) × (1 ≤ n) × (n ≤ 32_767) × (b + n ≤ D)
  unfolding size_told
  blocks_told m h =
      let n : ℕ = from_little_endian (bytes_at (256 * b) 2 area) in
      let (t, e) = test_blocks (not (ltb b D) || eqb n 0 || ltb 32_767 n || ltb D (b + n)) n m (sym told ∙ h) in
      let (p, q, r, s) = none_of (not (ltb b D)) (eqb n 0) (ltb 32_767 n) (ltb D (b + n)) t in
      (ltb-true b D (not-false (ltb b D) p), e, omega (arith, e, eqb-false n 0 q), omega (arith, e, ltb-false 32_767 n r), omega (arith, e, ltb-false D (b + n) s))

-- a run that is read has the size that is told
pub size_of_run : (below : HeadwordOrder) (D : ℕ) (area : List ℕ) (e : Element) (next : Option (List ℕ)) (r : Run) → run_from below D area e next ≡ ok r
    → size_told D area e.block ≡ Ok r.size
size_of_run below D area e next r h =
    let k : RunTold below D area e next r = run_told below D area e next r h in
    let j : e.block + r.size ≤ D = rw (← k.block) k.inside in
    sym (size_good D area e.block (omega (arith, k.some_blocks)) r.size k.size (λ z. omega (arith, k.some_blocks)) k.few_blocks (omega (arith, k.some_blocks)))

-- the bytes of n blocks from block b on, as the code cuts them out
abbrev pub run_slice : List ℕ → ℕ → ℕ → List ℕ
run_slice area b n = take (256 * b + 256 * n - 256 * b) (drop (256 * b) area)

-- which are those of its run
pub slice_same : (area : List ℕ) (b n : ℕ) → run_slice area b n ≡ bytes_at (256 * b) (256 * n) area
unfolding bytes_at
slice_same area b n =
    let k : 256 * b + 256 * n - 256 * b ≡ 256 * n = omega arith in
    rw k

-- as many as it has blocks
pub slice_long : (area : List ℕ) (b n D : ℕ) → 256 * D ≤ length area → b + n ≤ D → length (run_slice area b n) ≡ 256 * n
slice_long area b n D l p = rw (slice_same area b n) (length_bytes_at area (256 * b) (256 * n) (omega arith))
