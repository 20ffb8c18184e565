-- Counts that fit the header fit the fields that a change writes. For any layout whose fields are wide enough.
use Prim.Native.Nat.{ℕ, ◌^◌, ◌<◌, ◌≤◌}
use mathlib.Core.List.{List, [], ◌∷◌}
use native.Mathlib.Omega.{arith}
use native.Mathlib.Nat.{pow-le-pow_right}
use lib.Dec.{leb}
use borrow.Author.Tests.{leb-true}
use Rattle.spec.specs.Lists.{All}
use Rattle.spec.specs.Header.{Layout, Counts, change_settings, LawfulLayout, open_header}
use Rattle.spec.proofs.ListsLaws.{all_true}

-- counts that fit the header
pub record CountsFit (c : Counts) : Type 0 where
  pub index_blocks_fit : c.index_blocks < 256 ^ 2
  pub entries_fit : c.entries < 256 ^ 4
  pub first_free_fit : c.first_free < 256 ^ 4
  pub elements_fit : c.elements < 256 ^ 4
  pub run_blocks_fit : c.run_blocks < 256 ^ 4

-- a number of four bytes fits a field at least as wide
four : (n w : ℕ) → n < 256 ^ 4 → 4 ≤ w → n < 256 ^ w
four n w h k = omega (arith, pow-le-pow_right {n = 256} (omega arith) k)

-- counts that fit the header fit their fields
pub numbers_fit : (o : Layout) (law : LawfulLayout o) (c : Counts) (s : List ℕ) → CountsFit c → All (λ w. w.holds < 256 ^ w.field.bytes) (change_settings o c s)
unfolding open_header
numbers_fit o law c s fit = (
  rw law.index_block_width fit.index_blocks_fit,
  (
    four _ _ fit.entries_fit wide.0,
    (
      four _ _ fit.first_free_fit wide.1.0,
      (
        four _ _ fit.elements_fit wide.1.1.0,
        (four _ _ fit.run_blocks_fit wide.1.1.1.0, (four _ _ (omega arith) wide.1.1.1.1.0, tt)),
      ),
    ),
  ),
)
  where
    wide : All (λ f. 4 ≤ f.bytes) (o.nword ∷ o.empty_block2 ∷ o.nindex2 ∷ o.nblock2 ∷ o.update_count ∷ [])
    wide = all_true (λ f. 4 ≤ f.bytes) (λ f. leb 4 f.bytes) (λ f e. leb-true 4 f.bytes e) _ law.count_widths
