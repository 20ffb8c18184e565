-- Runs that lie apart are written in any order, and one that stands already need not be.
use Prim.Native.Nat.{ℕ, ◌*◌, ◌≤◌}
use mathlib.Core.Path.{◌≡◌, refl, sym, ap, ◌∙◌}
use mathlib.Core.Logic.{⊎_elim}
use mathlib.Core.List.{List, [], ◌∷◌, ◌++◌, append-nil}
use native.Mathlib.Omega.{arith}
use lib.ListN.{length}
use mathlib.Core.List.Permᴰ
use mathlib.Core.List.{Permᴰ}
use Rattle.spec.specs.Bytes.{write, bytes_at}
use Rattle.spec.specs.Run.{Run}
use Rattle.spec.specs.Place.{runs_written}
use Rattle.spec.proofs.WriteLaws.{length_write, write_swap, write_same}
use Rattle.spec.specs.Sound.{Laid}
use Rattle.spec.proofs.FreeListLaws.{Stands}
use Rattle.spec.proofs.LaidLaws.{laid_perm}
use Rattle.plan.specs.Written.{runs_put}

-- they leave the length
pub length_runs : (D : ℕ) (rs : List Run) (area : List ℕ) → Laid D rs → 256 * D ≤ length area → length (runs_written rs area) ≡ length area
unfolding runs_written
length_runs D [] area l h = refl
length_runs D (r ∷ rs) area (e, i, a, l) h = length_write (256 * r.block) r.bytes (runs_written rs area) (omega (arith, length_runs D rs area l h)) ∙ length_runs D rs area l h

-- two of them in either order
runs_swap : (D : ℕ) (r q : Run) (rs : List Run) (area : List ℕ) → Laid D (r ∷ q ∷ rs) → 256 * D ≤ length area → runs_written (r ∷ q ∷ rs) area ≡ runs_written (q ∷ r ∷ rs) area
unfolding runs_written
runs_swap D r q rs area (e, i, (o, a), (f, j, b, l)) h =
    let n : length (runs_written rs area) ≡ length area = length_runs D rs area l h in
    ⊎_elim
    (λ p. write_swap (runs_written rs area) r.bytes q.bytes (256 * r.block) (256 * q.block) (omega arith) (omega arith))
    (λ p. sym (write_swap (runs_written rs area) q.bytes r.bytes (256 * q.block) (256 * r.block) (omega arith) (omega arith)))
    o

-- in any order
pub runs_perm : (D : ℕ) {l m : List Run} → Permᴰ l m → Laid D l → (area : List ℕ) → 256 * D ≤ length area → runs_written l area ≡ runs_written m area
unfolding runs_written
runs_perm D Permᴰ.nil h area k = refl
runs_perm D (Permᴰ.cons {l₂ = m} e d) (p, i, a, h) area k =
    ap (write _ _) (runs_perm D d h area k) ∙ ap (λ r. write (256 * r.block) r.bytes (runs_written m area)) e
runs_perm D (Permᴰ.swap {a = a} {b = b} {b' = c} {l = l} e f) h area k =
    runs_swap D a b l area h k ∙ ap (λ r. runs_written (b ∷ r ∷ l) area) e ∙ ap (λ r. runs_written (r ∷ c ∷ l) area) f
runs_perm D (Permᴰ.trans d e) h area k = runs_perm D d h area k ∙ runs_perm D e (laid_perm D d h) area k

-- one list after the other
pub runs_joined : (rs qs : List Run) (area : List ℕ) → runs_written (rs ++ qs) area ≡ runs_written rs (runs_written qs area)
unfolding runs_written
runs_joined [] qs area = refl
runs_joined (r ∷ rs) qs area = ap (write (256 * r.block) r.bytes) (runs_joined rs qs area)

-- runs that stand in the area already
pub runs_still : (D : ℕ) (rs : List Run) (area : List ℕ) → Laid D rs → Stands area rs → runs_written rs area ≡ area
unfolding runs_written
runs_still D [] area l s = refl
runs_still D (r ∷ rs) area (e, i, a, l) (s, ss) =
    ap (write (256 * r.block) r.bytes) (runs_still D rs area l ss) ∙ write_same (256 * r.block) r.bytes area (ap (λ (k : ℕ). bytes_at (256 * r.block) k area) e ∙ s)

-- the first one first
pub put_written : (D : ℕ) (rs : List Run) (area : List ℕ) → Laid D rs → 256 * D ≤ length area → runs_put rs area ≡ runs_written rs area
unfolding runs_put runs_written
put_written D [] area l h = refl
put_written D (r ∷ rs) area (e, i, a, l) h =
    let n : length (write (256 * r.block) r.bytes area) ≡ length area = length_write (256 * r.block) r.bytes area (omega arith) in
    put_written D rs (write (256 * r.block) r.bytes area) l (omega arith)
    ∙ sym (runs_joined rs (r ∷ []) area)
    ∙ sym (runs_perm D (Permᴰ.symm (Permᴰ.middle r rs [])) (rw (append-nil rs) (e, i, a, l)) area h)
    ∙ ap (λ (l : List Run). runs_written (r ∷ l) area) (append-nil rs)
