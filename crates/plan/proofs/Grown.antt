-- Step 4 of the plan, the index grown by g blocks: what code notes, frees, places, copies and renumbers is what `grown` says.
use Prim.Native.Nat.{ℕ, ◌+◌, ◌-◌, ◌*◌, ◌≤◌, ◌<◌, max}
use mathlib.Core.Path.{◌≡◌, refl, sym, ap, ap₂, subst, ◌∙◌}
use mathlib.Core.Logic.{◌⊎◌, inl, inr}
use mathlib.Core.Bool.{Bool, true, false, not, ◌||◌}
use mathlib.Core.List.{List, [], ◌∷◌, ◌++◌, map, map-append}
use mathlib.Core.List.Permᴰ
use mathlib.Core.List.{Permᴰ}
use native.Mathlib.Nat.{zero-add}
use native.Mathlib.Omega.{arith}
use lib.ListN.{length, get_or, take, drop, replicate, length-map, length-replicate, take-append-drop}
use lib.Seq.{length-take-le}
use lib.Dec.{eqb}
use borrow.Author.Tests.{eq-eqb}
use Rattle.spec.specs.Lists.{any, All}
use Rattle.spec.specs.Bytes.{bytes_at, write}
use Rattle.spec.specs.Run.{Run}
use Rattle.spec.specs.Blocks.{covers, is_free}
use Rattle.spec.specs.Place.{Placed, Move, Grown, at_block, place, in_number_order, touches, moves, new_number, renumbered, grown, element_of, runs_written}
use Rattle.spec.proofs.ListsLaws.{all_append, all_front, all_back, all_map, all_both, less_or, or_right, filter_nothing}
use Rattle.spec.proofs.WriteLaws.{write_right, bytes_at_take}
use Rattle.spec.specs.Sound.{Laid}
use Rattle.spec.proofs.BlocksLaws.{laid_inside, covers_inside, covers_outside, apart_free, free_no}
use Rattle.spec.proofs.LaidLaws.{Sized, moved, all_perm, laid_perm, map_perm, laid_back, laid_differ, laid_wider, placed_beside, staying_from, staying, moving, grown_place, grown_moves, parted, moved_all, moved_from, moved_placed}
use Rattle.spec.proofs.FreeListLaws.{Ascending, ascending_below, Stands}
use Rattle.marks.specs.Marks.{with_range}
use Rattle.marks.proofs.Laws.{length_range, get_range_in, get_range_below, get_range_above}
use Rattle.placing.specs.Spread.{Spread, spread, Marked}
use Rattle.placing.proofs.SpreadLaws.{SpreadIs, free_perm, spread_place, spread_over}
use Rattle.elements.specs.Renewed.{number_after, renewed}
use Rattle.elements.proofs.Laws.{number_moved, number_kept, renewed_none_all}
use Rattle.runs.specs.Size.{size_told}
use Rattle.std.specs.Prelude.{Ok}
use Rattle.runs.proofs.SizeLaws.{blocks_told}
use Rattle.moves.specs.Moved.{noted, starts, size_at, freed, tabled, moved_written}
use Rattle.moves.proofs.Laws.{noted_append, size_by}
use Rattle.moves.proofs.Order.{not_among, starts_ascending, length_noted, noted_moving, get_tabled_moves, number_stays, places_some, tabled_own_starts, touches_above}
use Rattle.plan.specs.Written.{runs_put}
use Rattle.plan.proofs.RunsWritten.{runs_perm, runs_joined, runs_still, put_written}
use Rattle.plan.proofs.Whole.{laid_front}
use Rattle.plan.specs.Growing.{Growing}

-- ---- lists
-- a fact of the values of a function
all_mapped : {A B : Type 0} (P : B → Type 0) (f : A → B) (l : List A) → All P (map f l) → All (λ a. P (f a)) l
all_mapped P f [] h = tt
all_mapped P f (a ∷ l) (h, hs) = (h, all_mapped P f l hs)

-- the same the other way
all_values : {A B : Type 0} (P : B → Type 0) (f : A → B) (l : List A) → All (λ a. P (f a)) l → All P (map f l)
all_values P f [] h = tt
all_values P f (a ∷ l) (h, hs) = (h, all_values P f l hs)

-- functions that agree on all elements
map_same : {A B : Type 0} (f h : A → B) (l : List A) → All (λ a. f a ≡ h a) l → map f l ≡ map h l
map_same f h [] e = refl
map_same f h (a ∷ l) (e, es) = ap₂ (λ (x : _) (y : List _). x ∷ y) e (map_same f h l es)

-- the number of each run is among the numbers of all
own_blocks : (rs : List Run) → All (λ r. any (eqb r.block) (map (λ q. q.block) rs) ≡ true) rs
unfolding any
own_blocks [] = tt
own_blocks (r ∷ rs) =
    (rw (eq-eqb r.block r.block refl), all_map _ _ (λ q h. or_right (eqb q.block r.block) (any (eqb q.block) (map (λ p. p.block) rs)) h) rs (own_blocks rs))

-- ---- blocks free of runs
-- "Then all numbers … fall by g.": a run then covers the blocks that are g lower
covers_fallen : (g b : ℕ) (ms : List Move) (r : Run) → g ≤ new_number ms r.block → covers (g + b) (moved ms r) ≡ covers b (renumbered g ms r)
unfolding renumbered at_block
covers_fallen g b ms r h = go (less_or (g + b) (new_number ms r.block)) (less_or (g + b) (new_number ms r.block + r.size))
  where
    go : (g + b < new_number ms r.block) ⊎ (new_number ms r.block ≤ g + b) → (g + b < new_number ms r.block + r.size) ⊎ (new_number ms r.block + r.size ≤ g + b)
        → covers (g + b) (moved ms r) ≡ covers b (renumbered g ms r)
    go (inl x) y = covers_outside (moved ms r) (g + b) (inl x) ∙ sym (covers_outside (renumbered g ms r) b (inl (omega arith)))
    go (inr x) (inl y) = covers_inside (moved ms r) (g + b) x y ∙ sym (covers_inside (renumbered g ms r) b (omega arith) (omega arith))
    go (inr x) (inr y) = covers_outside (moved ms r) (g + b) (inr y) ∙ sym (covers_outside (renumbered g ms r) b (inr (omega arith)))

-- so of all runs
free_fallen : (g b : ℕ) (ms : List Move) (rs : List Run) → All (λ r. g ≤ r.block) (map (moved ms) rs) → is_free (map (moved ms) rs) (g + b) ≡ is_free (map (renumbered g ms) rs) b
unfolding is_free any at_block
free_fallen g b ms rs f = ap not (anys rs f)
  where
    anys : (rs : List Run) → All (λ r. g ≤ r.block) (map (moved ms) rs) → any (covers (g + b)) (map (moved ms) rs) ≡ any (covers b) (map (renumbered g ms) rs)
    anys [] f = refl
    anys (r ∷ rs) (f, fs) = ap₂ (λ (x y : Bool). x || y) (covers_fallen g b ms r f) (anys rs fs)

-- ---- runs freed
-- the marks in any order of the runs
pub marked_perm : (o g d : ℕ) (ms : List Bool) {l m : List Run} → Permᴰ l m → Marked o g d ms l → Marked o g d ms m
marked_perm o g d ms e m = record { inside = λ x p q. m.inside x p q ∙ free_perm e x; beyond = m.beyond }

-- a run freed: the marks are those of the other runs
pub freed_one : (D n : ℕ) (ms : List Bool) (r : Run) (rest : List Run) → Laid D (r ∷ rest) → n ≡ r.size → D ≤ length ms → Marked 0 0 D ms (r ∷ rest)
    → Marked 0 0 D (with_range r.block n true ms) rest
freed_one D n ms r rest (e, i, a, l) z long m =
    record { inside = λ x p₁ p₂. inner x p₂ (less_or x r.block) (less_or x (r.block + n)); beyond = λ x p. past x p }
  where
    past : (x : ℕ) → D ≤ x → get_or (with_range r.block n true ms) (0 + x) false ≡ false
    past x p = get_range_above r.block n (0 + x) true false ms (omega arith) (omega arith) ∙ m.beyond x p

    -- a block that the run does not cover
    other : (x : ℕ) → x < D → (x < r.block) ⊎ (r.block + r.size ≤ x) → get_or ms (0 + x) false ≡ is_free rest x
    other x p c = m.inside x (omega arith) p ∙ free_no x r rest (covers_outside r x c)

    inner : (x : ℕ) → x < D → (x < r.block) ⊎ (r.block ≤ x) → (x < r.block + n) ⊎ (r.block + n ≤ x) → get_or (with_range r.block n true ms) (0 + x) false ≡ is_free rest x
    inner x p (inl u) v = get_range_below r.block n (0 + x) true false ms (omega arith) (omega arith) ∙ other x p (inl u)
    inner x p (inr u) (inl v) = get_range_in r.block n (0 + x) true false ms (omega arith) (omega arith) (omega arith) ∙ sym (apart_free x r.block r.size rest u (omega arith) a)
    inner x p (inr u) (inr v) = get_range_above r.block n (0 + x) true false ms (omega arith) (omega arith) ∙ other x p (inr (omega arith))

-- the run between others freed
pub freed_between : (D n : ℕ) (ms : List Bool) (before : List Run) (r : Run) (after : List Run) → Laid D (before ++ r ∷ after) → n ≡ r.size → D ≤ length ms → Marked 0 0 D ms (before ++ r ∷ after)
    → Marked 0 0 D (with_range r.block n true ms) (before ++ after)
freed_between D n ms before r after l z long m =
    freed_one D n ms r (before ++ after) (laid_perm D (Permᴰ.middle r before after) l) z long (marked_perm 0 0 D ms (Permᴰ.middle r before after) m)

-- several runs freed
freed_marked : (area : List ℕ) (D : ℕ) (ms : List Bool) (rs rest : List Run) → Laid D (rs ++ rest) → All (λ r. size_at area D r.block ≡ r.size) rs → D ≤ length ms → Marked 0 0 D ms (rs ++ rest)
    → Marked 0 0 D (freed area D (map (λ r. r.block) rs) ms) rest × (length (freed area D (map (λ r. r.block) rs) ms) ≡ length ms)
unfolding freed
freed_marked area D ms [] rest l z long m = (m, refl)
freed_marked area D ms (r ∷ rs) rest (e, i, a, l) (z, zs) long m =
    let ns : List Bool = with_range r.block (size_at area D r.block) true ms in
    let n : length ns ≡ length ms = length_range r.block (size_at area D r.block) true ms (omega arith) in
    let (x, y) = freed_marked area D ns rs rest l zs (omega arith) (freed_one D (size_at area D r.block) ms r (rs ++ rest) (e, i, a, l) z long m) in
    (x, y ∙ n)

-- the blocks from g up, of at least g
marked_from : (g D : ℕ) (ms : List Bool) (rs : List Run) → Marked 0 0 D ms rs → Marked 0 g (max D g) ms rs
marked_from g D ms rs m = record { inside = λ x p q. m.inside x (omega arith) (omega arith); beyond = λ x p. m.beyond x (omega arith) }

-- ---- runs copied
-- the area tells the size of a run
abbrev pub Told : List ℕ → ℕ → Run → Type 0
Told area D r = Ok r.size ≡ size_told D area r.block

-- what a table of new places must say of a run that is copied
abbrev Copied : List ℕ → ℕ → List ℕ → List Move → Run → Type 0
Copied area D T ms r = (get_or T r.block 0 ≡ new_number ms r.block) × (bytes_at (256 * r.block) (256 * size_at area D r.block) area ≡ r.bytes)

-- runs copied by the table are runs put at their new places
copied_put : (area : List ℕ) (D : ℕ) (T : List ℕ) (ms : List Move) (rs : List Run) (A : List ℕ) → All (Copied area D T ms) rs
    → moved_written area D T (map (λ r. r.block) rs) A ≡ runs_put (map (moved ms) rs) A
unfolding moved_written runs_put at_block
copied_put area D T ms [] A h = refl
copied_put area D T ms (r ∷ rs) A ((p, q), hs) =
    ap₂ (λ (b : ℕ) (x : List ℕ). moved_written area D T (map (λ r. r.block) rs) (write (256 * b) x A)) p q ∙ copied_put area D T ms rs (write (256 * new_number ms r.block) r.bytes A) hs

-- runs at blocks from g up are written behind the first g
written_fallen : (g : ℕ) (ms : List Move) (rs : List Run) (H B : List ℕ) → length H ≡ 256 * g → All (λ r. g ≤ r.block) (map (moved ms) rs)
    → runs_written (map (moved ms) rs) (H ++ B) ≡ H ++ runs_written (map (renumbered g ms) rs) B
unfolding runs_written renumbered at_block
written_fallen g ms [] H B l f = refl
written_fallen g ms (r ∷ rs) H B l (f, fs) =
    let n : ℕ = new_number ms r.block in
    let e : 256 * n - length H ≡ 256 * (n - g) = omega arith in
    ap (write (256 * n) r.bytes) (written_fallen g ms rs H B l fs) ∙ write_right (256 * n) r.bytes H (runs_written (map (renumbered g ms) rs) B) (omega arith)
    ∙ ap (λ (k : ℕ). H ++ write k r.bytes (runs_written (map (renumbered g ms) rs) B)) e

-- runs that stand in the first D blocks
stands_longer : (D : ℕ) (area A : List ℕ) (rs : List Run) → take (256 * D) A ≡ area → All (λ r. r.block + r.size ≤ D) rs → Stands area rs → Stands A rs
stands_longer D area A rs e i s =
    all_both _ _ _ (λ r p q. sym (bytes_at_take (256 * r.block) (256 * r.size) (256 * D) A (omega arith)) ∙ ap (bytes_at (256 * r.block) (256 * r.size)) e ∙ q) rs i s

-- the sizes by the area are those of the runs
sizes_same : (area : List ℕ) (D : ℕ) (rs : List Run) → All (λ r. size_at area D r.block ≡ r.size) rs → map (size_at area D) (map (λ r. r.block) rs) ≡ map (λ r. r.size) rs
sizes_same area D [] h = refl
sizes_same area D (r ∷ rs) (h, hs) = ap₂ (λ (n : ℕ) (l : List ℕ). n ∷ l) h (sizes_same area D rs hs)

-- elements with their numbers renewed are those of the renumbered runs
renewed_runs : (T : List ℕ) (g : ℕ) (ms : List Move) (rs : List Run) → All (λ r. number_after T g r.block ≡ new_number ms r.block - g) rs
    → map (renewed T g) (map element_of rs) ≡ map element_of (map (renumbered g ms) rs)
unfolding renewed element_of renumbered at_block
renewed_runs T g ms [] h = refl
renewed_runs T g ms (r ∷ rs) (h, hs) = rw (h, renewed_runs T g ms rs hs)

module _ (area : List ℕ) (D g k : ℕ) (before after : List Run) (ms₀ : List Bool) where
  -- the runs before and after the run concerned
  abbrev rs : List Run
  rs = before ++ after

  -- the table of the first blocks at which runs start
  abbrev T₀ : List ℕ
  T₀ = noted g (map (λ r. r.block) rs) (replicate k 0)

  -- the marks with the runs that move freed
  abbrev ms₁ : List Bool
  ms₁ = freed area D (starts 0 g T₀) ms₀

  -- these runs placed
  abbrev sp : Spread
  sp = spread g (max D g) ms₁ (map (size_at area D) (starts 0 g T₀))

  -- the table with their places
  abbrev T : List ℕ
  T = tabled (starts 0 g T₀) sp.places T₀

  -- what the specification says of them
  abbrev m : Grown
  m = grown g D before after

  -- the runs that move, in order of old number
  abbrev mv : List Run
  mv = moving g D rs

  -- the runs that stay
  abbrev st : List Run
  st = staying g D rs

  -- the moving runs placed
  abbrev gp : Placed
  gp = grown_place g D rs

  -- their moves
  abbrev gm : List Move
  gm = grown_moves g D rs

  -- all runs, renumbered
  all_are : m.before ++ m.after ≡ map (renumbered g gm) rs
  unfolding grown staying moving grown_place grown_moves
  all_are = sym (map-append (renumbered g gm) before after)

  -- D then
  blocks_are : m.data_blocks ≡ gp.data_blocks - g
  unfolding grown staying moving grown_place
  blocks_are = refl

  module _
      (some : 1 ≤ g)
      (room : g ≤ k)
      (laid : Laid D rs)
      (sized : All Sized rs)
      (stands : Stands area rs)
      (told : All (Told area D) rs)
      (marked₀ : Marked 0 0 D ms₀ rs)
      (wide : D ≤ length ms₀) where
    -- the moving and the staying runs lie apart
    parts_laid : Laid D (mv ++ st)
    parts_laid = laid_perm D (Permᴰ.symm (parted g D rs)) laid

    -- and have the bytes of their blocks
    parts_sized : All Sized (mv ++ st)
    parts_sized = all_perm Sized (Permᴰ.symm (parted g D rs)) sized

    -- the table names the runs that move
    starts_are : starts 0 g T₀ ≡ map (λ r. r.block) mv
    unfolding moving
    starts_are = noted_moving g k D rs room laid sized

    -- in order
    starts_ascend : Ascending 0 g (map (λ r. r.block) mv)
    starts_ascend = subst (λ (n : ℕ). Ascending 0 n (map (λ r. r.block) mv)) (zero-add g) (subst (Ascending 0 (0 + g)) starts_are (starts_ascending T₀ 0 g))

    -- the area tells the size of each run that moves
    moving_told : All (Told area D) mv
    moving_told = all_front _ mv st (all_perm _ (Permᴰ.symm (parted g D rs)) told)

    -- so code has it
    moving_sizes : All (λ r. size_at area D r.block ≡ r.size) mv
    moving_sizes = all_map (Told area D) _ (λ r e. sym (size_by area D r.block r.size e)) mv moving_told

    -- in order
    sizes : map (size_at area D) (starts 0 g T₀) ≡ map (λ r. r.size) mv
    sizes = ap (map (size_at area D)) starts_are ∙ sizes_same area D mv moving_sizes

    -- the marks after freeing
    marks_freed : Marked 0 0 D ms₁ st × (length ms₁ ≡ length ms₀)
    marks_freed =
        let r = freed_marked area D ms₀ mv st parts_laid moving_sizes wide
        (marked_perm 0 0 D ms₀ (Permᴰ.symm (parted g D rs)) marked₀) in
        subst (λ (l : List ℕ). Marked 0 0 D (freed area D l ms₀) st × (length (freed area D l ms₀) ≡ length ms₀)) (sym starts_are) r

    -- the runs placed by their sizes
    sp_is : sp ≡ spread (0 + g) (0 + max D g) ms₁ (map (λ r. r.size) mv)
    sp_is = ap (spread g (max D g) ms₁) sizes ∙ ap₂ (λ (a b : ℕ). spread a b ms₁ (map (λ r. r.size) mv)) (sym (zero-add g)) (sym (zero-add (max D g)))

    -- where placing on the marks passes a limit, so do the blocks of the specification
    over : (limit : ℕ) → max D g ≤ limit → limit + 32_767 ≤ length ms₀ → limit < sp.end → limit < g + m.data_blocks
    unfolding grown_place
    over limit p l h =
        let q = spread_over 0 g (max D g) limit 32_767 ms₁ st mv (omega arith) (omega arith) (omega (arith, marks_freed.1))
        (all_map (Told area D) _ (λ r e. let t = blocks_told D area r.block _ e r.size refl in (t.2, t.3)) mv moving_told)
        (marked_from g D ms₁ st marks_freed.0) (subst (λ (x : Spread). limit < x.end) sp_is h) in
        omega (arith, q, blocks_are)

    module _ (fits : sp.end ≤ length ms₀) where
      -- placing on the marks is placing among the runs that stay
      spreads : SpreadIs 0 g (max D g) ms₁ st mv
      spreads =
          spread_place 0 g (max D g) ms₁ st mv (omega arith) (all_map Sized _ (λ r s. s.0) mv (all_front Sized mv st parts_sized)) (marked_from g D ms₁ st marks_freed.0)
          (omega (arith, fits, ap (λ (x : Spread). x.end) sp_is, marks_freed.1))

      -- the places are those of the runs placed
      places_are : sp.places ≡ map (λ r. r.block) gp.runs
      unfolding grown_place
      places_are = ap (λ (x : Spread). x.places) sp_is ∙ spreads.places ∙ map_same _ _ gp.runs (every gp.runs)
        where
          every : (l : List Run) → All (λ r. 0 + r.block ≡ r.block) l
          every [] = tt
          every (r ∷ l) = (zero-add r.block, every l)

      -- so is the end
      end_place : sp.end ≡ gp.data_blocks
      unfolding grown_place
      end_place = ap (λ (x : Spread). x.end) sp_is ∙ spreads.end ∙ zero-add gp.data_blocks

      -- the table with these places
      table_is : T ≡ tabled (map (λ r. r.block) mv) (map (λ r. r.block) gp.runs) T₀
      table_is = ap₂ (λ (x y : List ℕ). tabled x y T₀) starts_are places_are

      -- the moving runs, placed
      placed_are : map (moved gm) mv ≡ gp.runs
      unfolding grown_place grown_moves
      placed_are = moved_placed g (max D g) st mv (laid_differ D mv st parts_laid parts_sized).0

      -- their new numbers are in the table
      numbers : All (λ r. get_or T r.block 0 ≡ new_number gm r.block) mv
      unfolding grown_moves
      numbers =
          let n : length gp.runs ≡ length mv = sym (ap length placed_are) ∙ length-map mv (moved gm) in
          all_map _ _ (λ r h. ap (λ (x : List ℕ). get_or x r.block 0) table_is
          ∙ get_tabled_moves 0 g mv gp.runs T₀ r.block starts_ascend
          (omega (arith, length_noted g (map (λ r. r.block) rs) (replicate k 0), length-replicate {A = ℕ} k 0)) n h) mv (own_blocks mv)

      -- they started among the first g blocks
      moving_below : All (λ r. r.block < g) mv
      moving_below = all_mapped (λ b. b < g) (λ r. r.block) mv (ascending_below 0 g (map (λ r. r.block) mv) starts_ascend)

      -- the others did not
      staying_above : All (λ r. g ≤ r.block) st
      unfolding staying
      staying_above = staying_from g rs (all_back Sized mv st parts_sized)

      -- each run's number by the table is that by the moves
      numbers_after : All (λ r. number_after T g r.block ≡ new_number gm r.block - g) rs
      unfolding grown_moves
      numbers_after =
          all_perm _ (parted g D rs) (all_append _ mv st
          (all_both _ _ _ (λ r p q. number_moved T g r.block p ∙ ap (λ (n : ℕ). n - g) q) mv moving_below numbers)
          (all_map _ _
          (λ r p. number_kept T g r.block p ∙ ap (λ (n : ℕ). n - g) (sym (number_stays mv gp.runs r.block (not_among r.block 0 g (map (λ r. r.block) mv) (inr p) starts_ascend))))
          st staying_above))

      -- the runs start at the same blocks after placing
      starts_after : starts 0 g T ≡ map (λ r. r.block) mv
      starts_after = tabled_own_starts sp.places T₀ g (places_some g (max D g) ms₁ (map (size_at area D) (starts 0 g T₀)) some (omega arith)) ∙ starts_are

      -- the runs at their new places lie apart
      placed_laid : Laid gp.data_blocks (gp.runs ++ st)
      unfolding grown_place
      placed_laid = placed_beside g (max D g) st mv (laid_wider D (max D g) st (omega arith) (laid_back D mv st parts_laid)) (all_back Sized mv st parts_sized) (all_front Sized mv st parts_sized)

      -- the moved ones inside the blocks
      moving_inside : All (λ r. new_number gm r.block + r.size ≤ gp.data_blocks) mv
      unfolding at_block
      moving_inside =
          all_mapped (λ r. r.block + r.size ≤ gp.data_blocks) (moved gm) mv
          (subst (All (λ (r : Run). r.block + r.size ≤ gp.data_blocks)) (sym placed_are) (all_front _ gp.runs st (laid_inside gp.data_blocks (gp.runs ++ st) placed_laid)))

      -- of which there are at least g
      above : g ≤ gp.data_blocks
      unfolding grown_place
      above = spreads.above

      -- the marks after placing
      placed_marked : Marked 0 g gp.data_blocks (spread (0 + g) (0 + max D g) ms₁ (map (λ r. r.size) mv)).free (gp.runs ++ st)
      unfolding grown_place
      placed_marked = spreads.marked

      -- D after the moves
      pub grown_end : sp.end ≡ g + m.data_blocks
      grown_end = omega (arith, end_place, above, blocks_are)

      -- the marks of the free blocks after the moves: the number of a block is g less than the place of its mark
      pub grown_marked : Marked g 0 m.data_blocks sp.free (m.before ++ m.after)
      grown_marked = record { inside = λ b p q. inner b q; beyond = λ b p. past b p }
        where
          free_is : sp.free ≡ (spread (0 + g) (0 + max D g) ms₁ (map (λ r. r.size) mv)).free
          free_is = ap (λ (x : Spread). x.free) sp_is

          at : (b : ℕ) → get_or sp.free (g + b) false ≡ get_or (spread (0 + g) (0 + max D g) ms₁ (map (λ r. r.size) mv)).free (0 + (g + b)) false
          at b = ap₂ (λ (l : List Bool) (j : ℕ). get_or l j false) free_is (sym (zero-add (g + b)))

          inner : (b : ℕ) → b < m.data_blocks → get_or sp.free (g + b) false ≡ is_free (m.before ++ m.after) b
          inner b q =
              at b ∙ placed_marked.inside (g + b) (omega arith) (omega (arith, blocks_are))
              ∙ ap (λ (l : List Run). is_free l (g + b)) (sym (moved_all g D rs laid sized))
              ∙ free_perm (map_perm (moved gm) (parted g D rs)) (g + b)
              ∙ free_fallen g b gm rs (moved_from g D rs laid sized)
              ∙ ap (λ (l : List Run). is_free l b) (sym all_are)

          past : (b : ℕ) → m.data_blocks ≤ b → get_or sp.free (g + b) false ≡ false
          past b p = at b ∙ placed_marked.beyond (g + b) (omega (arith, blocks_are, above))

      -- there are as many marks as before
      pub grown_long : length sp.free ≡ length ms₀
      grown_long = ap (λ (x : Spread). length x.free) sp_is ∙ spreads.long ∙ marks_freed.1

      -- the elements with their numbers renewed are those of the runs before the run concerned
      pub grown_before : map (renewed T g) (map element_of before) ≡ map element_of m.before
      unfolding grown staying moving grown_place grown_moves
      grown_before = renewed_runs T g gm before (all_front _ before after numbers_after)

      -- and of those after it
      pub grown_after : map (renewed T g) (map element_of after) ≡ map element_of m.after
      unfolding grown staying moving grown_place grown_moves
      grown_after = renewed_runs T g gm after (all_back _ before after numbers_after)

      -- each run that moves starts among the old blocks, and its new place is inside the new ones
      pub grown_inside : All (λ b. (b < D) × (get_or T b 0 + size_at area D b ≤ sp.end)) (starts 0 g T)
      grown_inside = subst (All (λ b. (b < D) × (get_or T b 0 + size_at area D b ≤ sp.end))) (sym starts_after) (all_values _ (λ r. r.block) mv ready)
        where
          old : All (λ r. r.block < D) mv
          old = all_both _ _ _ (λ r s i. omega (arith, s, i)) mv (all_front Sized mv st parts_sized) (all_front _ mv st (laid_inside D (mv ++ st) parts_laid))

          new : All (λ r. get_or T r.block 0 + size_at area D r.block ≤ sp.end) mv
          new =
              all_both _ _ _ (λ r p q. omega (arith, p, q, end_place)) mv numbers
              (all_both _ _ (λ r. new_number gm r.block + size_at area D r.block ≤ gp.data_blocks) (λ r p q. omega (arith, p, q)) mv moving_sizes
              moving_inside)

          ready : All (λ r. (r.block < D) × (get_or T r.block 0 + size_at area D r.block ≤ sp.end)) mv
          ready = all_both _ _ _ (λ r p q. (p, q)) mv old new

      -- the bytes of the runs that move
      copied : All (Copied area D T gm) mv
      copied =
          all_both _ _ _ (λ r p q. (p, q)) mv numbers
          (all_both _ _ _ (λ r p q. ap (λ (n : ℕ). bytes_at (256 * r.block) (256 * n) area) p ∙ q) mv moving_sizes (all_front _ mv st (all_perm _ (Permᴰ.symm (parted g D rs)) stands)))

      -- the runs copied are all runs written behind the first g blocks
      pub grown_written : (A : List ℕ) → take (256 * D) A ≡ area → 256 * sp.end ≤ length A
          → moved_written area D T (starts 0 g T) A ≡ take (256 * g) A ++ runs_written (m.before ++ m.after) (drop (256 * g) A)
      grown_written A e l =
          let E : ℕ = gp.data_blocks in
          let n : 256 * E ≤ length A = omega (arith, end_place) in
          let h : length (take (256 * g) A) ≡ 256 * g = length-take-le (256 * g) A (omega (arith, above)) in
          let s : Stands A st = stands_longer D area A st e (all_back _ mv st (laid_inside D (mv ++ st) parts_laid)) (all_back _ mv st (all_perm _ (Permᴰ.symm (parted g D rs)) stands)) in
          ap (λ (x : List ℕ). moved_written area D T x A) starts_after
          ∙ copied_put area D T gm mv A copied
          ∙ ap (λ (x : List Run). runs_put x A) placed_are
          ∙ put_written E gp.runs A (laid_front E gp.runs st placed_laid) n
          ∙ ap (runs_written gp.runs) (sym (runs_still E st A (laid_back E gp.runs st placed_laid) s))
          ∙ sym (runs_joined gp.runs st A)
          ∙ ap (λ (x : List Run). runs_written x A) (sym (moved_all g D rs laid sized))
          ∙ runs_perm E (map_perm (moved gm) (parted g D rs)) (rw (moved_all g D rs laid sized) placed_laid) A n
          ∙ ap (runs_written (map (moved gm) rs)) (sym (take-append-drop (256 * g) A))
          ∙ written_fallen g gm rs (take (256 * g) A) (drop (256 * g) A) h (moved_from g D rs laid sized)
          ∙ ap (λ (x : List Run). take (256 * g) A ++ runs_written x (drop (256 * g) A)) (sym all_are)

      -- all of it
      values_grown : Growing area D g before after (length ms₀) T sp.end sp.free
      values_grown =
          record {
            end_is = grown_end;
            marked = grown_marked;
            long = grown_long;
            before_new = grown_before;
            after_new = grown_after;
            moved_inside = grown_inside;
            moved_is = grown_written;
          }

-- the same of the values that code has
pub index_grown : (area : List ℕ) (D g k : ℕ) (before after : List Run) (ms₀ : List Bool) → 1 ≤ g → g ≤ k → Laid D (before ++ after) → All Sized (before ++ after) → Stands area (before ++ after)
    → All (Told area D) (before ++ after) → Marked 0 0 D ms₀ (before ++ after)
    → (T₀ T : List ℕ) (ms₁ free : List Bool) (end : ℕ)
    → T₀ ≡ noted g (map (λ r. r.block) (before ++ after)) (replicate k 0)
    → ms₁ ≡ freed area D (starts 0 g T₀) ms₀
    → end ≡ (spread g (max D g) ms₁ (map (size_at area D) (starts 0 g T₀))).end
    → free ≡ (spread g (max D g) ms₁ (map (size_at area D) (starts 0 g T₀))).free
    → T ≡ tabled (starts 0 g T₀) (spread g (max D g) ms₁ (map (size_at area D) (starts 0 g T₀))).places T₀
    → D ≤ length ms₀ → end ≤ length ms₀ → Growing area D g before after (length ms₀) T end free
index_grown area D g k before after ms₀ some room laid sized stands told marked₀ T₀ T ms₁ free end e₁ e₂ e₃ e₄ e₅ wide fits =
    rw (e₅, e₄, e₃, e₂, e₁) (values_grown area D g k before after ms₀ some room laid sized stands told marked₀ wide (rw (e₃, e₂, e₁) at fits))

-- the same where there are too many blocks
pub index_over : (area : List ℕ) (D g k : ℕ) (before after : List Run) (ms₀ : List Bool) → 1 ≤ g → g ≤ k → Laid D (before ++ after) → All Sized (before ++ after) → Stands area (before ++ after)
    → All (Told area D) (before ++ after) → Marked 0 0 D ms₀ (before ++ after)
    → (T₀ : List ℕ) (ms₁ : List Bool) (limit : ℕ)
    → T₀ ≡ noted g (map (λ r. r.block) (before ++ after)) (replicate k 0)
    → ms₁ ≡ freed area D (starts 0 g T₀) ms₀
    → max D g ≤ limit → limit + 32_767 ≤ length ms₀ → limit < (spread g (max D g) ms₁ (map (size_at area D) (starts 0 g T₀))).end → limit < g + (grown g D before after).data_blocks
index_over area D g k before after ms₀ some room laid sized stands told marked₀ T₀ ms₁ limit e₁ e₂ p l h =
    over area D g k before after ms₀ some room laid sized stands told marked₀ (omega arith) limit p l (rw (e₂, e₁) at h)

-- the blocks of the elements are those of the runs
element_blocks : (rs : List Run) → map (λ e. e.block) (map element_of rs) ≡ map (λ r. r.block) rs
unfolding element_of
element_blocks [] = refl
element_blocks (r ∷ rs) = ap (λ (l : List ℕ). r.block ∷ l) (element_blocks rs)

-- the blocks noted of the elements before the run concerned, then of those after it
pub noted_both : (g : ℕ) (before after : List Run) (T : List ℕ)
    → noted g (map (λ e. e.block) (map element_of after)) (noted g (map (λ e. e.block) (map element_of before)) T) ≡ noted g (map (λ r. r.block) (before ++ after)) T
noted_both g before after T =
    rw (element_blocks before, element_blocks after, map-append (λ (r : Run). r.block) before after) (sym (noted_append g (map (λ r. r.block) before) (map (λ r. r.block) after) T))

-- ---- an index that does not grow
-- no run moves
moving_none : (D : ℕ) (rs : List Run) → moving 0 D rs ≡ []
unfolding moving in_number_order
moving_none D rs = ap in_number_order (filter_nothing (touches 0) rs (none rs))
  where
    none : (l : List Run) → All (λ r. touches 0 r ≡ false) l
    none [] = tt
    none (r ∷ l) = (touches_above 0 r (omega arith), none l)

-- there is no move
moves_none : (D : ℕ) (rs : List Run) → grown_moves 0 D rs ≡ []
unfolding grown_moves moves
moves_none D rs = rw (moving_none D rs)

-- D stays
blocks_none : (D : ℕ) (rs : List Run) → (grown_place 0 D rs).data_blocks ≡ D
unfolding grown_place place
blocks_none D rs = rw (moving_none D rs) (omega arith)

-- no number changes
renumbered_none : (rs : List Run) → map (renumbered 0 []) rs ≡ rs
unfolding renumbered new_number at_block
renumbered_none [] = refl
renumbered_none (r ∷ rs) =
    let e : r.block - 0 ≡ r.block = omega arith in
    rw e (ap (λ (l : List Run). r ∷ l) (renumbered_none rs))

module _ (D : ℕ) (before after : List Run) where
  -- the runs before the run concerned stay
  pub still_before : (grown 0 D before after).before ≡ before
  unfolding grown staying moving grown_place grown_moves
  still_before = ap (λ (ms : List Move). map (renumbered 0 ms) before) (moves_none D (before ++ after)) ∙ renumbered_none before

  -- so do those after it
  pub still_after : (grown 0 D before after).after ≡ after
  unfolding grown staying moving grown_place grown_moves
  still_after = ap (λ (ms : List Move). map (renumbered 0 ms) after) (moves_none D (before ++ after)) ∙ renumbered_none after

  -- and D
  pub still_blocks : (grown 0 D before after).data_blocks ≡ D
  unfolding grown staying moving grown_place
  still_blocks = omega (arith, blocks_none D (before ++ after))

  -- all of it
  pub still_grown : grown 0 D before after ≡ record { before = before; after = after; data_blocks = D }
  still_grown = ap₂ (λ (b a : List Run). with_blocks b a (grown 0 D before after).data_blocks) still_before still_after ∙ ap (with_blocks before after) still_blocks
    where
      with_blocks : List Run → List Run → ℕ → Grown
      with_blocks b a n = record { before = b; after = a; data_blocks = n }

  -- the marks stay
  pub still_marked : (o : ℕ) (ms : List Bool) → Marked o 0 D ms (before ++ after)
      → Marked o 0 (grown 0 D before after).data_blocks ms ((grown 0 D before after).before ++ (grown 0 D before after).after)
  still_marked o ms m = rw still_grown m

  -- the elements of the runs before the run concerned stay
  pub still_before_new : (T : List ℕ) → map (renewed T 0) (map element_of before) ≡ map element_of (grown 0 D before after).before
  still_before_new T = renewed_none_all T (map element_of before) ∙ ap (map element_of) (sym still_before)

  -- so do those of the runs after it
  pub still_after_new : (T : List ℕ) → map (renewed T 0) (map element_of after) ≡ map element_of (grown 0 D before after).after
  still_after_new T = renewed_none_all T (map element_of after) ∙ ap (map element_of) (sym still_after)

  module _ (area A : List ℕ) (laid : Laid D (before ++ after)) (stands : Stands area (before ++ after)) (e : take (256 * D) A ≡ area) where
    -- and the blocks: all runs stand there already
    pub still_runs : runs_written (before ++ after) A ≡ A
    still_runs = runs_still D (before ++ after) A laid (stands_longer D area A (before ++ after) e (laid_inside D (before ++ after) laid) stands)

    -- the same as `grown` says it
    pub still_written : runs_written ((grown 0 D before after).before ++ (grown 0 D before after).after) A ≡ A
    still_written = rw (still_before, still_after) still_runs

-- no run moves out of no block
pub starts_no_block : (T : List ℕ) → starts 0 0 T ≡ []
unfolding starts
starts_no_block T = refl

-- all that is known of a grown index, of one that does not grow
pub index_still : (area : List ℕ) (D : ℕ) (before after : List Run) (ms₀ : List Bool) (T : List ℕ) → Laid D (before ++ after) → Stands area (before ++ after) → Marked 0 0 D ms₀ (before ++ after)
    → Growing area D 0 before after (length ms₀) T D ms₀
unfolding moved_written
index_still area D before after ms₀ T laid stands marked₀ =
    record {
      end_is = omega (arith, still_blocks D before after);
      marked = still_marked D before after 0 ms₀ marked₀;
      long = refl;
      before_new = still_before_new D before after T;
      after_new = still_after_new D before after T;
      moved_inside = rw (starts_no_block T) tt;
      moved_is = λ A e l. rw (starts_no_block T) (sym (still_written D before after area A laid stands e));
    }
