-- The plan of a change by its numbers: where the new runs go, when there is no room, and what is written then.
use Prim.Native.Nat.{ℕ, ◌+◌, ◌-◌, ◌≤◌, ◌<◌, max}
use mathlib.Core.Path.{◌≡◌, refl, sym, ap, ap₂, subst, ◌∙◌}
use mathlib.Core.Bool.{Bool, true, false, ◌||◌}
use mathlib.Core.List.{List, [], ◌∷◌, ◌++◌, map, append_assoc}
use mathlib.Core.List.{Permᴰ}
use native.Mathlib.Omega.{arith}
use lib.ListN.{length, take, drop}
use lib.Dec.{ltb}
use borrow.Author.Tests.{lt-ltb, le-ltb}
use Rattle.spec.specs.Bytes.{blocks_for}
use Rattle.spec.specs.Header.{Format, changed_header, header_bytes, block_position}
use Rattle.spec.specs.Entry.{Entry}
use Rattle.spec.specs.Run.{Run, run_size, encoded_size}
use Rattle.spec.specs.Index.{index_need, index_bytes}
use Rattle.spec.specs.Blocks.{is_free, place_for, free_blocks, free_list_written}
use Rattle.spec.specs.Check.{Image, data_start, data_area, frame_length}
use Rattle.spec.specs.Place.{Target, Placed, Grown, target_run, cut, new_run, at_block, with_run, place, element_of, grown, plan_change, plan_full, plan_counts, plan_written, runs_written}
use Rattle.spec.specs.Calls.{plan_length}
use Rattle.spec.specs.Lists.{All}
use Rattle.spec.proofs.ListsLaws.{all_map, or_right}
use Rattle.spec.specs.Sound.{plan_of}
use Rattle.spec.proofs.LaidLaws.{between_perm}
use Rattle.chain.specs.Numbers.{numbers}
use Rattle.chain.proofs.Laws.{numbers_filter}
use Rattle.placing.specs.Spread.{Spread, spread, Marked}
use Rattle.placing.proofs.SpreadLaws.{SpreadIs, free_perm, marked_part, spread_place, spread_over}
use Rattle.moves.proofs.Order.{filter_range}
use Rattle.plan.specs.Written.{part_runs}

-- the plan of a change by the index's growth, the runs under it, and the new runs' places
pub plan_is : (F : Format) (i : Image) (h : List ℕ) (f : List Entry → List Entry) (n d g : ℕ) → n ≡ i.frame.index_blocks → d ≡ i.frame.data_blocks
    → let c : Target = target_run F.below h i.runs in
    let ps : List Run = map new_run (cut F.run_limit (f c.entries)) in
    let m : Grown = grown g d c.before c.after in
    let p : Placed = place 0 m.data_blocks (m.before ++ m.after) ps in
    g ≡ index_need F.number_width (map element_of (c.before ++ ps ++ c.after)) - n → plan_change F i h f ≡ plan_of F (n + g) p.data_blocks (m.before ++ p.runs ++ m.after)
unfolding plan_change
plan_is F i h f n d g en ed eg = rw (eg, en, ed)

-- the same by the parts as they are known
pub plan_parts : (F : Format) (i : Image) (h : List ℕ) (f : List Entry → List Entry) (n d g : ℕ) → n ≡ i.frame.index_blocks → d ≡ i.frame.data_blocks
    → (qs : List (List Entry)) → cut F.run_limit (f (target_run F.below h i.runs).entries) ≡ qs
    → let c : Target = target_run F.below h i.runs in
    let ps : List Run = map new_run qs in
    let m : Grown = grown g d c.before c.after in
    let p : Placed = place 0 m.data_blocks (m.before ++ m.after) ps in
    g ≡ index_need F.number_width (map element_of (c.before ++ ps ++ c.after)) - n → plan_change F i h f ≡ plan_of F (n + g) p.data_blocks (m.before ++ p.runs ++ m.after)
plan_parts F i h f n d g en ed qs e eg =
    let c : Target = target_run F.below h i.runs in
    let m : Grown = grown g d c.before c.after in
    let k : g ≡ index_need F.number_width (map element_of (c.before ++ map new_run (cut F.run_limit (f c.entries)) ++ c.after)) - n
    = subst (λ (x : List (List Entry)). g ≡ index_need F.number_width (map element_of (c.before ++ map new_run x ++ c.after)) - n) (sym e) eg in
    subst
    (λ (x : List (List Entry)).
    plan_change F i h f
    ≡ plan_of F (n + g) (place 0 m.data_blocks (m.before ++ m.after) (map new_run x)).data_blocks
    (m.before ++ (place 0 m.data_blocks (m.before ++ m.after) (map new_run x)).runs ++ m.after))
    e
    (plan_is F i h f n d g en ed k)

-- row 15 by the numbers of a plan
pub full_is : (F : Format) (s : List ℕ) (n D : ℕ) (rs : List Run) → plan_full s (plan_of F n D rs) ≡ (ltb (length s) (block_position F.extended n D) || ltb F.most_blocks D || ltb 32_767 n)
unfolding plan_full frame_length
full_is F s n D rs = refl

pub full_index : (F : Format) (s : List ℕ) (n D : ℕ) (rs : List Run) → 32_767 < n → plan_full s (plan_of F n D rs) ≡ true
full_index F s n D rs h = full_is F s n D rs ∙ rw (lt-ltb 32_767 n h) (or_right (ltb (length s) (block_position F.extended n D) || ltb F.most_blocks D) true refl)

pub full_blocks : (F : Format) (s : List ℕ) (n D : ℕ) (rs : List Run) → F.most_blocks < D → plan_full s (plan_of F n D rs) ≡ true
full_blocks F s n D rs h = full_is F s n D rs ∙ rw (lt-ltb F.most_blocks D h) (or_middle (ltb (length s) (block_position F.extended n D)) (ltb 32_767 n))
  where
    or_middle : (t u : Bool) → t || true || u ≡ true
    or_middle true u = refl
    or_middle false u = refl

pub full_length : (F : Format) (s : List ℕ) (n D : ℕ) (rs : List Run) → length s < block_position F.extended n D → plan_full s (plan_of F n D rs) ≡ true
full_length F s n D rs h = full_is F s n D rs ∙ rw (lt-ltb (length s) (block_position F.extended n D) h)

pub full_not : (F : Format) (s : List ℕ) (n D : ℕ) (rs : List Run) → block_position F.extended n D ≤ length s → D ≤ F.most_blocks → n ≤ 32_767 → plan_full s (plan_of F n D rs) ≡ false
full_not F s n D rs a b c = full_is F s n D rs ∙ rw (le-ltb (length s) (block_position F.extended n D) a, le-ltb F.most_blocks D b, le-ltb 32_767 n c)

-- its length
pub length_is : (F : Format) (n D : ℕ) (rs : List Run) → plan_length (plan_of F n D rs) ≡ block_position F.extended n D
unfolding plan_length frame_length
length_is F n D rs = refl

-- and what it writes
pub written_is : (F : Format) (s : List ℕ) (n D : ℕ) (rs : List Run) → plan_written (plan_of F n D rs) s
    ≡ changed_header F.layout (plan_counts (plan_of F n D rs)) (take (header_bytes F) s) ++ index_bytes F.number_width n (map element_of rs)
    ++ free_list_written (free_blocks rs D) (runs_written rs (drop (block_position F.extended n 0) s))
unfolding plan_written data_area data_start
written_is F s n D rs = refl

-- ---- parts and their places
-- the blocks of parts as runs
pub new_sizes : (ps : List (List Entry)) → map (λ r. r.size) (map new_run ps) ≡ map run_size ps
unfolding new_run
new_sizes [] = refl
new_sizes (p ∷ ps) = ap (λ l. run_size p ∷ l) (new_sizes ps)

-- the runs placed are the parts at their places
pub parts_placed : (g D : ℕ) (there : List Run) (ps : List (List Entry)) → part_runs g (map (λ r. g + r.block) (place 0 D there (map new_run ps)).runs) ps ≡ (place 0 D there (map new_run ps)).runs
unfolding part_runs place with_run at_block
parts_placed g D there [] = refl
parts_placed g D there (p ∷ ps) =
    let b : ℕ = place_for 0 D there (new_run p).size in
    let e : g + b - g ≡ b = omega arith in
    ap₂ (λ (k : ℕ) (l : List Run). at_block k (new_run p) ∷ l) e (parts_placed g (max D (b + (new_run p).size)) (at_block b (new_run p) ∷ there) ps)

-- a run that we write has at least one block
sizes_some : (k : ℕ) (ps : List (List Entry)) → All (λ p. run_size p ≤ k) ps → All (λ r. (1 ≤ r.size) × (r.size ≤ k)) (map new_run ps)
unfolding new_run run_size encoded_size blocks_for
sizes_some k [] a = tt
sizes_some k (p ∷ ps) (a, as') = ((omega arith, a), sizes_some k ps as')

-- the numbers of the marks are those of the free blocks
free_numbers : (g D : ℕ) (fs : List Bool) {rs qs : List Run} → Permᴰ rs qs → g + D ≤ length fs → Marked g 0 D fs rs → numbers 0 (take (g + D - g) (drop g fs)) ≡ free_blocks qs D
unfolding free_blocks
free_numbers g D fs {rs} {qs} u l k =
    let z : g + 0 ≡ g = omega arith in
    let y : D - 0 ≡ D = omega arith in
    ap (numbers 0) (rw (z, y) at (marked_part g 0 D fs rs (omega arith) l k)) ∙ numbers_filter (is_free rs) 0 D ∙ filter_range (is_free rs) (is_free qs) 0 D (λ b p q. free_perm u b)

-- ---- the new runs placed on the marks
module _ (m : Grown) (g : ℕ) (ps : List (List Entry)) (ms : List Bool) (end : ℕ) (end_is : end ≡ g + m.data_blocks) (marked : Marked g 0 m.data_blocks ms (m.before ++ m.after)) where
  abbrev there : List Run
  there = m.before ++ m.after

  abbrev p : Placed
  p = place 0 m.data_blocks there (map new_run ps)

  abbrev sp : Spread
  sp = spread g end ms (map run_size ps)

  same : spread (g + 0) (g + m.data_blocks) ms (map (λ r. r.size) (map new_run ps)) ≡ sp
  same = let z : g + 0 ≡ g = omega arith in rw (z, new_sizes ps, ← end_is)

  told : (k : ℕ) → All (λ q. run_size q ≤ k) ps → sp.end ≤ length ms → SpreadIs g 0 m.data_blocks ms there (map new_run ps)
  told k small fits =
      spread_place g 0 m.data_blocks ms there (map new_run ps) (omega arith) (all_map _ _ (λ r x. x.0) (map new_run ps) (sizes_some k ps small)) marked
      (subst (λ (x : Spread). x.end ≤ length ms) (sym same) fits)

  module _ (k : ℕ) (small : All (λ q. run_size q ≤ k) ps) (fits : sp.end ≤ length ms) where
    -- the places on the marks
    pub parts_places : sp.places ≡ map (λ r. g + r.block) p.runs
    parts_places = ap (λ (x : Spread). x.places) (sym same) ∙ (told k small fits).places

    -- so these are the runs of the plan
    pub parts_runs : part_runs g sp.places ps ≡ p.runs
    parts_runs = ap (λ (l : List ℕ). part_runs g l ps) parts_places ∙ parts_placed g m.data_blocks there ps

    -- the end of the blocks
    pub parts_end : sp.end ≡ g + p.data_blocks
    parts_end = ap (λ (x : Spread). x.end) (sym same) ∙ (told k small fits).end

    -- the numbers of the free blocks
    pub parts_free : numbers 0 (take (sp.end - g) (drop g sp.free)) ≡ free_blocks (m.before ++ p.runs ++ m.after) p.data_blocks
    parts_free =
        let t : SpreadIs g 0 m.data_blocks ms there (map new_run ps) = told k small fits in
        let e : sp.free ≡ (spread (g + 0) (g + m.data_blocks) ms (map (λ r. r.size) (map new_run ps))).free = ap (λ (x : Spread). x.free) (sym same) in
        let w : sp.end ≡ g + p.data_blocks = parts_end in
        let u : Permᴰ (p.runs ++ there) (m.before ++ p.runs ++ m.after) = subst (λ (x : List Run). Permᴰ (p.runs ++ there) x)
        (sym (append_assoc m.before p.runs m.after)) (mathlib.Core.List.Permᴰ.symm (between_perm m.before p.runs m.after)) in
        ap₂ (λ (x : ℕ) (y : List Bool). numbers 0 (take (x - g) (drop g y))) w e ∙ free_numbers g p.data_blocks _ u (omega (arith, fits, w, t.long)) t.marked

  -- where placing on the marks passes the limit, the plan has too many blocks
  pub parts_over : (limit k : ℕ) → All (λ q. run_size q ≤ k) ps → end ≤ limit → limit + k ≤ length ms → limit < sp.end → limit < g + p.data_blocks
  parts_over limit k small e l h =
      spread_over g 0 m.data_blocks limit k ms there (map new_run ps) (omega arith) (omega arith) l (sizes_some k ps small) marked (subst (λ (x : Spread). limit < x.end) (sym same) h)
