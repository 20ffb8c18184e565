-- An accepted image and the run concerned: what a change starts from.
use Prim.Native.Nat.{ℕ, zero, suc, ◌+◌, ◌-◌, ◌≤◌, ◌<◌, max}
use mathlib.Core.Path.{◌≡◌, refl, sym, ap, ap₂, subst, ◌∙◌}
use mathlib.Core.Logic.{◌⊎◌, inl, inr}
use mathlib.Core.Bool.{Bool, true, false}
use mathlib.Core.List.{List, [], ◌∷◌, ◌++◌, map}
use native.Mathlib.Omega.{arith}
use lib.ListN.{length, get_or, replicate, length-append, length-map, get_or-append}
use lib.Seq.{get_or-append-add}
use lib.Dec.{eqb}
use borrow.Author.Tests.{eqb-true, ne_eqb}
use Rattle.spec.specs.Order.{HeadwordOrder, below_of}
use Rattle.spec.specs.Outcome.{ok}
use Rattle.spec.specs.Bytes.{blocks_for}
use Rattle.spec.specs.Header.{Format, format_of, get}
use Rattle.spec.specs.Entry.{Entry, headword_ok}
use Rattle.spec.specs.Run.{Run}
use Rattle.spec.specs.Index.{Element, elements_bytes, index_need}
use Rattle.spec.specs.Blocks.{is_free, run_blocks, free_marks, each_once}
use Rattle.spec.specs.Check as Check
use Rattle.spec.specs.Check.{Image, runs_from, counts_ok, all_entries}
use Rattle.spec.specs.Place as Place
use Rattle.spec.specs.Place.{Plan, target_run, cut, new_run, place, element_of, grown, plan_change, plan_full}
use Rattle.spec.specs.Lists.{All}
use Rattle.spec.specs.Sound.{Laid, plan_of, SoundPlan}
use Rattle.spec.proofs.ListsLaws.{and_right, all_map, all_append, all_front, all_back}
use Rattle.spec.proofs.LaidLaws.{Sized, laid_without}
use Rattle.spec.proofs.CountLaws.{free_list_free}
use Rattle.spec.proofs.FreeListLaws.{Stands}
use Rattle.spec.proofs.ReadLaws.{ImageTold, run_told}
use Rattle.spec.proofs.ChangeLaws.{Sound, image_sound}
use Rattle.header.specs.declared.Form.{Form}
use Rattle.header.specs.Form.{layout_named, most_of, format_by, index_part, data_part, area_start}
use Rattle.index.specs.Elements.{elements_at}
use Rattle.runs.proofs.SizeLaws.{size_of_run}
use Rattle.marks.specs.Marks.{with_range}
use Rattle.marks.proofs.Words.{range_none}
use Rattle.marks.proofs.Laws.{length_range}
use Rattle.freelist.proofs.Laws.{length_free_marks, get_free_marks}
use Rattle.inspect.specs.declared.Overview.{Overview}
use Rattle.inspect.specs.Overview.{AcceptedImage}
use Rattle.inspect.proofs.Accepted.{accepted_told, accepted_format, image_format, accepted_n, accepted_d, accepted_runs}
use Rattle.placing.specs.Spread.{spread, Marked}
use Rattle.placing.proofs.SpreadLaws.{place_grows}
use Rattle.target.specs.declared.Target.{Target}
use Rattle.target.specs.Told.{NoRun, OneRun, TargetTold}
use Rattle.target.proofs.Laws.{Known, runs_known, told_before, told_after, told_blocks}
use Rattle.moves.specs.Moved.{noted, starts, size_at, freed, tabled}
use Rattle.plan.specs.Growing.{Growing}
use Rattle.plan.proofs.Grown.{Told, freed_between, index_still, index_grown, noted_both, index_over}
use Rattle.plan.proofs.Whole.{elements_sum}
use Rattle.plan.proofs.Finish.{plan_parts, full_index, full_blocks}
use Rattle.plan.proofs.Counted.{change_length, change_blocks}
use Rattle.encoder.specs.Limits.{longest_body}
use Rattle.parts.specs.Part.{Measured}
use Rattle.change.specs.Ready.{growth, edited, planned, parts_of, old_length, most_with, Ready}
use Rattle.change.proofs.Laws.{parts_same}

-- the marks of a free list are those of the blocks that no run covers
pub list_marked : (D k : ℕ) (rs : List Run) (fl : List ℕ) → each_once D rs fl ≡ true → Marked 0 0 D (free_marks D fl ++ replicate k false) rs
list_marked D k rs fl o = record { inside = λ b p q. inner b q; beyond = λ b p. past b p }
  where
    inner : (b : ℕ) → b < D → get_or (free_marks D fl ++ replicate k false) (0 + b) false ≡ is_free rs b
    inner b q =
        let z : 0 + b ≡ b = omega arith in
        rw z (get_or-append (free_marks D fl) (replicate k false) false b (omega (arith, length_free_marks D fl)) ∙ get_free_marks D fl b q ∙ free_list_free D rs fl o b q)

    replicated : (j n : ℕ) → get_or (replicate n false) j false ≡ false
    replicated j zero = refl
    replicated zero (suc n) = refl
    replicated (suc j) (suc n) = replicated j n

    past : (b : ℕ) → D ≤ b → get_or (free_marks D fl ++ replicate k false) (0 + b) false ≡ false
    past b p =
        let e : 0 + b ≡ length (free_marks D fl) + (b - D) = omega (arith, length_free_marks D fl) in
        ap (λ (j : ℕ). get_or (free_marks D fl ++ replicate k false) j false) e ∙ get_or-append-add (free_marks D fl) (replicate k false) (b - D) false ∙ replicated (b - D) k

-- the growth of an index for some elements
growth_some : (n k b : ℕ) → (k ≡ 0 → ⊥) → growth n k b ≡ blocks_for (b + 4) - n
unfolding growth
growth_some n k b h = rw (ne_eqb k 0 h, growth)

-- it is what these need beyond its blocks
growth_need : (w n : ℕ) (es : List Element) → growth n (length es) (length (elements_bytes w es)) ≡ index_need w es - n
unfolding growth index_need
growth_need w n [] = omega arith
growth_need w n (e ∷ es) = growth_some n (suc (length es)) (length (elements_bytes w (e ∷ es))) (λ z. omega arith)

-- ---- an accepted image
module _ (o : List ℕ) (x : Overview) (a : AcceptedImage o x) where
  abbrev i : Image
  i = a.image

  abbrev fm : Form
  fm = x.form

  abbrev n : ℕ
  n = x.n

  abbrev d : ℕ
  d = x.d

  abbrev w : ℕ
  w = fm.width

  abbrev below : HeadwordOrder
  below = below_of fm.order

  abbrev F : Format
  F = format_by (layout_named o) fm

  abbrev index : List ℕ
  index = index_part fm o n

  abbrev area : List ℕ
  area = data_part fm o n

  -- its elements, as the header counts them
  abbrev elements : ℕ
  elements = get (layout_named o).nindex2 o

  told : ImageTold F o i
  told = accepted_told o x a

  sound : Sound F o i
  unfolding Check.image_from
  sound = subst (λ (G : Format). Sound G o i) (accepted_format o x a) (image_sound (format_of o) o i a.is)

  laid : Laid d i.runs
  laid = subst (λ (x : ℕ). Laid x i.runs) (sym (accepted_d o x a)) sound.laid

  sized : All Sized i.runs
  sized = all_map _ _ (λ r h. (h.some_blocks, h.whole)) i.runs sound.holds

  pub runs_read : runs_from below d area (elements_at w index 0 elements) ≡ ok i.runs
  runs_read = accepted_runs o x a (area_start x.form x.n) refl elements refl

  known : All (Known below d area) i.runs
  known = runs_known below d area (elements_at w index 0 elements) i.runs runs_read

  -- each run's bytes stand in the data area
  stands : Stands area i.runs
  stands = all_map _ _ (λ r k. sym (run_told below d area (element_of r) k.next r k.read).bytes) i.runs known

  -- each run starts with its number of blocks
  counted : All (Told area d) i.runs
  unfolding element_of
  counted = all_map _ _ (λ r k. sym (size_of_run below d area (element_of r) k.next r k.read)) i.runs known

  -- the blocks in runs that the header counts
  pub blocks_counted : get (layout_named o).nblock2 o ≡ run_blocks i.runs
  unfolding counts_ok
  blocks_counted =
      eqb-true (get (layout_named o).nblock2 o) (run_blocks i.runs)
      (and_right (eqb (get (layout_named o).nword o) (length (all_entries i.runs))) (eqb (get (layout_named o).nblock2 o) (run_blocks i.runs)) told.counts)

  once : each_once d i.runs i.free_list ≡ true
  once = subst (λ (x : ℕ). each_once x i.runs i.free_list ≡ true) (sym (accepted_d o x a)) told.once

  -- ---- the run concerned
  module _ (h : List ℕ) (t : Target) (k : TargetTold w fm.order index area elements h i.runs t) where
    abbrev c : Place.Target
    c = target_run below h i.runs

    -- the other runs are among those of the image
    others : (P : Run → Type 0) → All P i.runs → All P (c.before ++ c.after)
    others P all = go c k.run
      where
        go : (c : Place.Target) → NoRun area i.runs c t ⊎ OneRun fm.order area i.runs c t → All P (c.before ++ c.after)
        go c (inl x) = rw (x.before, x.after) tt
        go c (inr x) =
            let y : All P (c.before ++ x.run ∷ c.after) = subst (All P) x.among all in
            all_append P c.before c.after (all_front P c.before (x.run ∷ c.after) y) (all_back P c.before (x.run ∷ c.after) y).1

    -- and lie apart
    others_laid : Laid d (c.before ++ c.after)
    others_laid = go c k.run
      where
        go : (c : Place.Target) → NoRun area i.runs c t ⊎ OneRun fm.order area i.runs c t → Laid d (c.before ++ c.after)
        go c (inl x) = rw (x.before, x.after) tt
        go c (inr x) = laid_without d c.before x.run c.after (subst (Laid d) x.among laid)

    -- the run's blocks freed, the marks are those of the blocks that the others leave free
    freed_first : (ms : List Bool) → Marked 0 0 d ms i.runs → d ≤ length ms → Marked 0 0 d (with_range t.block t.size true ms) (c.before ++ c.after)
    freed_first ms m l = go c k.run
      where
        go : (c : Place.Target) → NoRun area i.runs c t ⊎ OneRun fm.order area i.runs c t → Marked 0 0 d (with_range t.block t.size true ms) (c.before ++ c.after)
        go c (inl x) = rw (x.before, x.after, x.block, x.size, range_none true ms) (subst (Marked 0 0 d ms) x.none m)
        go c (inr x) =
            subst (λ (b : ℕ). Marked 0 0 d (with_range b t.size true ms) (c.before ++ c.after)) x.block
            (freed_between d t.size ms c.before x.run c.after (subst (Laid d) x.among laid) (sym x.size) l (subst (Marked 0 0 d ms) x.among m))

    module _ (free : List Bool) (free_is : free ≡ free_marks d i.free_list ++ replicate (length free - d) false) (free_long : length free ≡ 163_840) (few : d ≤ most_of w) where
      -- the marks that a change starts with
      pub start_marked : Marked 0 0 d (with_range t.block t.size true free) (c.before ++ c.after)
      start_marked = freed_first free (subst (λ (x : List Bool). Marked 0 0 d x i.runs) (sym free_is) (list_marked d (length free - d) i.runs i.free_list once)) (omega (arith, free_long))

      pub start_long : t.block + t.size ≤ d → length (with_range t.block t.size true free) ≡ 163_840
      start_long p = length_range t.block t.size true free (omega (arith, free_long)) ∙ free_long

      -- an index that does not grow
      pub still : t.block + t.size ≤ d → (T : List ℕ) → Growing area d 0 c.before c.after 163_840 T d (with_range t.block t.size true free)
      still p T =
          subst (λ (x : ℕ). Growing area d 0 c.before c.after x T d (with_range t.block t.size true free)) (start_long p)
          (index_still area d c.before c.after (with_range t.block t.size true free) T others_laid (others _ stands) start_marked)

      -- the table of where the other runs start
      noted_all : (g : ℕ) (T₀ : List ℕ) → T₀ ≡ noted g (map (λ e. e.block) (elements_at w index t.end t.after))
          (noted g (map (λ e. e.block) (elements_at w index 0 t.before)) (replicate g 0))
          → T₀ ≡ noted g (map (λ r. r.block) (c.before ++ c.after)) (replicate g 0)
      noted_all g T₀ e =
          e ∙ ap₂ (λ (y z : List Element). noted g (map (λ e. e.block) y) (noted g (map (λ e. e.block) z) (replicate g 0))) k.after k.before
          ∙ noted_both g c.before c.after (replicate g 0)

      -- one that grows
      pub grows : t.block + t.size ≤ d → (g : ℕ) → 1 ≤ g → g ≤ 32_767
          → (T₀ T : List ℕ) (ms₁ ms₂ : List Bool) (end : ℕ)
          → T₀ ≡ noted g (map (λ e. e.block) (elements_at w index t.end t.after)) (noted g (map (λ e. e.block) (elements_at w index 0 t.before)) (replicate g 0))
          → ms₁ ≡ freed area d (starts 0 g T₀) (with_range t.block t.size true free)
          → end ≡ (spread g (max d g) ms₁ (map (size_at area d) (starts 0 g T₀))).end
          → ms₂ ≡ (spread g (max d g) ms₁ (map (size_at area d) (starts 0 g T₀))).free
          → T ≡ tabled (starts 0 g T₀) (spread g (max d g) ms₁ (map (size_at area d) (starts 0 g T₀))).places T₀
          → end ≤ 163_840 → Growing area d g c.before c.after 163_840 T end ms₂
      grows p g one most T₀ T ms₁ ms₂ end e₁ e₂ e₃ e₄ e₅ fits =
          let mine : List Bool = with_range t.block t.size true free in
          subst (λ (y : ℕ). Growing area d g c.before c.after y T end ms₂) (start_long p)
          (index_grown area d g g c.before c.after mine one (omega arith) others_laid (others _ sized) (others _ stands) (others _ counted) start_marked T₀ T ms₁
          ms₂ end (noted_all g T₀ e₁) e₂ e₃ e₄ e₅ (omega (arith, start_long p)) (omega (arith, start_long p)))

      -- and one for which there are too many blocks
      pub grows_over : t.block + t.size ≤ d → (g : ℕ) → 1 ≤ g → g ≤ 32_767
          → (T₀ : List ℕ) (ms₁ : List Bool)
          → T₀ ≡ noted g (map (λ e. e.block) (elements_at w index t.end t.after)) (noted g (map (λ e. e.block) (elements_at w index 0 t.before)) (replicate g 0))
          → ms₁ ≡ freed area d (starts 0 g T₀) (with_range t.block t.size true free)
          → most_with x g < (spread g (max d g) ms₁ (map (size_at area d) (starts 0 g T₀))).end → most_of w < (grown g d c.before c.after).data_blocks
      grows_over p g one few' T₀ ms₁ e₁ e₂ h =
          let mine : List Bool = with_range t.block t.size true free in
          let q : most_with x g < g + (grown g d c.before c.after).data_blocks
          = index_over area d g g c.before c.after mine one (omega arith) others_laid (others _ sized) (others _ stands) (others _ counted) start_marked
          T₀ ms₁ (most_with x g) (noted_all g T₀ e₁) e₂ (omega arith) (omega (arith, start_long p)) h in
          omega arith

    -- ---- the numbers
    module _ (body : List ℕ) (fresh : Bool) (parts bytes blocks : ℕ) (m : Measured w (map new_run (parts_of x o t h body fresh)) parts bytes blocks) where
      abbrev ps : List Run
      ps = map new_run (parts_of x o t h body fresh)

      -- they are those of the changed run concerned
      parts_are : parts_of x o t h body fresh ≡ cut fm.limit (edited below h body fresh c.entries)
      parts_are = parts_same x o t h body fresh i.runs elements k

      -- how many elements there are then
      count_is : t.before + t.after + parts ≡ length (map element_of (c.before ++ ps ++ c.after))
      count_is =
          omega (
            arith,
            m.0,
            told_before w fm.order index area elements h i.runs t k,
            told_after w fm.order index area elements h i.runs t k,
            length-map (c.before ++ ps ++ c.after) element_of,
            length-append (c.before ++ ps) c.after,
            length-append c.before ps,
          )

      -- and how many bytes they take
      bytes_are : x.end - (t.end - t.at) + bytes ≡ length (elements_bytes w (map element_of (c.before ++ ps ++ c.after)))
      bytes_are =
          let x : length (elements_bytes w (elements_at w index 0 t.before)) ≡ length (elements_bytes w (map element_of c.before))
          = ap (λ (es : List Element). length (elements_bytes w es)) k.before in
          let y : length (elements_bytes w (elements_at w index t.end t.after)) ≡ length (elements_bytes w (map element_of c.after))
          = ap (λ (es : List Element). length (elements_bytes w es)) k.after in
          omega (arith, m.1, k.bytes, a.end_is, elements_sum w c.before ps c.after)

      -- so this is the growth of the plan
      pub growth_is : growth n (t.before + t.after + parts) (x.end - (t.end - t.at) + bytes)
          ≡ index_need w (map element_of (c.before ++ ps ++ c.after)) - n
      growth_is = ap₂ (λ (x y : ℕ). growth n x y) count_is bytes_are ∙ growth_need w n (map element_of (c.before ++ ps ++ c.after))

      -- the plan by the format of the form
      planned_is : planned i h body fresh ≡ plan_change F i h (edited below h body fresh)
      planned_is = ap (λ (G : Format). plan_change G i h (edited G.below h body fresh)) (image_format o x a)

      -- and by its numbers
      plan_at : (g : ℕ) → g ≡ growth n (t.before + t.after + parts) (x.end - (t.end - t.at) + bytes)
          → planned i h body fresh ≡ plan_of F (n + g) (place 0 (grown g d c.before c.after).data_blocks
          ((grown g d c.before c.after).before ++ (grown g d c.before c.after).after) ps).data_blocks
          ((grown g d c.before c.after).before ++ (place 0 (grown g d c.before c.after).data_blocks
          ((grown g d c.before c.after).before ++ (grown g d c.before c.after).after) ps).runs ++ (grown g d c.before c.after).after)
      plan_at g e =
          planned_is ∙ plan_parts F i h (edited below h body fresh) n d g (accepted_n o x a) (accepted_d o x a) (parts_of x o t h body fresh) (sym parts_are) (e ∙ growth_is)

      -- row 15: an index of too many blocks
      pub index_full : (s : List ℕ) (g : ℕ)
          → g ≡ growth n (t.before + t.after + parts) (x.end - (t.end - t.at) + bytes) → 32_767 < n + g
          → plan_full s (planned i h body fresh) ≡ true
      index_full s g e p = ap (plan_full s) (plan_at g e) ∙ full_index F s (n + g) _ _ p

      -- row 15: too many data blocks when the displaced runs are placed
      pub moved_full : (s : List ℕ) (g : ℕ) → g ≡ growth n (t.before + t.after + parts) (x.end - (t.end - t.at) + bytes)
          → most_of w < (grown g d c.before c.after).data_blocks → plan_full s (planned i h body fresh) ≡ true
      moved_full s g e p =
          ap (plan_full s) (plan_at g e)
          ∙ full_blocks F s (n + g) _ _ (omega (
            arith,
            place_grows 0 (grown g d c.before c.after).data_blocks
                ((grown g d c.before c.after).before ++ (grown g d c.before c.after).after) ps,
          ))

      -- the elements of the plan
      elements_counted : t.before + t.after + parts ≡ length (planned i h body fresh).runs
      elements_counted =
          let e : length ps ≡ length (map new_run (cut fm.limit (edited below h body fresh c.entries))) = ap (λ (x : List (List Entry)). length (map new_run x)) parts_are in
          omega (
            arith,
            m.0,
            told_before w fm.order index area elements h i.runs t k,
            told_after w fm.order index area elements h i.runs t k,
            change_length F i h (edited below h body fresh),
            ap (λ (y : Plan). length y.runs) planned_is,
          )

      -- and its blocks
      runs_counted : get (layout_named o).nblock2 o - t.size + blocks ≡ run_blocks (planned i h body fresh).runs
      runs_counted =
          let e : run_blocks ps ≡ run_blocks (map new_run (cut fm.limit (edited below h body fresh c.entries))) = ap (λ (x : List (List Entry)). run_blocks (map new_run x)) parts_are in
          omega (
            arith,
            m.2,
            blocks_counted,
            told_blocks w fm.order index area elements h i.runs t k,
            change_blocks F i h (edited below h body fresh),
            ap (λ (y : Plan). run_blocks y.runs) planned_is,
          )

      -- a change whose growth is planned
      pub ready : (found : Bool) (g end words : ℕ) (T : List ℕ) (ms : List Bool) → old_length x ≡ length o → headword_ok h ≡ true → length body ≤ longest_body → t.block + t.size ≤ d
          → g ≡ growth n (t.before + t.after + parts) (x.end - (t.end - t.at) + bytes)
          → n + g ≤ 32_767 → length T ≡ g → end ≤ most_with x g
          → Growing area d g c.before c.after (length ms) T end ms
          → SoundPlan i.frame.format (planned i h body fresh) → words ≡ length (all_entries (planned i h body fresh).runs)
          → Ready o (record {
            draft = record { old = x; target = t; fresh = fresh; found = found; g = g; elements = t.before + t.after + parts; blocks = get (layout_named o).nblock2 o - t.size + blocks };
            end = end;
            words = words;
          }) T ms h body
      ready found g end words T ms whole hok short p eg fi table fe growing plan words_are =
          record {
            accepted = a;
            whole = whole;
            few_index = fi;
            headword = hok;
            body_short = short;
            told = k;
            inside = p;
            grows = eg ∙ growth_is;
            table = table;
            end_few = fe;
            under = growing;
            sound = plan;
            words_are = words_are;
            elements_are = elements_counted;
            blocks_are = runs_counted;
          }
