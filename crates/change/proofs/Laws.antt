-- A change whose growth is planned: its plan, and what is written.
use Prim.Native.Nat.{ℕ, zero, suc, ◌+◌, ◌-◌, ◌*◌, ◌≤◌, ◌<◌}
use mathlib.Core.Path.{◌≡◌, refl, sym, ap, ap₂, subst, ◌∙◌}
use mathlib.Core.Logic.{◌⊎◌, inl, inr}
use mathlib.Core.Bool.{Bool, true, false}
use mathlib.Core.List.{List, [], ◌∷◌, ◌++◌, map, append_assoc}
use native.Mathlib.Omega.{arith}
use lib.ListN.{length, take, drop, length-drop, length-take}
use lib.Seq.{take-add, take-take, take-append-le, length-take-le, drop-drop}
use Rattle.spec.specs.Outcome.{ok}
use Rattle.spec.specs.Bytes.{write, zeros, blocks_for}
use Rattle.spec.specs.Order.{HeadwordOrder, below_of}
use Rattle.spec.specs.Header.{Layout, Format, Lawful, format_of, block_position, Counts, changed_header}
use Rattle.spec.specs.Entry.{Entry, headword_ok}
use Rattle.spec.specs.Run.{Run, run_size, read_entry}
use Rattle.spec.specs.Check as Check
use Rattle.spec.specs.Check.{Image, image_from, all_entries}
use Rattle.spec.specs.Index.{Element, elements_bytes, index_bytes, index_need}
use Rattle.spec.specs.Blocks.{run_blocks, free_blocks, free_list_start, free_list_written}
use Rattle.spec.specs.Place as Place
use Rattle.spec.specs.Place.{Plan, Placed, Grown, target_run, cut, new_run, place, element_of, grown, runs_written, plan_change, plan_counts, plan_full, plan_written}
use Rattle.spec.specs.Calls.{plan_length}
use Rattle.spec.specs.Lists.{All}
use Rattle.spec.specs.Sound.{Holds, Laid, plan_of, SoundPlan}
use Rattle.spec.proofs.ListsLaws.{all_map, all_back}
use Rattle.spec.proofs.OutcomeLaws.{same_value}
use Rattle.spec.proofs.HeaderLaws.{lawful_format}
use Rattle.spec.proofs.RunLaws.{body_short}
use Rattle.spec.proofs.IndexLaws.{index_bytes_length, need_room}
use Rattle.spec.proofs.ChangeLaws.{image_sound}
use Rattle.marks.proofs.Laws.{drop_take}
use Rattle.header.specs.declared.Form.{Form}
use Rattle.header.specs.Form.{layout_named, format_by, index_start, area_start, index_part, data_part}
use Rattle.header.proofs.Laws.{layout_kept}
use Rattle.index.specs.Elements.{elements_at}
use Rattle.inspect.specs.declared.Overview.{Overview}
use Rattle.inspect.proofs.Accepted.{accepted_format, image_format, accepted_n, accepted_d}
use Rattle.elements.specs.Renewed.{renewed}
use Rattle.elements.proofs.Laws.{renewed_length}
use Rattle.placing.specs.Spread.{Spread, spread}
use Rattle.placing.proofs.SpreadLaws.{places_from, spread_grows}
use Rattle.chain.specs.Numbers.{numbers}
use Rattle.moves.specs.Moved.{starts, moved_written}
use Rattle.target.specs.declared.Target.{Target}
use Rattle.target.specs.Told.{entries_start, entries_part, NoRun, OneRun, TargetTold}
use Rattle.target.proofs.Laws.{start_least}
use Rattle.encoder.specs.Limits.{longest_body, longest_run}
use Rattle.parts.specs.Room.{largest_limit}
use Rattle.parts.specs.Part.{part_of, past_part}
use Rattle.parts.specs.Merge.{entries_until, entries_left, changed_entries}
use Rattle.parts.proofs.MergeLaws.{entries_left_read, left_ok, merge_all}
use Rattle.parts.proofs.PartLaws.{Short, cut_none, cut_parts, past_all, past_fewer, part_short, part_size}
use Rattle.plan.specs.Written.{part_runs, parts_written}
use Rattle.plan.proofs.Whole.{elements_sum, sides, sealed}
use Rattle.plan.proofs.Finish.{plan_parts, full_blocks, full_length, full_not, length_is, parts_over, written_is, parts_runs, parts_end, parts_free}
use Rattle.change.specs.declared.Outline.{Outline}
use Rattle.change.specs.Ready.{edited, planned, new_entries, parts_of, most_with, Ready, Roomy, new_start, Areas, Written}

-- ---- the parts
module _ (limit : ℕ) (small : limit ≤ largest_limit) where
  -- a part of entries by their rules has no more blocks than the longest run
  part_small : (es : List Entry) → All Short es → run_size (part_of limit 0 [] es) ≤ longest_run
  unfolding blocks_for
  part_small es a = omega (arith, part_size (part_of limit 0 [] es), part_short limit es small a)

  cut_small : (k : ℕ) (es : List Entry) → length es ≤ k → All Short es → All (λ q. run_size q ≤ longest_run) (cut limit es)
  cut_small zero [] h a = rw (cut_none limit) tt
  cut_small zero (e ∷ es) h a = absurd (omega arith)
  cut_small (suc k) es h a = go es h a (λ es' h' a'. cut_small k es' h' a')
    where
      go : (es : List Entry) → length es ≤ suc k → All Short es
          → ((es' : List Entry) → length es' ≤ k → All Short es' → All (λ q. run_size q ≤ longest_run) (cut limit es')) → All (λ q. run_size q ≤ longest_run) (cut limit es)
      go [] h a rest = rw (cut_none limit) tt
      go (e ∷ es) h a rest =
          rw (cut_parts limit e es) (part_small (e ∷ es) a, rest (past_part limit 0 [] (e ∷ es)) (omega (arith, past_fewer limit [] e es)) (past_all Short limit 0 [] (e ∷ es) a))

-- no bytes hold no entry
left_none : (below : HeadwordOrder) (prev : List ℕ) → entries_left below prev [] ≡ []
unfolding entries_left entries_until read_entry
left_none below prev = refl

-- the run's entries as code reads them are those of the run concerned
pub entries_are : (w order : ℕ) (index area : List ℕ) (n : ℕ) (h : List ℕ) (rs : List Run) (t : Target) → TargetTold w order index area n h rs t
    → entries_left (below_of order) [] (entries_part area t.block t.size) ≡ (target_run (below_of order) h rs).entries
unfolding entries_part entries_start
entries_are w order index area n h rs t k = go k.run
  where
    go : NoRun area rs (target_run (below_of order) h rs) t ⊎ OneRun order area rs (target_run (below_of order) h rs) t
        → entries_left (below_of order) [] (entries_part area t.block t.size) ≡ (target_run (below_of order) h rs).entries
    go (inl x) = rw (x.block, x.size) (left_none (below_of order) []) ∙ sym x.entries
    go (inr x) = entries_left_read (below_of order) x.fuel [] (entries_part area t.block t.size) (target_run (below_of order) h rs).entries x.read

-- ---- the bytes of the run concerned
-- as code cuts them out
pub run_cut : (area : List ℕ) (b size from : ℕ) → from ≡ entries_start b size → take (256 * (b + size) - from) (drop from area) ≡ entries_part area b size
unfolding entries_part
run_cut area b size from e = ap (λ (x : ℕ). take (256 * (b + size) - x) (drop x area)) e

-- they are no more than 8,388,608
pub run_short : (area : List ℕ) (b size from : ℕ) → from ≡ entries_start b size → size ≤ 32_767 → length (take (256 * (b + size) - from) (drop from area)) ≤ 8_388_608
run_short area b size from e p = omega (arith, start_least b size, length-take (256 * (b + size) - from) (drop from area))

-- for the run has no more blocks than a run can have
pub run_few : (o : List ℕ) (v : Outline) (T : List ℕ) (ms : List Bool) (h body : List ℕ) → Ready o v T ms h body → v.draft.target.size ≤ 32_767
unfolding Check.image_from
run_few o v T ms h body r = go (target_run (below_of v.draft.old.form.order) h r.accepted.image.runs) r.told.run
  where
    holds : All (Holds (below_of v.draft.old.form.order)) r.accepted.image.runs
    holds =
        let same : (format_of o).below ≡ below_of v.draft.old.form.order = ap (λ (F : Format). F.below) (accepted_format o v.draft.old r.accepted) in
        subst (λ (y : HeadwordOrder). All (Holds y) r.accepted.image.runs) same (image_sound (format_of o) o r.accepted.image r.accepted.is).holds

    go : (c : Place.Target)
        → NoRun (data_part v.draft.old.form o v.draft.old.n) r.accepted.image.runs c v.draft.target
        ⊎ OneRun v.draft.old.form.order (data_part v.draft.old.form o v.draft.old.n) r.accepted.image.runs c v.draft.target → v.draft.target.size ≤ 32_767
    go c (inl x) = omega (arith, x.size)
    go c (inr x) =
        let P : Run → Type 0 = Holds (below_of v.draft.old.form.order) in
        let k : All P (c.before ++ x.run ∷ c.after) = subst (All P) x.among holds in
        omega (arith, (all_back P c.before (x.run ∷ c.after) k).0.few_blocks, x.size)

-- the entries of the changed run keep their rules, as far as their lengths go
pub changed_short : (order : ℕ) (run h body : List ℕ) (fresh : Bool) → headword_ok h ≡ true → length body ≤ longest_body → All Short (changed_entries order run h body fresh)
unfolding changed_entries
changed_short order run h body fresh p q =
    merge_all (below_of order) (record { headword = h; body = body }) Short (p, q) fresh (entries_left (below_of order) [] run)
    (all_map _ _ (λ d w. (w.0, body_short d.body w.1)) (entries_left (below_of order) [] run) (left_ok (below_of order) [] run))

-- the parts of the run as code reads it are those of the run concerned
pub parts_same : (w : Overview) (o : List ℕ) (t : Target) (h body : List ℕ) (fresh : Bool) (rs : List Run) (e : ℕ)
    → TargetTold w.form.width w.form.order (index_part w.form o w.n) (data_part w.form o w.n) e h rs t
    → parts_of w o t h body fresh ≡ cut w.form.limit (edited (below_of w.form.order) h body fresh (target_run (below_of w.form.order) h rs).entries)
unfolding changed_entries
parts_same w o t h body fresh rs e k =
    ap (λ (es : List Entry). cut w.form.limit (edited (below_of w.form.order) h body fresh es))
    (entries_are w.form.width w.form.order (index_part w.form o w.n) (data_part w.form o w.n) e h rs t k)

-- ---- the plan
module _ (o : List ℕ) (v : Outline) (T : List ℕ) (ms : List Bool) (h body : List ℕ) (r : Ready o v T ms h body) where
  abbrev i : Image
  i = r.accepted.image

  abbrev fm : Form
  fm = v.draft.old.form

  abbrev F : Format
  F = format_by (layout_named o) fm

  abbrev w : ℕ
  w = fm.width

  abbrev t : Target
  t = v.draft.target

  abbrev fresh : Bool
  fresh = v.draft.fresh

  abbrev c : Place.Target
  c = target_run (below_of fm.order) h i.runs

  abbrev ps : List (List Entry)
  ps = parts_of v.draft.old o t h body fresh

  abbrev m : Grown
  m = grown v.draft.g v.draft.old.d c.before c.after

  abbrev p : Placed
  p = place 0 m.data_blocks (m.before ++ m.after) (map new_run ps)

  abbrev sp : Spread
  sp = spread v.draft.g v.end ms (map run_size ps)

  -- the limit is one that the buffers hold
  limit_few : fm.limit ≤ largest_limit
  limit_few = omega (arith, r.accepted.good.1)

  -- the parts are those of the changed run concerned
  parts_are : cut fm.limit (edited (below_of fm.order) h body fresh c.entries) ≡ ps
  parts_are = sym (parts_same v.draft.old o t h body fresh i.runs _ r.told)

  pub small : All (λ q. run_size q ≤ longest_run) ps
  small =
      let es : List Entry = new_entries v.draft.old o t h body fresh in
      cut_small fm.limit limit_few (length es) es (omega arith)
      (changed_short fm.order (entries_part (data_part fm o v.draft.old.n) t.block t.size) h body fresh r.headword r.body_short)

  lawful : Lawful F
  lawful = subst Lawful (accepted_format o v.draft.old r.accepted) (lawful_format o)

  -- the plan by the format of the form
  planned_is : planned i h body fresh ≡ plan_change F i h (edited (below_of fm.order) h body fresh)
  planned_is = ap (λ (G : Format). plan_change G i h (edited G.below h body fresh)) (image_format o v.draft.old r.accepted)

  sound : SoundPlan F (planned i h body fresh)
  sound = subst (λ (G : Format). SoundPlan G (planned i h body fresh)) (image_format o v.draft.old r.accepted) r.sound

  -- the plan by its numbers
  pub plan_known : planned i h body fresh ≡ plan_of F (v.draft.old.n + v.draft.g) p.data_blocks (m.before ++ p.runs ++ m.after)
  plan_known =
      planned_is
      ∙ plan_parts F i h (edited (below_of fm.order) h body fresh) v.draft.old.n v.draft.old.d v.draft.g (accepted_n o v.draft.old r.accepted) (accepted_d o v.draft.old r.accepted) ps parts_are
      r.grows

  -- the runs of the plan
  abbrev all : List Run
  all = m.before ++ p.runs ++ m.after

  -- they lie apart
  pub all_laid : Laid p.data_blocks all
  all_laid = subst (λ (x : Plan). Laid x.frame.data_blocks x.runs) plan_known sound.laid

  -- and their elements have room in the index
  pub all_need : index_need w (map element_of all) ≤ v.draft.old.n + v.draft.g
  all_need = subst (λ (x : Plan). index_need w (map element_of x.runs) ≤ x.frame.index_blocks) plan_known sound.need

  -- the counts that the header takes
  pub all_counts : (first : ℕ) → first ≡ free_list_start (free_blocks all p.data_blocks)
      → record { index_blocks = v.draft.old.n + v.draft.g; entries = v.words; first_free = first; elements = v.draft.elements; run_blocks = v.draft.blocks }
      ≡ plan_counts (plan_of F (v.draft.old.n + v.draft.g) p.data_blocks all)
  unfolding plan_counts
  all_counts first e =
      let a : v.words ≡ length (all_entries all) = r.words_are ∙ ap (λ (x : Plan). length (all_entries x.runs)) plan_known in
      let b : v.draft.elements ≡ length all = r.elements_are ∙ ap (λ (x : Plan). length x.runs) plan_known in
      let d : v.draft.blocks ≡ run_blocks all = r.blocks_are ∙ ap (λ (x : Plan). run_blocks x.runs) plan_known in
      let counts : ℕ → ℕ → ℕ → ℕ → Counts = λ x y z u. record { index_blocks = v.draft.old.n + v.draft.g; entries = x; first_free = u; elements = y; run_blocks = z } in
      ap₂ (λ (x y : ℕ). counts x y v.draft.blocks first) a b ∙ ap₂ (λ (x y : ℕ). counts (length (all_entries all)) (length all) x y) d e

  -- row 15: too many data blocks when the new runs are placed
  pub blocks_full : (s : List ℕ) → length ms ≡ 163_840 → most_with v.draft.old v.draft.g < sp.end → plan_full s (planned i h body fresh) ≡ true
  blocks_full s l e =
      let o : most_with v.draft.old v.draft.g < v.draft.g + p.data_blocks
      = parts_over m v.draft.g ps ms v.end r.under.end_is r.under.marked (most_with v.draft.old v.draft.g) longest_run small r.end_few (omega (arith, r.few_index)) e in
      ap (plan_full s) plan_known ∙ full_blocks F s (v.draft.old.n + v.draft.g) p.data_blocks all (omega arith)

  module _ (s : List ℕ) (l : length ms ≡ 163_840) (few : sp.end ≤ most_with v.draft.old v.draft.g) where
    at_end : sp.end ≡ v.draft.g + p.data_blocks
    at_end = parts_end m v.draft.g ps ms v.end r.under.end_is r.under.marked longest_run small (omega (arith, r.few_index))

    -- row 15: the new image is longer than the slice
    pub length_full : length s < block_position fm.extended v.draft.old.n sp.end → plan_full s (planned i h body fresh) ≡ true
    length_full h = ap (plan_full s) plan_known ∙ full_length F s (v.draft.old.n + v.draft.g) p.data_blocks all (omega (arith, at_end))

    -- there is room
    pub not_full : block_position fm.extended v.draft.old.n sp.end ≤ length s → plan_full s (planned i h body fresh) ≡ false
    not_full h = ap (plan_full s) plan_known ∙ full_not F s (v.draft.old.n + v.draft.g) p.data_blocks all (omega (arith, at_end)) (omega (arith, at_end)) r.few_index

    -- the new length
    pub new_length : block_position fm.extended v.draft.old.n sp.end ≡ plan_length (planned i h body fresh)
    new_length =
        let e : block_position fm.extended v.draft.old.n sp.end ≡ block_position fm.extended (v.draft.old.n + v.draft.g) p.data_blocks = omega (arith, at_end) in
        e ∙ sym (length_is F (v.draft.old.n + v.draft.g) p.data_blocks all) ∙ ap plan_length (sym plan_known)

  module _ (s : List ℕ) (q : Roomy s o v ms h body) where
    -- the marks are enough
    fits : sp.end ≤ length ms
    fits = omega (arith, q.end_few, q.long, r.few_index)

    pub runs_are : part_runs v.draft.g sp.places ps ≡ p.runs
    runs_are = parts_runs m v.draft.g ps ms v.end r.under.end_is r.under.marked longest_run small fits

    pub blocks_end : sp.end ≡ v.draft.g + p.data_blocks
    blocks_end = at_end s q.long q.end_few

    pub places_above : All (λ b. v.draft.g ≤ b) sp.places
    places_above = places_from v.draft.g v.end ms (map run_size ps) (omega (arith, r.under.end_is))

    pub free_are : numbers 0 (take (sp.end - v.draft.g) (drop v.draft.g sp.free)) ≡ free_blocks all p.data_blocks
    free_are = parts_free m v.draft.g ps ms v.end r.under.end_is r.under.marked longest_run small fits

    abbrev start : ℕ
    start = area_start fm v.draft.old.n

    -- where the new data blocks begin, by the old numbers
    abbrev front : ℕ
    front = block_position fm.extended v.draft.old.n v.draft.g

    end_room : 256 * v.end ≤ length (drop start s)
    end_room = omega (arith, length-drop start s, q.room, spread_grows v.draft.g v.end ms (map run_size ps))

    -- the old blocks stand behind the old index
    area_there : take (256 * v.draft.old.d) (drop start s) ≡ data_part fm o v.draft.old.n
    area_there =
        let e : length o - start ≡ 256 * v.draft.old.d = omega (arith, r.whole) in
        let a : drop start o ≡ take (length o - start) (drop start s) = ap (drop start) (sym q.copy) ∙ drop_take start (length o) s in
        sym (ap (λ (x : List ℕ). take (length o - start) x) a ∙ take-take (length o - start) (length o - start) (drop start s) (omega arith) ∙ ap (λ (k : ℕ). take k (drop start s)) e)

    -- the slice after the displaced runs are copied
    pub moved_first : (s₁ : List ℕ)
        → s₁ ≡ take start s ++ moved_written (data_part fm o v.draft.old.n) v.draft.old.d T (starts 0 v.draft.g T) (drop start s)
        → s₁ ≡ take front s ++ runs_written (m.before ++ m.after) (drop front s)
    moved_first s₁ e =
        let sum : start + 256 * v.draft.g ≡ front = omega arith in
        e
        ∙ ap (λ (x : List ℕ). take start s ++ x) (r.under.moved_is (drop start s) area_there end_room)
        ∙ sym (append_assoc (take start s) (take (256 * v.draft.g) (drop start s)) (runs_written (m.before ++ m.after) (drop (256 * v.draft.g) (drop start s))))
        ∙ ap₂ (λ (x y : List ℕ). x ++ runs_written (m.before ++ m.after) y) (sym (take-add start (256 * v.draft.g) s)) (drop-drop (256 * v.draft.g) start s)
        ∙ ap (λ (k : ℕ). take k s ++ runs_written (m.before ++ m.after) (drop k s)) sum

    abbrev index : List ℕ
    index = index_part fm o v.draft.old.n

    abbrev Q : List Run
    Q = part_runs v.draft.g sp.places ps

    -- the elements before and after, renewed
    before_are : map (renewed T v.draft.g) (elements_at w index 0 t.before) ≡ map element_of m.before
    before_are = ap (map (renewed T v.draft.g)) r.told.before ∙ r.under.before_new

    after_are : map (renewed T v.draft.g) (elements_at w index t.end t.after) ≡ map element_of m.after
    after_are = ap (map (renewed T v.draft.g)) r.told.after ∙ r.under.after_new

    pub before_length : length (elements_bytes w (elements_at w index 0 t.before)) ≡ length (elements_bytes w (map element_of m.before))
    before_length = sym (renewed_length w T v.draft.g (elements_at w index 0 t.before)) ∙ ap (λ (es : List Element). length (elements_bytes w es)) before_are

    pub after_length : length (elements_bytes w (elements_at w index t.end t.after)) ≡ length (elements_bytes w (map element_of m.after))
    after_length = sym (renewed_length w T v.draft.g (elements_at w index t.end t.after)) ∙ ap (λ (es : List Element). length (elements_bytes w es)) after_are

    -- all elements have room in the index
    pub index_room : index_start fm + length (elements_bytes w (map element_of m.before)) + length (elements_bytes w (map element_of Q)) + length (elements_bytes w (map element_of m.after))
        ≤ front
    index_room =
        let n : length (elements_bytes w (map element_of (m.before ++ Q ++ m.after))) ≤ 256 * (v.draft.old.n + v.draft.g)
        = subst (λ (x : List Run). length (elements_bytes w (map element_of (m.before ++ x ++ m.after))) ≤ 256 * (v.draft.old.n + v.draft.g)) (sym runs_are)
        (need_room w (map element_of all) (v.draft.old.n + v.draft.g) all_need) in
        omega (arith, elements_sum w m.before Q m.after)

    -- the new image lies inside the slice
    pub room_is : front + 256 * p.data_blocks ≤ length s
    room_is = omega (arith, q.room, blocks_end)

    -- the image of the plan
    Same : (j : Image) → image_from o ≡ ok j → planned j h body fresh ≡ plan_of F (v.draft.old.n + v.draft.g) p.data_blocks all
    Same j e = ap (λ (x : Image). planned x h body fresh) (same_value j i (sym e ∙ r.accepted.is)) ∙ plan_known

    -- by the new numbers
    front_new : front ≡ new_start v
    front_new = omega arith

    -- THE LAW of the writing: index and blocks
    pub areas_done : (s₁ s₂ s₃ s₄ s₅ : List ℕ) (a b e : ℕ)
        → s₁ ≡ take start s ++ moved_written (data_part fm o v.draft.old.n) v.draft.old.d T (starts 0 v.draft.g T) (drop start s)
        → s₂ ≡ write (index_start fm) (elements_bytes w (map (renewed T v.draft.g) (elements_at w index 0 t.before))) s₁
        → a ≡ index_start fm + length (elements_bytes w (elements_at w index 0 t.before))
        → s₃ ≡ parts_written w fm.extended v.draft.old.n v.draft.g a sp.places ps s₂
        → b ≡ a + length (elements_bytes w (map element_of Q))
        → s₄ ≡ write b (elements_bytes w (map (renewed T v.draft.g) (elements_at w index t.end t.after))) s₃
        → e ≡ b + length (elements_bytes w (elements_at w index t.end t.after))
        → s₅ ≡ write e (zeros (new_start v - e)) s₄
        → Areas s s₅ o v h body
    areas_done s₁ s₂ s₃ s₄ s₅ a b e e₁ e₂ ea e₃ eb e₄ ee e₅ j is =
        let B : List ℕ = elements_bytes w (map element_of m.before) in
        let P : List ℕ = elements_bytes w (map element_of Q) in
        let A : List ℕ = elements_bytes w (map element_of m.after) in
        let na : a ≡ index_start fm + length B = omega (arith, ea, before_length) in
        let nb : b ≡ index_start fm + length B + length P = omega (arith, eb) in
        let ne : e ≡ index_start fm + length B + length P + length A = omega (arith, ee, after_length) in
        let d₂ : s₂ ≡ write (index_start fm) B s₁ = e₂ ∙ ap (λ (es : List Element). write (index_start fm) (elements_bytes w es) s₁) before_are in
        let d₃ : s₃ ≡ parts_written w fm.extended v.draft.old.n v.draft.g (index_start fm + length B) sp.places ps s₂
        = e₃ ∙ ap (λ (k : ℕ). parts_written w fm.extended v.draft.old.n v.draft.g k sp.places ps s₂) na in
        let d₄ : s₄ ≡ write (index_start fm + length B + length P) A s₃ = e₄ ∙ ap₂ (λ (k : ℕ) (es : List Element). write k (elements_bytes w es) s₃) nb after_are in
        let d₅ : s₅ ≡ write (index_start fm + length B + length P + length A) (zeros (front - (index_start fm + length B + length P + length A))) s₄
        = e₅ ∙ ap₂ (λ (k l : ℕ). write k (zeros (l - k)) s₄) ne (sym front_new) in
        let laid : Laid p.data_blocks (m.before ++ Q ++ m.after) = subst (λ (x : List Run). Laid p.data_blocks (m.before ++ x ++ m.after)) (sym runs_are) all_laid in
        sides F s v.draft.old.n v.draft.g p.data_blocks m.before m.after sp.places ps room_is laid places_above index_room s₁ s₂ s₃ s₄ s₅ (moved_first s₁ e₁) d₂ d₃ d₄ d₅
        ∙ ap (λ (x : List Run). take (index_start fm) s ++ index_bytes w (v.draft.old.n + v.draft.g) (map element_of (m.before ++ x ++ m.after))
        ++ runs_written (m.before ++ x ++ m.after) (drop front s))
        runs_are
        ∙ ap₂ (λ (x : Plan) (k : ℕ). take (index_start fm) s ++ index_bytes w (v.draft.old.n + v.draft.g) (map element_of x.runs) ++ runs_written x.runs (drop k s)) (sym (Same j is)) front_new

    -- the header of the image on its way is the old one's
    header_same : (s₅ x : List ℕ) → s₅ ≡ take (index_start fm) s ++ x → take 256 s₅ ≡ take 256 o
    header_same s₅ x e =
        let a : take 256 (take (index_start fm) s ++ x) ≡ take 256 (take (index_start fm) s)
        = take-append-le 256 (take (index_start fm) s) x (omega (arith, length-take-le (index_start fm) s (omega (arith, room_is)))) in
        let b : take 256 (take (index_start fm) s) ≡ take 256 s = take-take 256 (index_start fm) s (omega arith) in
        let c : take 256 (take (length o) s) ≡ take 256 s = take-take 256 (length o) s (omega (arith, r.whole)) in
        ap (take 256) e ∙ a ∙ b ∙ sym c ∙ ap (take 256) q.copy

    -- and the free list and the header
    pub sealed_done : (s₅ s₆ s₇ : List ℕ) (last first : ℕ) → Areas s s₅ o v h body → last ≡ sp.end
        → s₆ ≡ take (new_start v) s₅ ++ free_list_written (numbers 0 (take (last - v.draft.g) (drop v.draft.g sp.free))) (drop (new_start v) s₅)
        → first ≡ free_list_start (numbers 0 (take (last - v.draft.g) (drop v.draft.g sp.free)))
        → s₇
        ≡ changed_header (layout_named s₅) (record { index_blocks = v.draft.old.n + v.draft.g; entries = v.words; first_free = first; elements = v.draft.elements; run_blocks = v.draft.blocks }) s₆
        → Written s s₇ o h body fresh
    sealed_done s₅ s₆ s₇ last first e₅ el e₆ ef e₇ j is =
        let D : ℕ = p.data_blocks in
        let counts : Counts = record { index_blocks = v.draft.old.n + v.draft.g; entries = v.words; first_free = first; elements = v.draft.elements; run_blocks = v.draft.blocks } in
        let f : numbers 0 (take (last - v.draft.g) (drop v.draft.g sp.free)) ≡ free_blocks all D = ap (λ (x : ℕ). numbers 0 (take (x - v.draft.g) (drop v.draft.g sp.free))) el ∙ free_are in
        let I : List ℕ = index_bytes w (v.draft.old.n + v.draft.g) (map element_of all) in
        let l : length I ≡ 256 * (v.draft.old.n + v.draft.g) = index_bytes_length w (map element_of all) (v.draft.old.n + v.draft.g) all_need in
        let d₅ : s₅ ≡ take (index_start fm) s ++ I ++ runs_written all (drop (new_start v) s)
        = e₅ j is ∙ ap (λ (x : Plan). take (index_start fm) s ++ index_bytes w (v.draft.old.n + v.draft.g) (map element_of x.runs) ++ runs_written x.runs (drop (new_start v) s)) (Same j is) in
        let e₈ : s₇ ≡ changed_header (layout_named o) counts s₆ = e₇ ∙ ap (λ (x : Layout). changed_header x counts s₆)
        (layout_kept s₅ o (header_same s₅ (I ++ runs_written all (drop (new_start v) s)) (d₅ ∙ append_assoc (take (index_start fm) s) I (runs_written all (drop (new_start v) s))))) in
        let d₆ : s₆ ≡ take (new_start v) s₅ ++ free_list_written (free_blocks all D) (drop (new_start v) s₅)
        = e₆ ∙ ap (λ (x : List ℕ). take (new_start v) s₅ ++ free_list_written x (drop (new_start v) s₅)) f in
        sealed F lawful s s₅ s₆ s₇ I (runs_written all (drop (new_start v) s)) (free_blocks all D) (new_start v) counts (omega (arith, room_is)) (omega arith) d₅ d₆ e₈
        ∙ ap (λ (x : Counts). changed_header (layout_named o) x (take (index_start fm) s) ++ I ++ free_list_written (free_blocks all D) (runs_written all (drop (new_start v) s)))
        (all_counts first (ef ∙ ap free_list_start f))
        ∙ sym (written_is F s (v.draft.old.n + v.draft.g) D all)
        ∙ ap (λ (x : Plan). plan_written x s) (sym (Same j is))
