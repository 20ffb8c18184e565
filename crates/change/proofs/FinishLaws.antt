-- The start of a change and its end, as code takes them.
use Prim.Native.Nat.{ℕ, ◌+◌, ◌-◌, ◌*◌, ◌≤◌, ◌<◌}
use mathlib.Core.Path.{◌≡◌, refl, sym, ap, subst, ◌∙◌}
use mathlib.Core.Logic.{⊎_elim}
use mathlib.Core.Bool.{Bool, true, false}
use mathlib.Core.List.{List, [], ◌++◌, map}
use native.Mathlib.Omega.{arith}
use lib.ListN.{length, take, drop, replicate, length-take, length-append, length-replicate}
use lib.Seq.{length-take-le}
use lib.Dec.{eqb}
use Rattle.spec.specs.Order.{HeadwordOrder, below_of}
use Rattle.spec.specs.Outcome.{ok}
use Rattle.std.specs.Prelude.{Ok, Err}
use Rattle.spec.specs.declared.Refusal.{Refusal}
use Rattle.spec.specs.Bytes.{write, bytes_at, blocks_for}
use Rattle.spec.specs.Header.{block_position, get}
use Rattle.spec.specs.Entry.{headword_ok}
use Rattle.spec.specs.Run.{Run}
use Rattle.spec.specs.Blocks.{free_marks}
use Rattle.spec.specs.Check.{Image, image_from, runs_from}
use Rattle.spec.specs.Place as Place
use Rattle.spec.specs.Place.{target_run, cut, new_run, grown, plan_full}
use Rattle.spec.specs.Calls.{plan_length}
use Rattle.spec.specs.SortedList.{lookup}
use Rattle.spec.specs.Claim.{is_there}
use Rattle.spec.proofs.OutcomeLaws.{same_value}
use Rattle.marks.specs.Marks.{marks, with_range}
use Rattle.marks.proofs.Laws.{length_marks, length_range}
use Rattle.freelist.proofs.Laws.{length_free_marks}
use Rattle.header.specs.declared.Form.{Form}
use Rattle.header.specs.Form.{layout_named, most_of, GoodForm, index_start, area_start, index_cut, data_cut, index_part, data_part}
use Rattle.index.specs.Elements.{elements_at, elements_end, Inside}
use Rattle.index.proofs.Laws.{ends_inside}
use Rattle.inspect.specs.declared.Overview.{Overview}
use Rattle.inspect.specs.Overview.{AcceptedImage, FreeMarked}
use Rattle.inspect.proofs.Laws.{data_long}
use Rattle.inspect.proofs.Accepted.{accepted_d, accepted_few, accepted_blocks, accepted_inside, accepted_runs}
use Rattle.placing.specs.Spread.{Within}
use Rattle.moves.specs.Moved.{noted, starts, freed}
use Rattle.target.specs.declared.Target.{Target}
use Rattle.target.specs.Told.{entries_start, entries_part, TargetTold}
use Rattle.target.proofs.Laws.{told_blocks}
use Rattle.encoder.specs.Limits.{longest_body}
use Rattle.parts.specs.Part.{Measured}
use Rattle.parts.proofs.PartLaws.{copied_front}
use Rattle.parts.specs.Merge.{entries_left, changed_entries}
use Rattle.plan.specs.Growing.{Growing}
use Rattle.newruns.specs.Laid.{laid}
use Rattle.change.specs.declared.Outline.{Outline}
use Rattle.change.specs.declared.Draft.{Draft}
use Rattle.change.specs.Ready.{growth, planned, laid_parts, old_length, most_with, Displaced, Ready, Roomy, Written, Changed}
use Rattle.change.specs.Drafted.{PlannedEnd, Fitted, Fitting, Drafted, PlanCounted, Begun}
use Rattle.change.proofs.Laws.{run_cut, blocks_full, length_full, not_full, new_length}
use Rattle.change.proofs.FoundLaws.{whole_found}
use Rattle.change.proofs.ReadyLaws.{blocks_counted, still, grows, grows_over, index_full, moved_full, ready}

-- ---- plan_end
-- the end by the copied marks is that by the marks
pub end_planned : (o : List ℕ) (v : Outline) (ws ws₁ : List ℕ) (h body : List ℕ) (start from r : ℕ) (ms : List Bool) → start ≡ area_start v.draft.old.form v.draft.old.n
    → ws₁ ≡ ws → from ≡ entries_start v.draft.target.block v.draft.target.size
    → Within (most_with v.draft.old v.draft.g) (laid v.draft.old.form.limit v.draft.g v.end (marks ws₁) (changed_entries v.draft.old.form.order
    (take (256 * (v.draft.target.block + v.draft.target.size) - from) (drop from (data_cut o start))) h body v.draft.fresh)) r ms
    → PlannedEnd o v (marks ws) h body r
end_planned o v ws ws₁ h body start from r ms here e f w =
    let t : Target = v.draft.target in
    let area : List ℕ = data_part v.draft.old.form o v.draft.old.n in
    let k : take (256 * (t.block + t.size) - from) (drop from area) ≡ entries_part area t.block t.size = run_cut area t.block t.size from f in
    let w₁ = subst
    (λ (x : List ℕ). Within (most_with v.draft.old v.draft.g) (laid v.draft.old.form.limit v.draft.g v.end (marks ws₁) (changed_entries v.draft.old.form.order x h body v.draft.fresh)) r ms) k
    (rw here at w) in
    let w₂ = subst (λ (x : List ℕ). Within (most_with v.draft.old v.draft.g) (laid_parts o v (marks x) h body) r ms) e w₁ in
    (λ p. (w₂.0 p).0, w₂.1)

-- the image at the front of a slice, by the number of its bytes as code works it out: it is as long
pub front_long : (s : List ℕ) (x : Overview) (len : ℕ) → len ≡ old_length x → old_length x ≤ length s → old_length x ≡ length (take len s)
front_long s x len there inside = rw there (sym (length-take-le (old_length x) s inside))

-- a change of the image at the front of a slice is ready, by the number of its bytes as code works it out
pub front_ready : (s : List ℕ) (v : Outline) (ms : List Bool) (h body : List ℕ) (len : ℕ) → len ≡ old_length v.draft.old → (T : List ℕ) → Ready (take len s) v T ms h body
    → Ready (take (old_length v.draft.old) s) v T ms h body
front_ready s v ms h body len there T = subst (λ (k : ℕ). Ready (take k s) v T ms h body) there

-- ---- finish
-- the marks of 2,560 words
pub marks_long : (ws : List ℕ) → length ws ≡ 2560 → length (marks ws) ≡ 163_840
marks_long ws e = omega (arith, length_marks ws)

module _ (o : List ℕ) (v : Outline) (T : List ℕ) (ms : List Bool) (h body : List ℕ) (r : Ready o v T ms h body) where
  -- the blocks end behind those that the index takes
  pub end_behind : v.draft.g ≤ v.end
  end_behind = omega (arith, r.under.end_is)

  -- the form is one that the code takes
  pub ready_form : GoodForm v.draft.old.form
  ready_form = r.accepted.good

  -- and the image has no more data blocks than row 5 allows
  pub ready_few : v.draft.old.d ≤ most_of v.draft.old.form.width
  ready_few = accepted_blocks o v.draft.old r.accepted

module _ (s : List ℕ) (L : ℕ) (v : Outline) (T : List ℕ) (ms : List Bool) (h body : List ℕ) (r : Ready (take L s) v T ms h body) where
  abbrev o : List ℕ
  o = take L s

  abbrev fresh : Bool
  fresh = v.draft.fresh

  -- where an image ends that has so many blocks, counted with the g that become the index's
  abbrev end_of : ℕ → ℕ
  end_of last = block_position v.draft.old.form.extended v.draft.old.n last

  abbrev image : Image
  image = r.accepted.image

  -- the plan is that of the image
  same_plan : (i : Image) → image_from o ≡ ok i → planned i h body fresh ≡ planned image h body fresh
  same_plan i e = ap (λ (x : Image). planned x h body fresh) (same_value i image (sym e ∙ r.accepted.is))

  -- row 15
  pub finish_full : (k : Refusal) → Fitting s o v ms h body (Err k) → length ms ≡ 163_840 → Changed s L h body fresh (Err k) s
  finish_full k (z, q) long =
      let f : plan_full s (planned image h body fresh) ≡ true
      = ⊎_elim (λ p. blocks_full o v T ms h body r s long p) (λ (few, p). length_full o v T ms h body r s long few p) q in
      (z, λ i e. (ap (plan_full s) (same_plan i e) ∙ f, refl))

  module _ (last : ℕ) (at : Fitted s o v ms h body last) (long : length ms ≡ 163_840) (inside : L ≤ length s) (o' : List ℕ) (copied : o' ≡ o) where
    -- from a copy of the old image the change is ready, there is room, and the blocks end there
    pub copy_ready : Ready o' v T ms h body × Roomy s o' v ms h body × (last ≡ (laid_parts o' v ms h body).end)
    copy_ready =
        let l : length o ≡ L = length-take-le L s inside in
        subst (λ (x : List ℕ). Ready x v T ms h body × Roomy s x v ms h body × (last ≡ (laid_parts x v ms h body).end)) (sym copied) (
          r,
          record {
            copy = ap (λ (k : ℕ). take k s) l;
            shorter = omega (arith, l);
            end_few = omega (arith, at.end_is, at.few);
            room = omega (arith, at.end_is, at.room);
            long = long;
          },
          at.end_is,
        )

    -- the change is written
    pub finish_done : (s' : List ℕ) → Written s s' o' h body fresh → (new : ℕ) → new ≡ end_of last → Changed s L h body fresh (Ok new) s'
    finish_done s' w new en i e =
        let z : new ≡ end_of (laid_parts o v ms h body).end = omega (arith, en, at.end_is) in
        let few : (laid_parts o v ms h body).end ≤ most_with v.draft.old v.draft.g = omega (arith, at.end_is, at.few) in (
          ap (plan_full s) (same_plan i e) ∙ not_full o v T ms h body r s long few (omega (arith, at.end_is, at.room)),
          z ∙ new_length o v T ms h body r s long few ∙ ap plan_length (sym (same_plan i e)),
          w i (ap image_from copied ∙ e),
        )

-- the old image copied to the front of the working slice, by the number of its bytes as code works it out
pub copied_image : (s w w' : List ℕ) (x : Overview) (len : ℕ) → len ≡ old_length x → old_length x ≤ length s → w' ≡ write 0 (bytes_at 0 len s) w → take len w' ≡ take (old_length x) s
copied_image s w w' x len there inside e = copied_front s w w' len e (omega (arith, there)) ∙ ap (λ (k : ℕ). take k s) there

-- ---- measure_change
-- the elements of an accepted image end early
pub index_short : (o : List ℕ) (x : Overview) → AcceptedImage o x → x.end ≤ 8_388_352
index_short o x a =
    let k : ℕ = get (layout_named o).nindex2 o in
    omega (
      arith,
      a.end_is,
      accepted_few o x a,
      length-take (area_start x.form x.n - index_start x.form) (drop (index_start x.form) o),
      ends_inside x.form.width (index_part x.form o x.n) 0 k (accepted_inside o x a (area_start x.form x.n) refl k refl),
    )

-- an index does not grow by more than these bytes
pub growth_few : (n k b : ℕ) → growth n k b ≤ b + 4
unfolding growth blocks_for
growth_few n k b = go (eqb k 0)
  where
    go : (x : Bool) → elim x [ true ↦ 0 | false ↦ blocks_for (b + 4) - n ] ≤ b + 4
    go true = omega arith
    go false = omega arith

module _ (o : List ℕ) (x : Overview) (a : AcceptedImage o x) (start : ℕ) (here : start ≡ area_start x.form x.n) (e : ℕ) (number : e ≡ get (layout_named o).nindex2 o) where
  abbrev order : ℕ
  order = x.form.order

  abbrev there_index : List ℕ
  there_index = index_part x.form o x.n

  abbrev there_area : List ℕ
  there_area = data_part x.form o x.n

  -- the run concerned, as code finds it in the index and the data area that it cuts out
  abbrev Finds : List ℕ → Target → ℕ → Type 0
  Finds h t k = (rs : List Run) → runs_from (below_of order) x.d (data_cut o k) (elements_at x.form.width (index_cut x.form o k) 0 e) ≡ ok rs
      → TargetTold x.form.width order (index_cut x.form o k) (data_cut o k) e h rs t

  module _ (h : List ℕ) (t : Target) (found : Finds h t start) where
    told : TargetTold x.form.width order there_index there_area e h a.image.runs t
    told = subst (Finds h t) here found a.image.runs (accepted_runs o x a (area_start x.form x.n) refl e number)

    -- the run concerned has its element among all
    pub element_short : t.end - t.at ≤ x.end
    element_short = omega (arith, told.bytes, a.end_is, ap (elements_end x.form.width there_index 0) number)

    -- and its blocks among those of all runs
    pub blocks_short : (b : ℕ) → b ≡ get (layout_named o).nblock2 o → t.size ≤ b
    blocks_short b p = omega (arith, p, blocks_counted o x a, told_blocks x.form.width order there_index there_area e h a.image.runs t told)

    -- so the change is measured
    pub drafted : (body : List ℕ) (fresh there : Bool) (from b g parts bytes blocks : ℕ) → t.block + t.size ≤ x.d → from ≡ entries_start t.block t.size
        → Measured x.form.width (map new_run (cut x.form.limit (changed_entries order (take (256 * (t.block + t.size) - from) (drop from (data_cut o start))) h body fresh)))
        parts bytes blocks
        → b ≡ get (layout_named o).nblock2 o → g ≡ growth x.n (t.before + t.after + parts) (x.end - (t.end - t.at) + bytes)
        → bytes ≤ 2_122_318_077 → there ≡ is_there (lookup h (entries_left (below_of order) [] (take (256 * (t.block + t.size) - from) (drop from (data_cut o start)))))
        → Drafted o h body (record { old = x; target = t; fresh = fresh; found = there; g = g; elements = t.before + t.after + parts; blocks = b - t.size + blocks })
    drafted body fresh there from b g parts bytes blocks p ef m eb eg lb ft =
        record {
          accepted = a;
          told = λ i is. subst (λ (y : Image). TargetTold x.form.width order there_index there_area (get (layout_named o).nindex2 o) h y.runs t)
              (same_value a.image i (sym a.is ∙ is)) (subst (λ (y : ℕ). TargetTold x.form.width order there_index there_area y h a.image.runs t) number told);
          inside = p;
          found_is =
              λ i is. (rw here at ft) ∙ ap (λ (y : List ℕ). is_there (lookup h (entries_left (below_of order) [] y))) (run_cut there_area t.block t.size from ef)
              ∙ whole_found o x a e h t told i is;
          parts = parts;
          bytes = bytes;
          run_blocks = blocks;
          measured = subst (λ (y : List ℕ). Measured x.form.width (map new_run (cut x.form.limit (changed_entries order y h body fresh))) parts bytes blocks)
              (run_cut there_area t.block t.size from ef) (rw here at m);
          growth_is = eg;
          growth_few = omega (arith, eg, index_short o x a, lb, growth_few x.n (t.before + t.after + parts) (x.end - (t.end - t.at) + bytes));
          elements_are = refl;
          blocks_are = ap (λ (y : ℕ). y - t.size + blocks) eb;
        }

-- ---- change
-- row 15: an index of too many blocks
pub change_index : (s : List ℕ) (L : ℕ) (h body : List ℕ) (p : Draft) → Drafted (take L s) h body p → 32_767 < p.old.n + p.g → Changed s L h body p.fresh (Err Refusal.Full) s
change_index s L h body p k q =
    let a : AcceptedImage (take L s) p.old = k.accepted in
    let f : plan_full s (planned a.image h body p.fresh) ≡ true
    = index_full (take L s) p.old a h p.target (k.told a.image a.is) body p.fresh k.parts k.bytes k.run_blocks k.measured s p.g k.growth_is q in
    (refl, λ i e. (ap (λ (y : Image). plan_full s (planned y h body p.fresh)) (same_value i a.image (sym e ∙ a.is)) ∙ f, refl))

-- what a change begins with
pub begins : (s : List ℕ) (h body : List ℕ) (words : ℕ) (p : Draft) (free free' : List Bool) → old_length p.old ≤ length s → Drafted (take (old_length p.old) s) h body p
    → FreeMarked (take (old_length p.old) s) free → PlanCounted (take (old_length p.old) s) h body p.fresh words
    → free' ≡ with_range p.target.block p.target.size true free → p.old.d ≤ length free
    → p.old.n + p.g ≤ 32_767 → headword_ok h ≡ true → length body ≤ longest_body
    → Begun (take (old_length p.old) s) p free' h body words
begins s h body words p free free' inside k marked sound e long few headword short =
    let a : AcceptedImage (take (old_length p.old) s) p.old = k.accepted in
    let l : length free' ≡ length free = ap length e ∙ length_range p.target.block p.target.size true free (omega (arith, k.inside)) in
    let m : free ≡ free_marks p.old.d a.image.free_list ++ replicate (length free - p.old.d) false
    = subst (λ (x : ℕ). free ≡ free_marks x a.image.free_list ++ replicate (length free - x) false) (sym (accepted_d _ p.old a)) (marked a.image a.is) in
    record {
      whole = sym (length-take-le (old_length p.old) s inside);
      drafted = k;
      few_index = few;
      headword = headword;
      body_short = short;
      marked =
          subst (λ (x : ℕ). free' ≡ with_range p.target.block p.target.size true (free_marks p.old.d a.image.free_list ++ replicate (x - p.old.d) false)) (sym l)
          (e ∙ ap (with_range p.target.block p.target.size true) m);
      sound = (sound a.image a.is).0;
      words_are = (sound a.image a.is).1;
    }

-- the same of the image at the front of a slice, by the number of its bytes as code works it out
pub begun_front : (s : List ℕ) (p : Draft) (ms : List Bool) (h body : List ℕ) (words len : ℕ) → len ≡ old_length p.old
    → Begun (take (old_length p.old) s) p ms h body words → Begun (take len s) p ms h body words
begun_front s p ms h body words len there = subst (λ (k : ℕ). Begun (take k s) p ms h body words) (sym there)

module _ (o : List ℕ) (p : Draft) (ms : List Bool) (h body : List ℕ) (words : ℕ) (b : Begun o p ms h body words) (long : length ms ≡ 163_840) where
  abbrev x : Overview
  x = p.old

  abbrev fm : Form
  fm = x.form

  abbrev w : ℕ
  w = fm.width

  abbrev below : HeadwordOrder
  below = below_of fm.order

  abbrev a : AcceptedImage o x
  a = b.drafted.accepted

  abbrev t : Target
  t = p.target

  abbrev k : Drafted o h body p
  k = b.drafted

  abbrev index : List ℕ
  index = index_part fm o x.n

  abbrev area : List ℕ
  area = data_part fm o x.n

  abbrev c : Place.Target
  c = target_run below h a.image.runs

  -- the marks before the run concerned was given up
  abbrev free : List Bool
  free = free_marks x.d a.image.free_list ++ replicate (length ms - x.d) false

  -- the run concerned
  told_here : TargetTold w fm.order index area (get (layout_named o).nindex2 o) h a.image.runs t
  told_here = k.told a.image a.is

  -- the form, and the data area
  pub good_here : GoodForm fm
  good_here = a.good

  pub few : x.d ≤ most_of w
  few = accepted_blocks o x a

  -- the index and the data area as code cuts them out
  module _ (start : ℕ) (here : start ≡ area_start fm x.n) where
    pub cut_long : 256 * x.d ≡ length (data_cut o start)
    cut_long = data_long o fm x.n x.d b.whole start here

    pub cut_inside : Inside w (index_cut fm o start) 0 t.before × Inside w (index_cut fm o start) t.end t.after
    cut_inside = rw here (told_here.before_inside, told_here.after_inside)

  free_long : length free ≡ 163_840
  free_long =
      omega (
        arith,
        length-append (free_marks x.d a.image.free_list) (replicate (length ms - x.d) false),
        length_free_marks x.d a.image.free_list,
        length-replicate (length ms - x.d) false,
        few,
      )

  free_is : free ≡ free_marks x.d a.image.free_list ++ replicate (length free - x.d) false
  free_is = ap (λ (y : ℕ). free_marks x.d a.image.free_list ++ replicate (y - x.d) false) (long ∙ sym free_long)

  -- a change as it is written, by so many elements and blocks
  abbrev outlined : ℕ → ℕ → ℕ → ℕ → Outline
  outlined g end elements blocks = record { draft = record { old = x; target = t; fresh = p.fresh; found = p.found; g = g; elements = elements; blocks = blocks }; end = end; words = words }

  -- ready by the elements and blocks of the draft
  by_draft : (g end : ℕ) (T : List ℕ) (ms' : List Bool) → Ready o (outlined g end (t.before + t.after + k.parts) (get (layout_named o).nblock2 o - t.size + k.run_blocks)) T ms' h body
      → Ready o (outlined g end p.elements p.blocks) T ms' h body
  by_draft g end T ms' r =
      subst (λ (y : ℕ). Ready o (outlined g end p.elements y) T ms' h body) (sym k.blocks_are)
      (subst (λ (y : ℕ). Ready o (outlined g end y (get (layout_named o).nblock2 o - t.size + k.run_blocks)) T ms' h body) (sym k.elements_are) r)

  -- an index that does not grow
  pub still_ready : p.g ≡ 0 → Ready o (outlined p.g x.d p.elements p.blocks) [] ms h body
  still_ready z =
      let growing : Growing area x.d 0 c.before c.after 163_840 [] x.d ms
      = subst (Growing area x.d 0 c.before c.after 163_840 [] x.d) (sym b.marked) (still o x a h t told_here free free_is free_long few k.inside []) in
      subst (λ (y : ℕ). Ready o (outlined y x.d p.elements p.blocks) [] ms h body) (sym z) (
      by_draft 0 x.d [] ms
      (ready o x a h t told_here body p.fresh k.parts k.bytes k.run_blocks k.measured p.found 0 x.d words [] ms b.whole b.headword b.body_short
      k.inside (sym z ∙ k.growth_is) (omega (arith, b.few_index)) refl (omega (arith, few))
      (subst (λ (y : ℕ). Growing area x.d 0 c.before c.after y [] x.d ms) (sym long) growing) b.sound b.words_are)
      )

  module _ (one : 1 ≤ p.g) (end : ℕ) (U T : List ℕ) (none : U ≡ replicate p.g 0) (ms' : List Bool) (start : ℕ) (here : start ≡ area_start fm x.n)
      (displaced : Displaced w (data_cut o start) x.d (elements_at w (index_cut fm o start) 0 t.before) (elements_at w (index_cut fm o start) t.end t.after)
      (length U) U ms end T ms') where
    abbrev g : ℕ
    g = p.g

    -- the data area and the index are those of the image, and the table has no run at any block
    moved : Displaced w area x.d (elements_at w index 0 t.before) (elements_at w index t.end t.after) g (replicate g 0) ms end T ms'
    moved =
        let cut : Displaced w area x.d (elements_at w index 0 t.before) (elements_at w index t.end t.after) (length U) U ms end T ms'
        = subst (λ (k : ℕ). Displaced w (data_cut o k) x.d (elements_at w (index_cut fm o k) 0 t.before) (elements_at w (index_cut fm o k) t.end t.after)
        (length U) U ms end T ms') here displaced in
        subst (λ (k : ℕ). Displaced w area x.d (elements_at w index 0 t.before) (elements_at w index t.end t.after) k (replicate g 0) ms end T ms') (length-replicate g 0)
        (subst (λ (y : List ℕ). Displaced w area x.d (elements_at w index 0 t.before) (elements_at w index t.end t.after) (length y) y ms end T ms') none cut)

    abbrev T₀ : List ℕ
    T₀ = noted g (map (λ e. e.block) (elements_at w index t.end t.after)) (noted g (map (λ e. e.block) (elements_at w index 0 t.before)) (replicate g 0))

    abbrev ms₁ : List Bool
    ms₁ = freed area x.d (starts 0 g T₀) ms

    freed_is : ms₁ ≡ freed area x.d (starts 0 g T₀) (with_range t.block t.size true free)
    freed_is = ap (freed area x.d (starts 0 g T₀)) b.marked

    -- row 15: too many data blocks when the displaced runs are placed
    pub grow_full : (s : List ℕ) (L : ℕ) → o ≡ take L s → most_with x g < end → Changed s L h body p.fresh (Err Refusal.Full) s
    grow_full s L eo q =
        let over : most_of w < (grown g x.d c.before c.after).data_blocks
        = grows_over o x a h t told_here free free_is free_long few k.inside g one (omega (arith, b.few_index)) T₀ ms₁ refl freed_is ((moved T₀ ms₁ refl refl).0.1 q) in
        let f : plan_full s (planned a.image h body p.fresh) ≡ true
        = moved_full o x a h t told_here body p.fresh k.parts k.bytes k.run_blocks k.measured s g k.growth_is over in
        (refl, λ i e. (ap (λ (z : Image). plan_full s (planned z h body p.fresh)) (same_value i a.image (sym e ∙ ap image_from (sym eo) ∙ a.is)) ∙ f, refl))

    -- the displaced runs are placed
    pub grow_ready : end ≤ most_with x g → length T ≡ g → length ms' ≡ 163_840 → Ready o (outlined g end p.elements p.blocks) T ms' h body
    grow_ready q table long' =
        let v = moved T₀ ms₁ refl refl in
        let growing : Growing area x.d g c.before c.after 163_840 T end ms'
        = grows o x a h t told_here free free_is free_long few k.inside g one (omega (arith, b.few_index)) T₀ T ms₁ ms' end refl freed_is
        (v.0.0 q).0 (v.0.0 q).1 (v.1 q) (omega (arith, b.few_index)) in
        by_draft g end T ms'
        (ready o x a h t told_here body p.fresh k.parts k.bytes k.run_blocks k.measured p.found g end words T ms' b.whole b.headword
        b.body_short k.inside k.growth_is b.few_index table q
        (subst (λ (y : ℕ). Growing area x.d g c.before c.after y T end ms') (sym long') growing) b.sound b.words_are)
