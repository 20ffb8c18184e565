-- What the tests of a whole image show, in the terms of the code.
use Prim.Native.Nat.{ℕ, zero, suc, ◌+◌, ◌-◌, ◌*◌, ◌%◌, ◌<◌, ◌≤◌}
use mathlib.Core.Path.{◌≡◌, refl, sym, ap, subst, ◌∙◌}
use mathlib.Core.Bool.{Bool, true, false, not, ◌||◌, true≢false, or-true, or_assoc}
use mathlib.Core.List.{List, [], ◌∷◌, ◌++◌}
use mathlib.Core.Logic.{◌⊎◌, inl, inr}
use native.Mathlib.Omega.{arith}
use native.Mathlib.Nat.{zero-add, min-le_left}
use lib.ListN.{length, get_or, take, drop, replicate, length-take, length-drop, length-replicate, get_or-replicate}
use lib.Seq.{get_or-take, length-take-le}
use lib.Dec.{eqb}
use Rattle.std.specs.Prelude.{Result, Ok, Err}
use Rattle.spec.specs.Answers.{number_of}
use Rattle.spec.specs.declared.Refusal.{Refusal}
use borrow.Author.Tests.{eq-eqb, ne_eqb, eqb-true, not-true, not-false}
use Rattle.spec.specs.Order.{HeadwordOrder, below_of}
use Rattle.spec.specs.Outcome.{Outcome, refused, ok, ◌>>=◌, ◌>>◌, refuse◌when◌, accepted}
use Rattle.spec.specs.Lists as Lists
use Rattle.spec.specs.Lists.{any, All}
use Rattle.spec.specs.Header.{format_of, block_position, get}
use Rattle.spec.specs.Run.{Run}
use Rattle.spec.specs.Index as Index
use Rattle.spec.specs.Index.{Element, elements_from, index_from}
use Rattle.spec.specs.Blocks.{covers, run_blocks, free_list_from, each_once, free_marks, count_marks}
use Rattle.spec.specs.Calls as Calls
use Rattle.spec.specs.Calls.{figures}
use Rattle.spec.specs.Check as Check
use Rattle.spec.specs.Check.{Frame, Image, index_area, data_area, frame_from, runs_from, counts_ok, image_from, all_entries}
use Rattle.spec.proofs.ListsLaws.{or_false, less_or}
use Rattle.spec.proofs.OutcomeLaws.{same_value, ok_not_refused, when_ok, Answer, accepted_answer}
use Rattle.spec.proofs.ReadLaws.{free_list_below, free_list_nine, runs_inside}
use Rattle.spec.proofs.BlocksLaws.{covers_inside, covers_outside}
use Rattle.spec.proofs.CountLaws.{blocks_once, once_by_cover, once_covered}
use Rattle.marks.specs.Marks.{with_range, next}
use Rattle.marks.proofs.Laws.{next_is, next_before, length_range, get_range_in, get_range_below, get_range_above}
use Rattle.header.specs.Form.{layout_named, most_of, frame_by, GoodForm, index_start, area_start, index_cut, data_cut, data_part}
use Rattle.header.specs.Framed.{framed, FormTold}
use Rattle.header.specs.declared.Form.{Form}
use Rattle.header.specs.declared.FrameFound.{FrameFound}
use Rattle.header.proofs.Laws.{frame_refused, frame_read, frame_by_form, image_by_form, frame_index_few, frame_data_few, frame_length_is, index_slice, data_slice}
use Rattle.index.specs.Elements as Elements
use Rattle.index.specs.Elements.{elements_at, elements_end, ended, Inside}
use Rattle.index.proofs.Laws.{elements_found, index_refused, ended_broken, ended_at}
use Rattle.freelist.specs.FreeList.{has_length, with_marks, Marked}
use Rattle.freelist.proofs.Laws.{Read, has_length_read, has_length_not, length_with_marks, get_with_marks, with_no_marks, count_behind}
use Rattle.tally.specs.Tally as Tally
use Rattle.tally.specs.Tally.{Tally as TallyRecord, covered, tally, runs_answer}
use Rattle.tally.specs.declared.RunCounts.{RunCounts}
use Rattle.inspect.specs.Overview.{AcceptedImage, FreeMarked, Told, RunsRead}
use Rattle.inspect.specs.declared.Overview.{Overview}

module _ (w : ℕ) (below : HeadwordOrder) (area : List ℕ) (n e : ℕ) where
  -- row 6 without an index block: no element
  pub index_empty : n ≡ 0 → e ≡ 0 → Ok 0 ≡ ended (accepted (index_from w below n e area)) (elements_end w area 0 e)
  unfolding Index.index_from accepted Elements.ended Elements.elements_end
  index_empty z h = rw (z, h)

  -- or some
  pub index_none : n ≡ 0 → (e ≡ 0 → ⊥) → Err Refusal.BadIndex ≡ ended (accepted (index_from w below n e area)) (elements_end w area 0 e)
  unfolding Index.index_from accepted Elements.ended
  index_none z h = rw (z, ne_eqb e 0 h)

-- and with some blocks
pub index_some : (w : ℕ) (below : HeadwordOrder) (area : List ℕ) (n e : ℕ) → (n ≡ 0 → ⊥) → (r : Result ℕ Refusal) (k : ℕ) → r ≡ ended (accepted (elements_from w below e [] area)) k
    → r ≡ ended (accepted (index_from w below n e area)) k
unfolding Index.index_from
index_some w below area zero e z r k h = absurd (z refl)
index_some w below area (suc b) e z r k h = h

-- whether a block is marked, with those of runs
covered_mark : (rs : List Run) (D b : ℕ) (ms : List Bool) → All (λ r. r.block + r.size ≤ D) rs → D ≤ length ms → b < length ms → get_or (covered rs ms) b false
    ≡ (get_or ms b false || any (covers b) rs)
unfolding Tally.covered Lists.any
covered_mark [] D b ms p l q = or_false (get_or ms b false)
covered_mark (r ∷ rs) D b ms (p, ps) l q =
    covered_mark rs D b (with_range r.block r.size true ms) ps (rw (length_range r.block r.size true ms (omega arith)) l) (rw (length_range r.block r.size true ms (omega arith)) q)
    ∙ ap (λ (t : Bool). t || any (covers b) rs) here ∙ or_assoc (get_or ms b false) (covers b r) (any (covers b) rs)
  where
    outside : (b < r.block) ⊎ (r.block + r.size ≤ b) → get_or (with_range r.block r.size true ms) b false ≡ get_or ms b false
    outside (inl k) = get_range_below r.block r.size b true false ms (omega arith) k
    outside (inr k) = get_range_above r.block r.size b true false ms (omega arith) k

    apart : (b < r.block) ⊎ (r.block + r.size ≤ b) → get_or (with_range r.block r.size true ms) b false ≡ (get_or ms b false || covers b r)
    apart k = outside k ∙ rw (covers_outside r b k) (or_false (get_or ms b false))

    low : (b < r.block) ⊎ (r.block ≤ b) → (b < r.block + r.size) ⊎ (r.block + r.size ≤ b) → get_or (with_range r.block r.size true ms) b false ≡ (get_or ms b false || covers b r)
    low (inl k) h = apart (inl k)
    low (inr k) (inr h) = apart (inr h)
    low (inr k) (inl h) = get_range_in r.block r.size b true false ms (omega arith) k h ∙ rw (covers_inside r b k h) (sym (or-true (get_or ms b false)))

    here : get_or (with_range r.block r.size true ms) b false ≡ (get_or ms b false || covers b r)
    here = low (less_or b r.block) (less_or b (r.block + r.size))

covered_length : (rs : List Run) (D : ℕ) (ms : List Bool) → All (λ r. r.block + r.size ≤ D) rs → D ≤ length ms → length (covered rs ms) ≡ length ms
unfolding Tally.covered
covered_length [] D ms p l = refl
covered_length (r ∷ rs) D ms (p, ps) l =
    let k : length (with_range r.block r.size true ms) ≡ length ms = length_range r.block r.size true ms (omega arith) in
    covered_length rs D (with_range r.block r.size true ms) ps (rw k l) ∙ k

-- an image of which all runs are read: what is left to test
module _ (s : List ℕ) (v : Overview) (blocks : ℕ) (ms : List Bool) (known : RunsRead s v blocks ms) where
  abbrev area : List ℕ
  area = data_part v.form s v.n

  list : Outcome (List ℕ)
  list = free_list_from v.d v.d (get (layout_named s).empty_block2 s) area

  rest : (List ℕ → Outcome Image)
  rest fl = do
    refuse 9 when not (each_once v.d known.runs fl)
    refuse 10 when not (counts_ok (layout_named s) s known.runs)
    ok (record { frame = frame_by (layout_named s) v.form v.n v.d; runs = known.runs; free_list = fl })

  left_over : image_from s ≡ list >>= rest
  unfolding Check.image_by list rest
  left_over =
      let frame = frame_by_form s v.form v.n v.d known.frame in
      image_by_form s v.form v.n v.d known.frame ∙ rw (frame, known.index, data_slice (layout_named s) v.form s v.n v.d, known.read)

  inside : All (λ r. r.block + r.size ≤ v.d) known.runs
  inside = runs_inside (below_of v.form.order) v.d area known.elements known.runs known.read

  -- row 9, where no list that is read covers the blocks
  nine : ((fl : List ℕ) → list ≡ ok fl → each_once v.d known.runs fl ≡ false) → image_from s ≡ refused (number_of Refusal.BadBlocks)
  unfolding list rest number_of
  nine h = left_over ∙ go list refl
    where
      go : (o : Outcome (List ℕ)) → list ≡ o → o >>= rest ≡ refused 9
      go (refused k) e = ap refused (free_list_nine v.d v.d (get (layout_named s).empty_block2 s) area k e)
      go (ok fl) e = rw (h fl e)

  -- the blocks of a list that covers all blocks together with the runs
  many : (fl : List ℕ) → list ≡ ok fl → each_once v.d known.runs fl ≡ true → blocks + length fl ≡ v.d
  unfolding list
  many fl e once = rw known.blocks_are (blocks_once v.d known.runs fl once inside (free_list_below v.d v.d (get (layout_named s).empty_block2 s) area fl e))

  not_once : (fl : List ℕ) → (each_once v.d known.runs fl ≡ true → ⊥) → each_once v.d known.runs fl ≡ false
  not_once fl h = go (each_once v.d known.runs fl) refl
    where
      go : (t : Bool) → each_once v.d known.runs fl ≡ t → each_once v.d known.runs fl ≡ false
      go false e = e
      go true e = absurd (h e)

  -- the list of the blocks that are told
  list_told : (first : ℕ) → first ≡ get (layout_named s).empty_block2 s → (D : ℕ) → D ≡ v.d → (a : List ℕ) → a ≡ area → free_list_from D D first a ≡ list
  unfolding list
  list_told first f D all a part = rw (f, all, part)

  -- more blocks in runs than there are
  pub settle_many : v.d < blocks → image_from s ≡ refused (number_of Refusal.BadBlocks)
  settle_many p = nine (λ fl e. not_once fl (λ o. let z : blocks + length fl ≡ v.d = many fl e o in omega arith))

  -- a free list of another length
  pub settle_length : blocks ≤ v.d → (first : ℕ) → first ≡ get (layout_named s).empty_block2 s → (D : ℕ) → D ≡ v.d → (a : List ℕ) → a ≡ area
      → (t : Bool) → t ≡ has_length (v.d - blocks) (free_list_from D D first a) → not t ≡ true → image_from s ≡ refused (number_of Refusal.BadBlocks)
  settle_length p first f D all a part t h q =
      nine
      (λ fl e.
      not_once fl (λ o.
      let z : blocks + length fl ≡ v.d = many fl e o in
      let y : length fl ≡ v.d - blocks = omega arith in
      has_length_not (v.d - blocks) fl (ap (has_length (v.d - blocks)) (sym e ∙ sym (list_told first f D all a part)) ∙ sym h ∙ not-true t q) y))

  module _ (p : blocks ≤ v.d) (first : ℕ) (f : first ≡ get (layout_named s).empty_block2 s) (D : ℕ) (all : D ≡ v.d) (a : List ℕ) (part : a ≡ area) (t : Bool)
      (h : t ≡ has_length (v.d - blocks) (free_list_from D D first a))
      (q : not t ≡ false) where
    got : Read (v.d - blocks) (free_list_from D D first a)
    got = has_length_read (v.d - blocks) (free_list_from D D first a) (sym h ∙ not-false t q)

    found : list ≡ ok got.numbers
    found = sym (list_told first f D all a part) ∙ got.read

    only : (fl : List ℕ) → list ≡ ok fl → fl ≡ got.numbers
    only fl e = same_value fl got.numbers (sym e ∙ found)

    low : All (λ a. a < v.d) got.numbers
    unfolding list
    low = free_list_below v.d v.d (get (layout_named s).empty_block2 s) area got.numbers found

    module _ (us : List Bool) (used : (t ≡ true → Marked (free_list_from D D first a) ms us)) (u : ℕ) (size : length ms ≡ 64 * u) (few : v.d ≤ 64 * u) where
      room : v.d ≤ length ms
      room = rw size few

      marks_now : us ≡ with_marks got.numbers ms
      marks_now = used (not-false t q) got.numbers got.read

      -- which blocks are marked
      block_mark : (b : ℕ) → b < v.d → get_or us b false ≡ (any (covers b) known.runs || any (eqb b) got.numbers)
      block_mark b l =
          let w : get_or ms b false ≡ any (covers b) known.runs =
          ap (λ (x : List Bool). get_or x b false) known.marked
          ∙ covered_mark known.runs v.d b (replicate (length ms) false) inside (rw length-replicate room) (rw length-replicate (omega arith))
          ∙ rw (get_or-replicate (length ms) b false false (omega arith)) in
          rw marks_now (get_with_marks got.numbers ms b (omega arith) ∙ rw w)

      module _ (r : ℕ) (at : r ≡ next false (take v.d us) 0) where
        long : length (take v.d us) ≡ v.d
        long = length-take-le v.d us (rw (marks_now, length_with_marks) room)

        -- a block in no run and not on the list
        pub settle_gap : r < v.d → image_from s ≡ refused (number_of Refusal.BadBlocks)
        settle_gap l =
            nine
            (λ fl e.
            not_once fl (λ o.
            let x : get_or us r false ≡ false = sym (get_or-take v.d us r false l) ∙ rw at (next_is false false (take v.d us) 0 (rw (long, ← at) l)) in
            let y : (any (covers r) known.runs || any (eqb r) got.numbers) ≡ true = rw (← only fl e) (once_covered v.d known.runs fl o r l) in
            true≢false (sym y ∙ sym (block_mark r l) ∙ x)))

        module _ (l : v.d ≤ r) where
          once : each_once v.d known.runs got.numbers ≡ true
          once =
              once_by_cover v.d known.runs got.numbers inside low (rw (← known.blocks_are, got.many) (omega arith))
              (λ b m. sym (block_mark b m) ∙ sym (get_or-take v.d us b false m) ∙ next_before false false (take v.d us) 0 b (omega arith) (rw (← at) (omega arith)))

          counted : image_from s ≡ (refuse 10 when not (counts_ok (layout_named s) s known.runs) >> ok
              (record { frame = frame_by (layout_named s) v.form v.n v.d; runs = known.runs; free_list = got.numbers }))
          unfolding rest
          counted = left_over ∙ rw (found, once)

          module _ (w : ℕ) (nwords : w ≡ get (layout_named s).nword s) where
            -- row 10: nword
            pub settle_words : (w ≡ v.words → ⊥) → image_from s ≡ refused (number_of Refusal.BadCounts)
            unfolding Check.counts_ok number_of
            settle_words z =
                let x : eqb (get (layout_named s).nword s) (length (all_entries known.runs)) ≡ false = ne_eqb _ _ (λ y. z (nwords ∙ y ∙ sym known.words_are)) in
                rw (counted, x)

            module _ (same : w ≡ v.words) (g : ℕ) (nblocks : g ≡ get (layout_named s).nblock2 s) where
              words_right : eqb (get (layout_named s).nword s) (length (all_entries known.runs)) ≡ true
              words_right = eq-eqb _ _ (sym nwords ∙ same ∙ known.words_are)

              -- row 10: nblock2
              pub settle_blocks : (g ≡ blocks → ⊥) → image_from s ≡ refused (number_of Refusal.BadCounts)
              unfolding Check.counts_ok number_of
              settle_blocks z =
                  let x : eqb (get (layout_named s).nblock2 s) (run_blocks known.runs) ≡ false = ne_eqb _ _ (λ y. z (nblocks ∙ y ∙ sym known.blocks_are)) in
                  rw (counted, words_right, x)

              -- an image that keeps all rows
              pub settle_sound : g ≡ blocks → (k : ℕ) (fs ms' : List Bool) → fs ≡ replicate k false → v.d ≤ k
                  → (t ≡ true → Marked (free_list_from D D first a) fs ms') → Told s ms' (Ok v)
              unfolding Check.counts_ok Check.entries_of
              settle_sound y k fs ms' bare fits free =
                  let x : eqb (get (layout_named s).nblock2 s) (run_blocks known.runs) ≡ true = eq-eqb _ _ (sym nblocks ∙ y ∙ known.blocks_are) in
                  let m : ms' ≡ with_marks got.numbers fs = free (not-false t q) got.numbers got.read in
                  let l : length ms' ≡ k = ap length m ∙ length_with_marks got.numbers fs ∙ ap length bare ∙ length-replicate k false in
                  let z : ms' ≡ free_marks v.d got.numbers ++ replicate (k - v.d) false = m ∙ rw bare (with_no_marks v.d k got.numbers low fits) in
                  let image : Image = record { frame = frame_by (layout_named s) v.form v.n v.d; runs = known.runs; free_list = got.numbers } in
                  let is : image_from s ≡ ok image = rw (counted, words_right, x) in (
                    record { image = image; is = is; frame_is = refl; good = known.good; words_are = known.words_are; end_is = known.end_is },
                    λ i o. subst (λ (j : Image). ms' ≡ free_marks j.frame.data_blocks j.free_list ++ replicate (length ms' - j.frame.data_blocks) false)
                        (same_value image i (sym is ∙ o)) (rw l z),
                  )

-- runs that are refused
tally_refused : (ms : List Bool) (o : Outcome (List Run)) (j : ℕ) → tally 0 0 ms o ≡ refused j → o ≡ refused j
unfolding Tally.tally
tally_refused ms (refused i) j h =
    let k : i ≡ j = cc in
    rw k
tally_refused ms (ok rs) j h = absurd (ok_not_refused _ j h)

-- runs that are read and counted
tally_read : (ms : List Bool) (o : Outcome (List Run)) (w b : ℕ) (us : List Bool) → tally 0 0 ms o ≡ ok (record { words = w; blocks = b; marked = us })
    → (rs : List Run) × (o ≡ ok rs) × (w ≡ length (all_entries rs)) × (b ≡ run_blocks rs) × (us ≡ covered rs ms)
unfolding Tally.tally
tally_read ms (refused i) w b us h = absurd (ok_not_refused _ i (sym h))
tally_read ms (ok rs) w b us h =
    let e = same_value _ _ h in (
      rs,
      refl,
      sym (ap (λ (x : TallyRecord). x.words) e) ∙ zero-add (length (all_entries rs)),
      sym (ap (λ (x : TallyRecord). x.blocks) e) ∙ zero-add (run_blocks rs),
      sym (ap (λ (x : TallyRecord). x.marked) e),
    )

-- how long they are
module _ (s : List ℕ) (f : Form) (n d : ℕ) (whole : block_position f.extended n d ≡ length s) (start : ℕ) (here : start ≡ area_start f n) where
  pub index_few : n ≤ 32_767 → length (index_cut f s start) ≤ 8_388_608
  index_few p = rw (length-take, length-drop) (omega (arith, min-le_left (start - index_start f) (length s - index_start f)))

  pub data_long : 256 * d ≡ length (data_cut s start)
  data_long = sym (length-take-le (length s - start) (drop start s) (rw length-drop (omega arith)) ∙ omega arith)

-- the elements of an index that keeps row 6 stand inside it
pub index_told : (w : ℕ) → 1 ≤ w → (below : HeadwordOrder) (area : List ℕ) (n e : ℕ) (es : List Element) → index_from w below n e area ≡ ok es
    → (es ≡ elements_at w area 0 e) × Inside w area 0 e
unfolding Index.index_from Elements.elements_at
index_told w wide below area zero e es h =
    let (p, q) = when_ok 6 (not (eqb e 0)) (ok []) es h in
    let z : e ≡ 0 = eqb-true e 0 (not-false (eqb e 0) p) in
    rw z (sym (same_value [] es q), omega arith)
index_told w wide below area (suc b) e es h = elements_found w wide below area e es h

-- the bounds of a frame that is read, by the answer
module _ (s : List ℕ) (r : Result FrameFound Refusal) (e : framed (layout_named s) r ≡ frame_from (format_of s) s) (f : FrameFound) (h : r ≡ Ok f) where
  pub areas_index_few : f.index ≤ 32_767
  areas_index_few = frame_index_few s f.form f.index f.«data» (frame_read s r e f h)

  pub areas_data_few : f.«data» ≤ most_of f.form.width
  areas_data_few = frame_data_few s f.form f.index f.«data» (frame_read s r e f h)

  -- so a table of 1,024 words has a mark for each
  pub areas_fit : (u : ℕ) → 1_024 ≤ u → f.«data» ≤ 64 * u
  areas_fit u p = omega (arith, areas_data_few)

  pub areas_good : FormTold r → GoodForm f.form
  areas_good told = told f h

  pub areas_whole : FormTold r → length s % 256 ≡ 0 → block_position f.form.extended f.index f.«data» ≡ length s
  areas_whole told w = frame_length_is s f.form f.index f.«data» (frame_read s r e f h) w (told f h).3

-- a frame that is refused
pub areas_frame : (s : List ℕ) (r : Result FrameFound Refusal) → framed (layout_named s) r ≡ frame_from (format_of s) s → (j : Refusal) → r ≡ Err j → image_from s ≡ refused (number_of j)
unfolding Check.image_from Check.image_by
areas_frame s r e j h = rw (frame_refused s r e j h)

module _ (s : List ℕ) (f : Form) (n d : ℕ) (frame : frame_from (format_of s) s ≡ ok (frame_by (layout_named s) f n d)) (good : GoodForm f)
    (start : ℕ) (here : start ≡ area_start f n) (e : ℕ) (elements : e ≡ get (layout_named s).nindex2 s) (b : Result ℕ Refusal)
    (kept : b ≡ ended (accepted (index_from f.width (below_of f.order) n e (index_cut f s start))) (elements_end f.width (index_cut f s start) 0 e)) where
  abbrev index : Outcome (List Element)
  index = index_from f.width (below_of f.order) n e (index_cut f s start)

  -- its blocks numbers have some bytes
  wide : 1 ≤ f.width
  wide = omega (arith, good.0.0)

  -- row 6
  pub areas_index : (j : Refusal) → b ≡ Err j → image_from s ≡ refused (number_of j)
  unfolding Check.image_by number_of
  areas_index j q =
      let (y, row) = ended_broken _ _ b kept j q in
      let x : index_from f.width (below_of f.order) n (get (layout_named s).nindex2 s) (index_area (frame_by (layout_named s) f n d) s) ≡ refused 6
      = rw (index_slice (layout_named s) f s n d, ← here, ← elements) (index_refused f.width (below_of f.order) n e (index_cut f s start) y) in
      image_by_form s f n d frame ∙ rw (frame_by_form s f n d frame, x, row)

  module _ (end : ℕ) (q : b ≡ Ok end) where
    answered : Answer index
    answered = accepted_answer index (ended_at _ _ b kept end q).0

    stands : (answered.value ≡ elements_at f.width (index_cut f s start) 0 e) × Inside f.width (index_cut f s start) 0 e
    stands = index_told f.width wide (below_of f.order) (index_cut f s start) n e answered.value answered.is

    -- the elements stand inside the index
    pub areas_inside : Inside f.width (index_cut f s start) 0 e
    areas_inside = stands.1

    index_is : index_from f.width (below_of f.order) n (get (layout_named s).nindex2 s) (index_area (frame_by (layout_named s) f n d) s)
        ≡ ok (elements_at f.width (index_cut f s start) 0 e)
    index_is = rw (index_slice (layout_named s) f s n d, ← here, ← elements) (answered.is ∙ ap ok stands.0)

    -- the runs that its elements name
    abbrev runs : Outcome (List Run)
    runs = runs_from (below_of f.order) d (data_cut s start) (elements_at f.width (index_cut f s start) 0 e)

    module _ (es : List Element) (all : es ≡ elements_at f.width (index_cut f s start) 0 e) (D : ℕ) (many : D ≡ d) (a : List ℕ) (part : a ≡ data_cut s start)
        (r : Result RunCounts Refusal) (us ms₀ : List Bool) (m : ℕ) (told : runs_answer r us ≡ tally 0 0 ms₀ (runs_from (below_of f.order) D a es)) where
      tallied : runs_answer r us ≡ tally 0 0 ms₀ runs
      tallied = rw (all, many, part) at told

      -- rows 7 and 8
      pub areas_runs : (j : Refusal) → r ≡ Err j → image_from s ≡ refused (number_of j)
      unfolding Check.image_by Tally.runs_answer
      areas_runs j h =
          let x : runs_from (below_of f.order) d (data_area (frame_by (layout_named s) f n d) s) (elements_at f.width (index_cut f s start) 0 e) ≡ refused (number_of j)
          = rw (data_slice (layout_named s) f s n d, ← here) (tally_refused ms₀ runs (number_of j) (sym tallied ∙ ap (λ (y : Result RunCounts Refusal). runs_answer y us) h)) in
          image_by_form s f n d frame ∙ rw (frame_by_form s f n d frame, index_is, x)

      -- all runs are read
      pub areas_read : ms₀ ≡ replicate m false → d ≤ m → (counts : RunCounts) → r ≡ Ok counts
          → RunsRead s (record { form = f; n = n; d = d; words = counts.words; end = end }) counts.blocks us
      unfolding Tally.runs_answer
      areas_read bare room counts h =
          let (rs, x, y, z, w) = tally_read ms₀ runs counts.words counts.blocks us (sym tallied ∙ ap (λ (y : Result RunCounts Refusal). runs_answer y us) h) in
          let g : us ≡ covered rs (replicate m false) = rw (← bare) w in
          let l : length us ≡ m = ap length g ∙ covered_length rs d (replicate m false)
          (runs_inside (below_of f.order) d (data_cut s start) (elements_at f.width (index_cut f s start) 0 e) rs x) (rw length-replicate room) ∙ length-replicate m false in
          record {
            frame = frame;
            good = good;
            elements = elements_at f.width (index_cut f s start) 0 e;
            index = index_is;
            end_is = (ended_at _ _ b kept end q).1 ∙ rw (here, elements);
            runs = rs;
            read = rw (← here) x;
            words_are = y;
            blocks_are = z;
            marked = rw l g;
          }

-- what the answer tells of the image, for the crates above
module _ (s : List ℕ) (ms : List Bool) (r : Result Overview Refusal) (told : Told s ms r) where
  -- it is refused
  pub is_refused : (k : Refusal) → r ≡ Err k → image_from s ≡ refused (number_of k)
  is_refused k h = subst (Told s ms) h told

  module _ (v : Overview) (h : r ≡ Ok v) where
    -- it is accepted
    pub is_accepted : AcceptedImage s v
    is_accepted = (subst (Told s ms) h told).0

    -- and its free blocks are marked
    pub is_marked : FreeMarked s ms
    is_marked = (subst (Told s ms) h told).1

-- the four numbers of such an image
pub sound_figures : (s : List ℕ) (ms : List Bool) (v : Overview) (a : AcceptedImage s v) → FreeMarked s ms → (c : ℕ) → c ≡ count_marks ms
    → figures a.image ≡ record { headwords = v.words; index_blocks = v.n; data_blocks = v.d; free_blocks = c }
unfolding Calls.figures
sound_figures s ms v a free c e =
    let i : Image = a.image in
    let n : v.n ≡ i.frame.index_blocks = ap (λ (f : Frame). f.index_blocks) (sym a.frame_is) in
    let d : v.d ≡ i.frame.data_blocks = ap (λ (f : Frame). f.data_blocks) (sym a.frame_is) in
    let k : c ≡ count_marks (free_marks i.frame.data_blocks i.free_list)
    = e ∙ ap count_marks (free i a.is) ∙ count_behind (free_marks i.frame.data_blocks i.free_list) (length ms - i.frame.data_blocks) in
    rw (a.words_are, n, d, k)
