-- An accepted image packed is the specification's: what it tells of its parts, and what the stores make of the slice.
use Prim.Native.Nat.{ℕ, zero, suc, ◌+◌, ◌-◌, ◌*◌, ◌%◌, ◌<◌, ◌≤◌}
use mathlib.Core.Path.{◌≡◌, refl, sym, ap, ap₂, subst, ◌∙◌}
use mathlib.Core.List.{List, [], ◌∷◌, ◌++◌, map, append_assoc}
use native.Mathlib.Omega.{arith}
use lib.ListN.{length, get_or, take, drop, length-drop, length-map}
use lib.Seq.{take-length, take-take, drop-drop}
use lib.Dec.{eqb}
use borrow.Author.Tests.{le-ltb, eqb-true, eq-eqb}
use Rattle.spec.specs.Order.{below_of}
use Rattle.spec.specs.Outcome.{ok}
use Rattle.spec.specs.Bytes.{write, zeros, blocks_for}
use Rattle.spec.specs.Header.{Layout, Format, Lawful, Counts, get, changed_header, header_bytes, block_position}
use Rattle.spec.proofs.HeaderLaws.{lawful_format}
use Rattle.spec.specs.Run.{Run}
use Rattle.spec.specs.Index as IndexSpec
use Rattle.spec.specs.Index.{Element, elements_bytes, index_need, index_bytes}
use Rattle.spec.specs.Blocks as BlocksSpec
use Rattle.spec.specs.Blocks.{run_blocks, free_blocks, free_list_written}
use Rattle.spec.specs.Check as CheckSpec
use Rattle.spec.specs.Check.{Image, runs_from, image_from, all_entries}
use Rattle.spec.specs.Place as PlaceSpec
use Rattle.spec.specs.Place.{Plan, element_of, packed, runs_written, plan_packed, plan_counts, plan_written}
use Rattle.spec.specs.Calls as CallsSpec
use Rattle.spec.specs.Calls.{plan_length, given_up_zeroed}
use Rattle.spec.specs.Claim as ClaimSpec
use Rattle.spec.specs.Claim.{optimise_placing}
use Rattle.spec.specs.PackedForm as PackedForm
use Rattle.spec.specs.PackedForm.{NeedsNoMore}
use Rattle.spec.proofs.ListsLaws.{and_right}
use Rattle.spec.proofs.OutcomeLaws.{same_value}
use Rattle.spec.proofs.BytesLaws.{all_bytes}
use Rattle.spec.proofs.WriteLaws.{take_write, drop_write, length_write, write_behind}
use Rattle.spec.proofs.IndexLaws.{index_bytes_length, need_room}
use Rattle.spec.proofs.ReadLaws.{frame_fits, runs_elements}
use Rattle.spec.proofs.PlaceLaws.{packed_entries}
use Rattle.spec.proofs.MoveFormLaws.{packed_as_worded}
use Rattle.spec.proofs.PackedLaws.{packed_needs_no_more}
use Rattle.index.specs.Elements as Elements
use Rattle.index.specs.Elements.{elements_at, elements_end, Inside}
use Rattle.index.proofs.Laws.{elements_count, ends_inside}
use Rattle.elements.proofs.Laws.{elements_length}
use Rattle.header.specs.Form.{layout_named, format_by, index_start, area_start, index_cut, data_cut}
use Rattle.header.proofs.Laws.{header_front, layout_kept}
use Rattle.inspect.specs.Overview.{AcceptedImage}
use Rattle.inspect.specs.declared.Overview.{Overview}
use Rattle.inspect.proofs.Laws.{index_few}
use Rattle.inspect.proofs.Accepted.{accepted_format, image_format, accepted_n, accepted_d, accepted_told, accepted_whole, accepted_area, accepted_inside, accepted_runs}
use Rattle.pack.specs.Packing as Packing
use Rattle.pack.specs.Packing.{blocks_needed, runs_bytes, packed_elements, runs_packed, RunsFit}
use Rattle.pack.proofs.Laws.{Whole, packed_same, runs_bytes_length, packed_written, runs_whole}

-- the blocks that the code finds needed are those of the specification
needed_is : (width : ℕ) (index : List ℕ) (elements m : ℕ) → Inside width index 0 elements → m ≡ blocks_needed elements (elements_end width index 0 elements)
    → m ≡ index_need width (elements_at width index 0 elements)
unfolding Packing.blocks_needed IndexSpec.index_need Elements.elements_at
needed_is width index zero m i e = e
needed_is width index (suc elements) m i e =
    let l : elements_end width index 0 (suc elements) ≡ length (elements_bytes width (elements_at width index 0 (suc elements))) = elements_length width index 0 (suc elements) i ∙ omega arith in
    e ∙ ap (λ (k : ℕ). blocks_for (k + 4)) l

-- ---- what an accepted image tells, as the code cuts it
module _ (s : List ℕ) (v : Overview) (a : AcceptedImage s v) (in_blocks : length s % 256 ≡ 0) where
  -- its format
  abbrev format_here : Format
  format_here = format_by (layout_named s) v.form

  -- the image is the one that is read
  pub the_image : (i : Image) → image_from s ≡ ok i → a.image ≡ i
  the_image i h = same_value a.image i (sym a.is ∙ h)

  -- the format is a lawful one
  format_lawful : Lawful format_here
  format_lawful = subst Lawful (accepted_format s v a) (lawful_format s)

  -- all its bytes are header, index and data blocks
  pub old_whole : block_position v.form.extended v.n v.d ≡ length s
  old_whole = accepted_whole s v a in_blocks

  -- packed, it needs no more than there is
  no_more : ((k : ℕ) → get_or s k 0 < 256) → NeedsNoMore (length s) a.image (optimise_placing a.image)
  unfolding PackedForm.PackedNeedsNoMore CheckSpec.image_in CheckSpec.slice_ok
  no_more bytes =
      packed_needs_no_more s (length s) a.image (all_bytes s bytes)
      (rw (le-ltb (length s) 256 (omega (arith, old_whole)), eq-eqb (length s % 256) 0 in_blocks, le-ltb (length s) (length s) (omega arith), take-length s, a.is))

  -- its runs have no more blocks than there are
  blocks_few : ((k : ℕ) → get_or s k 0 < 256) → run_blocks a.image.runs ≤ v.d
  unfolding ClaimSpec.optimise_placing PlaceSpec.plan_packed
  blocks_few bytes = omega (arith, accepted_d s v a, (no_more bytes).no_more_data_blocks)

  -- they are as many as nblock2 says
  pub blocks_counted : (g : ℕ) → g ≡ get (layout_named s).nblock2 s → g ≡ run_blocks a.image.runs
  unfolding CheckSpec.counts_ok
  blocks_counted g e =
      let o : Layout = layout_named s in
      let rs : List Run = a.image.runs in
      let k = and_right (eqb (get o.nword s) (length (all_entries rs))) (eqb (get o.nblock2 s) (run_blocks rs)) (accepted_told s v a).counts in
      e ∙ eqb-true (get o.nblock2 s) (run_blocks rs) k

  -- which is no more than there are
  pub blocks_fewer : ((k : ℕ) → get_or s k 0 < 256) → (g : ℕ) → g ≡ get (layout_named s).nblock2 s → g ≤ v.d
  blocks_fewer bytes g e = omega (arith, blocks_counted g e, blocks_few bytes)

  -- the elements end before the limit
  pub end_short : v.end ≤ 8_388_608
  end_short =
      let few : v.n ≤ 32_767 = omega (arith, accepted_n s v a, (frame_fits format_here s a.image.frame (accepted_told s v a).frame).index_few) in
      let e : ℕ = get (layout_named s).nindex2 s in
      let start : ℕ = area_start v.form v.n in
      omega (
        arith,
        a.end_is,
        index_few s v.form v.n v.d old_whole start refl few,
        ends_inside v.form.width (index_cut v.form s start) 0 e (accepted_inside s v a start refl e refl),
      )

  -- its data blocks begin at `start`, and it has so many elements
  module _ (start : ℕ) (here : start ≡ area_start v.form v.n) (e : ℕ) (number : e ≡ get (layout_named s).nindex2 s) where
    -- its index and its data area
    abbrev old_index : List ℕ
    old_index = index_cut v.form s start

    abbrev old_area : List ℕ
    old_area = data_cut s start

    -- its elements
    abbrev old_elements : List Element
    old_elements = elements_at v.form.width old_index 0 e

    -- are those of the runs
    elements_are : map element_of a.image.runs ≡ old_elements
    elements_are = runs_elements (below_of v.form.order) v.d old_area old_elements a.image.runs (accepted_runs s v a start here e number)

    -- which have the bytes of their blocks
    runs_sized : Whole a.image.runs
    runs_sized = runs_whole v.form.order v.d old_area old_elements a.image.runs (omega (arith, accepted_area s v a start here in_blocks)) (accepted_runs s v a start here e number)

    module _ (m : ℕ) (needed : m ≡ blocks_needed e v.end) where
      -- the blocks found needed are the specification's
      need_is : m ≡ index_need v.form.width old_elements
      need_is = needed_is v.form.width old_index e m (accepted_inside s v a start here e number) (needed ∙ rw (a.end_is, number, here))

      -- the new index is no longer than the old one
      pub index_fewer : ((k : ℕ) → get_or s k 0 < 256) → m ≤ v.n
      unfolding ClaimSpec.optimise_placing PlaceSpec.plan_packed
      index_fewer bytes =
          let same : index_need a.image.frame.format.number_width (map element_of a.image.runs) ≡ index_need v.form.width old_elements
          = ap₂ index_need (ap (λ (F : Format). F.number_width) (image_format s v a)) elements_are in
          omega (arith, need_is, same, accepted_n s v a, (no_more bytes).no_longer_index)

      -- and holds the elements
      pub index_holds : index_start v.form + length (elements_bytes v.form.width old_elements) ≤ area_start v.form m
      index_holds = omega (arith, need_room v.form.width old_elements m (omega (arith, need_is)))

    -- runs fit behind an index that has room for their elements, where there is room for their blocks
    pub runs_fit : (m long : ℕ) → index_start v.form + length (elements_bytes v.form.width old_elements) ≤ area_start v.form m
        → block_position v.form.extended m (run_blocks a.image.runs) ≤ long
        → RunsFit v.form.width v.form.order v.form.extended old_elements old_area v.d (index_start v.form) m long
    runs_fit m long p q = record { runs = a.image.runs; read = accepted_runs s v a start here e number; index_room = p; area_room = q }

-- ---- the slice
-- packed runs are as many
packed_count : (b : ℕ) (rs : List Run) → length (packed b rs) ≡ length rs
unfolding PlaceSpec.packed
packed_count b [] = refl
packed_count b (r ∷ rs) = ap suc (packed_count (b + r.size) rs)

-- with as many blocks
packed_blocks : (b : ℕ) (rs : List Run) → run_blocks (packed b rs) ≡ run_blocks rs
unfolding PlaceSpec.packed PlaceSpec.at_block BlocksSpec.run_blocks
packed_blocks b [] = refl
packed_blocks b (r ∷ rs) = ap (λ (k : ℕ). r.size + k) (packed_blocks (b + r.size) rs)

-- their index needs as many blocks
packed_need : (width : ℕ) (rs : List Run) → index_need width (map element_of (packed 0 rs)) ≡ index_need width (map element_of rs)
unfolding IndexSpec.index_need Packing.packed_elements PlaceSpec.packed
packed_need width [] = refl
packed_need width (r ∷ rs) = ap (λ (k : ℕ). blocks_for (k + 4)) (packed_same width 0 (r ∷ rs))

-- the counts of the header
packed_counts : (F : Format) (rs : List Run) (m words elements blocks : ℕ) → m ≡ index_need F.number_width (map element_of rs) → words ≡ length (all_entries rs) → elements ≡ length rs
    → blocks ≡ run_blocks rs
    → record { index_blocks = m; entries = words; first_free = 4294967295; elements = elements; run_blocks = blocks } ≡ plan_counts (plan_packed F rs)
unfolding PlaceSpec.plan_counts PlaceSpec.plan_packed BlocksSpec.free_list_start BlocksSpec.free_list_end
packed_counts F rs m words elements blocks e₁ e₂ e₃ e₄ = rw (packed_as_worded.no_free_block F rs, packed_count 0 rs, packed_blocks 0 rs, packed_entries 0 rs, e₁, e₂, e₃, e₄)

-- a slice, and runs that fit in it behind an index of m blocks, by a lawful format
module _ (F : Format) (lawful : Lawful F) (rs : List Run) (m : ℕ) (need : m ≡ index_need F.number_width (map element_of rs)) (sized : Whole rs) (s : List ℕ)
    (fits : block_position F.extended m (run_blocks rs) ≤ length s) where
  -- the width of block numbers, and where the index and the runs start
  abbrev width : ℕ
  width = F.number_width

  abbrev front : ℕ
  front = header_bytes F

  abbrev base : ℕ
  base = block_position F.extended m 0

  -- what stands behind them
  abbrev rest : List ℕ
  rest = drop (base + length (runs_bytes rs)) s

  -- the new index
  abbrev index : List ℕ
  index = index_bytes width m (map element_of (packed 0 rs))

  -- the slice with the runs, then with the index too
  abbrev with_runs : List ℕ
  with_runs = write base (runs_bytes rs) s

  abbrev with_index : List ℕ
  with_index = write front index with_runs

  -- the lengths of the runs,
  bytes_long : length (runs_bytes rs) ≡ 256 * run_blocks rs
  bytes_long = runs_bytes_length rs sized

  -- of the index,
  index_long : length index ≡ 256 * m
  index_long = index_bytes_length width (map element_of (packed 0 rs)) m (omega (arith, packed_need width rs))

  -- of the elements,
  elements_short : length (packed_elements width 0 rs) ≤ 256 * m
  elements_short = omega (arith, packed_same width 0 rs, need_room width (map element_of rs) m (omega arith))

  -- and of the slice with the runs
  area_written : length with_runs ≡ length s
  area_written = length_write base (runs_bytes rs) s (omega (arith, bytes_long))

  -- the elements, and zeros up to the area's end, are the index
  index_written : (out : ℕ) → out ≡ front + length (packed_elements width 0 rs) → write out (zeros (base - out)) (runs_packed width front base rs s) ≡ with_index
  unfolding Packing.runs_packed Packing.packed_elements IndexSpec.index_bytes
  index_written out e =
      let k : base - out ≡ 256 * m - length (packed_elements width 0 rs) = omega arith in
      rw (k, e) (write_behind with_runs (packed_elements width 0 rs) (zeros (256 * m - length (packed_elements width 0 rs))) front (omega (arith, area_written, elements_short)))

  -- what stands in front of the index is as it was
  front_kept : (k : ℕ) → k ≤ front → take k with_index ≡ take k s
  front_kept k h =
      take_write front index with_runs (omega (arith, area_written, index_long)) k h
      ∙ take_write base (runs_bytes rs) s (omega (arith, bytes_long)) k (omega arith)

  -- behind it stand the index, the runs, and what stood there
  back_is : drop front with_index ≡ index ++ (runs_bytes rs ++ rest)
  back_is =
      let k : front + length index ≡ base = omega (arith, index_long) in
      drop_write front index with_runs (omega (arith, area_written, index_long))
      ∙ ap (λ (q : ℕ). index ++ drop q with_runs) k
      ∙ ap (λ (l : List ℕ). index ++ l) (drop_write base (runs_bytes rs) s (omega (arith, bytes_long)))

  -- the runs by the plan
  area_is : free_list_written (free_blocks (packed 0 rs) (run_blocks rs)) (runs_written (packed 0 rs) (drop base s)) ≡ runs_bytes rs ++ rest
  unfolding PlaceSpec.plan_packed BlocksSpec.free_list_written
  area_is =
      let z : free_blocks (packed 0 rs) (run_blocks rs) ≡ [] = packed_as_worded.no_free_block F rs in
      let l : length (drop base s) ≡ length s - base = length-drop base s in
      let k : base + (0 + length (runs_bytes rs)) ≡ base + length (runs_bytes rs) = omega arith in
      ap (λ (bs : List ℕ). free_list_written bs (runs_written (packed 0 rs) (drop base s))) z
      ∙ packed_written 0 rs (drop base s) sized (omega arith)
      ∙ drop_write 0 (runs_bytes rs) (drop base s) (omega (arith, bytes_long))
      ∙ ap (λ (x : List ℕ). runs_bytes rs ++ x) (drop-drop (0 + length (runs_bytes rs)) base s ∙ ap (λ (q : ℕ). drop q s) k)

  -- the plan's slice by its parts
  plan_parts : plan_written (plan_packed F rs) s
      ≡ changed_header F.layout (plan_counts (plan_packed F rs)) (take front s) ++ index
      ++ free_list_written (free_blocks (packed 0 rs) (run_blocks rs)) (runs_written (packed 0 rs) (drop base s))
  unfolding PlaceSpec.plan_written PlaceSpec.plan_packed CheckSpec.data_area CheckSpec.data_start
  plan_parts = rw need

  -- the stores make the plan's slice
  plan_is : (c : Counts) → c ≡ plan_counts (plan_packed F rs) → changed_header F.layout c with_index ≡ plan_written (plan_packed F rs) s
  plan_is c e =
      let o : Layout = F.layout in
      let l : length with_index ≡ length s = length_write front index with_runs (omega (arith, area_written, index_long)) ∙ area_written in
      header_front o lawful.layout_lawful c with_index front (omega arith) (omega arith)
      ∙ ap₂ (λ (x y : List ℕ). changed_header o c x ++ y) (front_kept front (omega arith)) back_is
      ∙ sym (append_assoc (changed_header o c (take front s)) index (runs_bytes rs ++ rest))
      ∙ ap₂ (λ (x : Counts) (y : List ℕ). changed_header o x (take front s) ++ index ++ y) e (sym area_is)
      ∙ sym plan_parts

  -- the plan's length
  length_is : plan_length (plan_packed F rs) ≡ block_position F.extended m (run_blocks rs)
  unfolding CallsSpec.plan_length CheckSpec.frame_length PlaceSpec.plan_packed
  length_is = rw need

-- ---- pack
module _ (s : List ℕ) (v : Overview) (a : AcceptedImage s v) (in_blocks : length s % 256 ≡ 0) (start : ℕ) (here : start ≡ area_start v.form v.n)
    (e : ℕ) (number : e ≡ get (layout_named s).nindex2 s) (blocks : ℕ) (counted : blocks ≡ get (layout_named s).nblock2 s)
    (m : ℕ) (needed : m ≡ blocks_needed e v.end) (bytes : (k : ℕ) → get_or s k 0 < 256) where
  -- the runs, and the format
  abbrev runs : List Run
  runs = a.image.runs

  abbrev format : Format
  format = format_here s v a in_blocks

  -- where the index starts, the new runs start, and the new image ends
  abbrev index_at : ℕ
  index_at = index_start v.form

  abbrev runs_at : ℕ
  runs_at = area_start v.form m

  abbrev new_end : ℕ
  new_end = block_position v.form.extended m blocks

  -- the blocks that their index needs,
  need_of : m ≡ index_need v.form.width (map element_of runs)
  need_of = need_is s v a in_blocks start here e number m needed ∙ ap (index_need v.form.width) (sym (elements_are s v a in_blocks start here e number))

  -- their blocks,
  blocks_of : blocks ≡ run_blocks runs
  blocks_of = blocks_counted s v a in_blocks blocks counted

  -- and how many they are
  elements_of : e ≡ length runs
  elements_of = sym (elements_count v.form.width (index_cut v.form s start) 0 e) ∙ ap length (sym (elements_are s v a in_blocks start here e number)) ∙ length-map runs element_of

  -- the plan of the image that is read
  same_plan : (i : Image) → image_from s ≡ ok i → plan_packed format runs ≡ plan_packed i.frame.format i.runs
  same_plan i h =
      ap (λ (F : Format). plan_packed F a.image.runs) (sym (image_format s v a))
      ∙ ap (λ (j : Image). plan_packed j.frame.format j.runs) (the_image s v a in_blocks i h)

  -- the new length is no longer than the old one
  pub packed_shorter : new_end ≤ length s
  packed_shorter = omega (arith, old_whole s v a in_blocks, blocks_of, blocks_few s v a in_blocks bytes, index_fewer s v a in_blocks start here e number m needed bytes)

  -- and is the plan's
  pub packed_length : (len : ℕ) → len ≡ new_end → (i : Image) → image_from s ≡ ok i → len ≡ plan_length (plan_packed i.frame.format i.runs)
  packed_length len ends i h =
      ends
      ∙ ap (block_position v.form.extended m) blocks_of
      ∙ sym (length_is format (format_lawful s v a in_blocks) runs m need_of (runs_sized s v a in_blocks start here e number) s (omega (arith, packed_shorter, blocks_of)))
      ∙ ap plan_length (same_plan i h)

  -- the stores of packing give the specification's slice
  pub packed_image : (image image₁ image₂ image₃ image₄ : List ℕ) (out base len : ℕ) → base ≡ runs_at → len ≡ new_end → length s ≤ length image → take (length s) image ≡ s
      → ((rs : List Run) → runs_from (below_of v.form.order) v.d (data_cut s start) (elements_at v.form.width (index_cut v.form s start) 0 e) ≡ ok rs
      → image₁ ≡ runs_packed v.form.width index_at runs_at rs image)
      → out ≡ index_at + length (elements_bytes v.form.width (elements_at v.form.width (index_cut v.form s start) 0 e))
      → image₂ ≡ write out (zeros (base - out)) image₁
      → image₃ ≡ changed_header (layout_named image₂) (record { index_blocks = m; entries = v.words; first_free = 4294967295; elements = e; run_blocks = blocks }) image₂
      → image₄ ≡ write len (zeros (length s - len)) image₃
      → (i : Image) → image_from s ≡ ok i
      → image₄ ≡ given_up_zeroed (length s) (plan_packed i.frame.format i.runs) (plan_written (plan_packed i.frame.format i.runs) image)
  unfolding CallsSpec.given_up_zeroed CheckSpec.entries_of
  packed_image image image₁ image₂ image₃ image₄ out base len starts ends long same e₁ e₂ e₃ e₄ e₅ i h =
      let w : ℕ = v.form.width in
      let lawful : Lawful format = format_lawful s v a in_blocks in
      let sized : Whole runs = runs_sized s v a in_blocks start here e number in
      let fits : block_position v.form.extended m (run_blocks runs) ≤ length image = omega (arith, packed_shorter, blocks_of) in
      let o : out ≡ index_at + length (packed_elements w 0 runs) = e₂
      ∙ ap (λ (es : List Element). index_at + length (elements_bytes w es)) (sym (elements_are s v a in_blocks start here e number))
      ∙ ap (λ (k : ℕ). index_at + k) (sym (packed_same w 0 runs)) in
      let x₁ : image₁ ≡ runs_packed w index_at runs_at runs image = e₁ runs (accepted_runs s v a start here e number) in
      let x₂ : image₂ ≡ with_index format lawful runs m need_of sized image fits
      = e₃ ∙ ap₂ (λ (q : ℕ) (z : List ℕ). write out (zeros (q - out)) z) starts x₁ ∙ index_written format lawful runs m need_of sized image fits out o in
      let header : take 256 image₂ ≡ take 256 s
      = ap (take 256) x₂
      ∙ front_kept format lawful runs m need_of sized image fits 256 (omega arith)
      ∙ sym (take-take 256 (length s) image (omega (arith, packed_shorter)))
      ∙ ap (take 256) same in
      let c : Counts = record { index_blocks = m; entries = v.words; first_free = 4294967295; elements = e; run_blocks = blocks } in
      let k : c ≡ plan_counts (plan_packed format runs) = packed_counts format runs m v.words e blocks need_of a.words_are elements_of blocks_of in
      let x₃ : image₃ ≡ plan_written (plan_packed format runs) image = e₄
      ∙ ap₂ (λ (y : Layout) (z : List ℕ). changed_header y c z) (layout_kept image₂ s header) x₂
      ∙ plan_is format lawful runs m need_of sized image fits c k in
      let l : len ≡ plan_length (plan_packed format runs) = packed_length len ends a.image a.is ∙ ap plan_length (sym (same_plan a.image a.is)) in
      e₅
      ∙ ap₂ (λ (q : ℕ) (z : List ℕ). write q (zeros (length s - q)) z) l x₃
      ∙ ap (λ (p : Plan). given_up_zeroed (length s) p (plan_written p image)) (same_plan i h)
