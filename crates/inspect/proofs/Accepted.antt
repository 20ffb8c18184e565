-- What an accepted image tells of its parts, as the code cuts them out.
use Prim.Native.Nat.{ℕ, ◌*◌, ◌%◌, ◌≤◌}
use mathlib.Core.Path.{◌≡◌, sym, ap, ◌∙◌}
use mathlib.Core.Bool.{Bool, false}
use mathlib.Core.List.{List, []}
use mathlib.Core.Option.{Option}
use native.Mathlib.Omega.{arith}
use lib.ListN.{length, take}
use lib.Seq.{length-take-le}
use Rattle.spec.specs.Outcome.{ok}
use Rattle.spec.specs.Order.{HeadwordOrder, below_of}
use Rattle.spec.specs.Header.{format_of, block_position, get}
use Rattle.spec.specs.Entry.{Entry}
use Rattle.spec.specs.Run.{Run}
use Rattle.spec.specs.Index.{Element, index_from}
use Rattle.spec.specs.Check as CheckSpec
use Rattle.spec.specs.Check.{Frame, Image, index_area, data_area, frame_from, runs_from, image_from, all_entries, entries_of}
use Rattle.spec.specs.SortedList.{lookup, successor}
use Rattle.spec.proofs.OutcomeLaws.{same_value}
use Rattle.spec.proofs.OrderLaws.{order_of}
use Rattle.spec.proofs.ReadLaws.{ImageTold, image_told, runs_ascend}
use Rattle.spec.proofs.SearchLaws.{exactly, entries_ascend, lookup_by_successor}
use Rattle.index.specs.Elements.{elements_at, Inside}
use Rattle.header.specs.Form.{layout_named, most_of, format_by, frame_by, area_start, index_cut, data_cut}
use Rattle.header.proofs.Laws.{frame_format, image_by_form, frame_index_few, frame_index_inside, frame_data_few, frame_length_is, index_slice, data_slice}
use Rattle.inspect.specs.Overview.{AcceptedImage}
use Rattle.inspect.specs.declared.Overview.{Overview}
use Rattle.inspect.proofs.Laws.{index_told, data_long}

module _ (s : List ℕ) (v : Overview) (a : AcceptedImage s v) where
  read : frame_from (format_of s) s ≡ ok (frame_by (layout_named s) v.form v.n v.d)
  unfolding CheckSpec.image_from
  read = (image_told (format_of s) s a.image a.is).frame ∙ ap ok a.frame_is

  -- its format is the one of its form, and the image's own
  pub accepted_format : format_of s ≡ format_by (layout_named s) v.form
  accepted_format = frame_format s v.form v.n v.d read

  pub image_format : a.image.frame.format ≡ format_by (layout_named s) v.form
  image_format = ap (λ (g : Frame). g.format) a.frame_is

  -- and its blocks are those of the frame
  pub accepted_n : v.n ≡ a.image.frame.index_blocks
  accepted_n = ap (λ (g : Frame). g.index_blocks) (sym a.frame_is)

  pub accepted_d : v.d ≡ a.image.frame.data_blocks
  accepted_d = ap (λ (g : Frame). g.data_blocks) (sym a.frame_is)

  -- what is read of it by the format of its form
  pub accepted_told : ImageTold (format_by (layout_named s) v.form) s a.image
  accepted_told = image_told (format_by (layout_named s) v.form) s a.image (sym (image_by_form s v.form v.n v.d read) ∙ a.is)

  -- the index lies inside the image
  pub accepted_index : area_start v.form v.n ≤ length s
  accepted_index = frame_index_inside s v.form v.n v.d read

  -- there are no more index blocks and data blocks than row 5 allows
  pub accepted_few : v.n ≤ 32_767
  accepted_few = frame_index_few s v.form v.n v.d read

  pub accepted_blocks : v.d ≤ most_of v.form.width
  accepted_blocks = frame_data_few s v.form v.n v.d read

  -- it ends at the position of block d
  pub accepted_whole : length s % 256 ≡ 0 → block_position v.form.extended v.n v.d ≡ length s
  accepted_whole m = frame_length_is s v.form v.n v.d read m a.good.3

-- an accepted image whose data blocks begin at `start`
module _ (s : List ℕ) (v : Overview) (a : AcceptedImage s v) (start : ℕ) (here : start ≡ area_start v.form v.n) where
  -- its data area is the rest
  pub accepted_area : length s % 256 ≡ 0 → 256 * v.d ≡ length (data_cut s start)
  accepted_area m = data_long s v.form v.n v.d (accepted_whole s v a m) start here

  module _ (e : ℕ) (number : e ≡ get (layout_named s).nindex2 s) where
    stands : ((accepted_told s v a).elements ≡ elements_at v.form.width (index_cut v.form s start) 0 e) × Inside v.form.width (index_cut v.form s start) 0 e
    stands =
        let x : index_area a.image.frame s ≡ index_cut v.form s start
        = ap (λ (g : Frame). index_area g s) a.frame_is ∙ index_slice (layout_named s) v.form s v.n v.d ∙ sym (ap (index_cut v.form s) here) in
        let wide : 1 ≤ v.form.width = omega (arith, a.good.0.0) in
        index_told v.form.width wide (below_of v.form.order) (index_cut v.form s start) a.image.frame.index_blocks e (accepted_told s v a).elements
        (rw number (ap (index_from v.form.width (below_of v.form.order) a.image.frame.index_blocks (get (layout_named s).nindex2 s)) (sym x) ∙ (accepted_told s v a).index))

    -- its elements stand inside the index
    pub accepted_inside : Inside v.form.width (index_cut v.form s start) 0 e
    accepted_inside = stands.1

    -- and their runs are the image's
    pub accepted_runs : runs_from (below_of v.form.order) v.d (data_cut s start) (elements_at v.form.width (index_cut v.form s start) 0 e) ≡ ok a.image.runs
    accepted_runs =
        let p : a.image.frame.data_blocks ≡ v.d = ap (λ (g : Frame). g.data_blocks) a.frame_is in
        let q : data_area a.image.frame s ≡ data_cut s start
        = ap (λ (g : Frame). data_area g s) a.frame_is ∙ data_slice (layout_named s) v.form s v.n v.d ∙ sym (ap (data_cut s) here) in
        rw (← p, ← q, ← stands.0) (accepted_told s v a).runs

    -- as they are those of any image that is read from the bytes
    pub runs_same : (i : Image) → image_from s ≡ ok i → runs_from (below_of v.form.order) v.d (data_cut s start) (elements_at v.form.width (index_cut v.form s start) 0 e) ≡ ok i.runs
    runs_same i o = rw (← same_value a.image i (sym a.is ∙ o)) accepted_runs

-- what is sought in the runs of an image that is read from the bytes, in the code's order
module _ (s : List ℕ) (v : Overview) (a : AcceptedImage s v) (i : Image) (o : image_from s ≡ ok i) where
  -- its order is that of the form
  read_below : i.frame.format.below ≡ below_of v.form.order
  read_below = rw (← same_value a.image i (sym a.is ∙ o)) (ap (λ (g : Frame). g.format.below) a.frame_is)

  module _ (area : List ℕ) (D : ℕ) (es : List Element) (runs : runs_from (below_of v.form.order) D area es ≡ ok i.runs) (x : Option Entry) (above : Bool) (h : List ℕ)
      (sought : (rs : List Run) → runs_from (below_of v.form.order) D area es ≡ ok rs → x ≡ successor (below_of v.form.order) above h (all_entries rs)) where
    -- the entry found is the one of the image
    pub accepted_sought : x ≡ successor i.frame.format.below above h (entries_of i)
    unfolding CheckSpec.entries_of
    accepted_sought = rw read_below (sought i.runs runs)

    -- the entry with the headword is the first not below it, if that has it
    pub accepted_lookup : above ≡ false → lookup h (entries_of i) ≡ exactly h x
    unfolding CheckSpec.entries_of
    accepted_lookup f =
        let b : HeadwordOrder = below_of v.form.order in
        let g = entries_ascend b (order_of v.form.order) i.runs (runs_ascend b D area es i.runs runs) in
        lookup_by_successor b (order_of v.form.order) h [] (all_entries i.runs) g ∙ ap (exactly h) (sym (rw f at (sought i.runs runs)))

-- ---- the image at the front of a slice
-- it is at least a header long
pub front_header : (s : List ℕ) (L : ℕ) → L ≤ length s → 256 ≤ L → 256 ≤ length (take L s)
front_header s L p q = rw (length-take-le L s p) q
