-- A change by which the index does not grow: what is saved, and that the writing gives the plan's index and blocks.
use Prim.Native.Nat.{ℕ, zero, suc, ◌+◌, ◌-◌, ◌*◌, ◌≤◌, ◌<◌, min}
use mathlib.Core.Path.{◌≡◌, refl, sym, ap, ap₂, subst, ◌∙◌}
use mathlib.Core.Logic.{◌⊎◌, inl, inr}
use mathlib.Core.Bool.{Bool, true, false}
use mathlib.Core.List.{List, [], ◌∷◌, ◌++◌, map, append_assoc, append-nil}
use native.Mathlib.Omega.{arith}
use lib.ListN.{length, take, drop, get_or, length-drop, take-append-drop, replicate-append-replicate}
use lib.Seq.{length-take-le, take_all, take_at, drop_at, take-take, take-append-le, take-append-add, drop-drop}
use lib.Dec.{leb}
use borrow.Author.Tests.{leb-true, leb-false}
use Rattle.marks.specs.Marks.{marks}
use Rattle.marks.proofs.Laws.{drop_take}
use Rattle.spec.specs.Bytes.{bytes_at, write, zeros}
use Rattle.spec.specs.Outcome.{ok}
use Rattle.spec.specs.Order.{HeadwordOrder, below_of}
use Rattle.spec.specs.Check.{Frame, index_area}
use Rattle.spec.specs.Header.{block_position, get}
use Rattle.spec.specs.Entry.{Entry, headword_ok}
use Rattle.spec.specs.Run.{run_size}
use Rattle.spec.specs.Index.{Element, elements_bytes, index_from}
use Rattle.spec.specs.Place.{cut, element_of}
use Rattle.spec.specs.ImageForm.{StoredIndex}
use Rattle.spec.proofs.BytesLaws.{length_zeros, Small, small_part, bytes_of}
use Rattle.spec.proofs.PartLaws.{length_bytes_at, rest_at}
use Rattle.spec.proofs.WriteLaws.{bytes_at_within, bytes_at_write, take_write, length_write, written_front, write_same, write_behind, written_behind}
use Rattle.spec.proofs.StoredIndexLaws.{index_stored}
use Rattle.index.specs.Elements.{elements_at, elements_end, Inside}
use Rattle.index.proofs.Laws.{inside_at, ends_inside}
use Rattle.elements.specs.Renewed.{renewed}
use Rattle.elements.proofs.Laws.{elements_length, elements_stand, renewed_none_all}
use Rattle.byteops.specs.Width.{Width}
use Rattle.header.specs.declared.Form.{Form}
use Rattle.header.specs.Form.{layout_named, index_start, area_start, index_part, data_cut, data_part}
use Rattle.inspect.specs.declared.Overview.{Overview}
use Rattle.inspect.specs.Overview.{AcceptedImage}
use Rattle.inspect.proofs.Laws.{index_told}
use Rattle.inspect.proofs.Accepted.{accepted_told, accepted_n, accepted_inside}
use Rattle.header.proofs.Laws.{index_slice}
use Rattle.spec.proofs.OrderLaws.{order_of}
use Rattle.placing.specs.Spread.{Spread, spread}
use Rattle.moves.specs.Moved.{starts, moved_written}
use Rattle.target.specs.declared.Target.{Target}
use Rattle.target.specs.Told.{entries_start}
use Rattle.target.proofs.Laws.{start_least, start_most}
use Rattle.encoder.specs.Limits.{longest_body, longest_run}
use Rattle.parts.specs.Room.{largest_limit}
use Rattle.parts.specs.Merge.{changed_entries}
use Rattle.plan.specs.Written.{part_runs, parts_written}
use Rattle.change.specs.declared.Outline.{Outline}
use Rattle.change.specs.Ready.{parts_of, Ready, Roomy, new_start, Areas}
use Rattle.change.specs.Kept.{fitted, Saved}
use Rattle.change.proofs.Laws.{run_cut, areas_done}
use Rattle.change.proofs.AreasLaws.{parts_asks, index_end}

-- ---- bytes cut or filled
-- zeros one behind the other
zeros_join : (k j : ℕ) → zeros k ++ zeros j ≡ zeros (k + j)
unfolding zeros
zeros_join k j = replicate-append-replicate k j 0

-- the first of them
zeros_front : (k m : ℕ) → k ≤ m → take k (zeros m) ≡ zeros k
zeros_front k m h =
    let e : m ≡ k + (m - k) = omega arith in
    ap (λ (x : ℕ). take k (zeros x)) e ∙ ap (take k) (sym (zeros_join k (m - k))) ∙ take_at (zeros k) (zeros (m - k)) k (length_zeros k)

-- bytes in front of zeros, with room for them: they, then zeros
pub fitted_zeros : (n : ℕ) (a : List ℕ) (z : ℕ) → length a ≤ n → fitted n (a ++ zeros z) ≡ a ++ zeros (n - length a)
unfolding fitted
fitted_zeros n a z h =
    let k : ℕ = n - length a in
    let e : n ≡ length a + k = omega arith in
    ap (take n) (append_assoc a (zeros z) (zeros n) ∙ ap (λ (x : List ℕ). a ++ x) (zeros_join z n))
    ∙ ap (λ (x : ℕ). take x (a ++ zeros (z + n))) e
    ∙ take-append-add a (zeros (z + n)) k
    ∙ ap (λ (x : List ℕ). a ++ x) (zeros_front k (z + n) (omega arith))

-- ---- put_rest
-- bytes cut or filled are their first k, as many as there are and there is room for, then zeros
fitted_cut : (room : ℕ) (l : List ℕ) (k : ℕ) → k ≡ min (length l) room → fitted room l ≡ take k l ++ zeros (room - k)
unfolding fitted zeros
fitted_cut room l k e = go (leb (length l) room) refl
  where
    go : (t : Bool) → leb (length l) room ≡ t → take room (l ++ zeros room) ≡ take k l ++ zeros (room - k)
    go true q =
        let p : length l ≤ room = leb-true (length l) room q in
        let r : room ≡ length l + (room - k) = omega (arith, e, p) in
        ap (λ (x : ℕ). take x (l ++ zeros room)) r
        ∙ take-append-add l (zeros room) (room - k)
        ∙ ap (λ (x : List ℕ). l ++ x) (zeros_front (room - k) room (omega arith))
        ∙ ap (λ (x : List ℕ). x ++ zeros (room - k)) (sym (take_all k l (omega (arith, e, p))))
    go false q =
        let p : room < length l = leb-false (length l) room q in
        let n : room ≡ k = omega (arith, e, p) in
        let z : 0 ≡ room - k = omega arith in
        take-append-le room l (zeros room) (omega (arith, p)) ∙ ap (λ (x : ℕ). take x l) n ∙ sym (append-nil (take k l)) ∙ ap (λ (x : ℕ). take k l ++ zeros x) z

-- and so they are written
pub put_fitted : (d d₁ d₂ l : List ℕ) (at room k : ℕ) → k ≡ min (length l) room → d₁ ≡ write at (bytes_at 0 k l) d → d₂ ≡ write (at + k) (zeros (room - k)) d₁ → at ≤ length d
    → d₂ ≡ write at (fitted room l) d
unfolding bytes_at
put_fitted d d₁ d₂ l at room k e e₁ e₂ q =
    written_behind d d₁ d₂ (take k l) (zeros (room - k)) at (at + k) q (omega (arith, length-take-le k l (omega (arith, e)))) e₁ e₂
    ∙ ap (λ (x : List ℕ). write at x d) (sym (fitted_cut room l k e))

-- ---- save_old
-- both copies stand in the working slice
pub saved : (s w w₁ w₂ : List ℕ) (v : Outline) (start from size : ℕ) → let t : Target = v.draft.target in
    start ≡ area_start v.draft.old.form v.draft.old.n → from ≡ entries_start t.block t.size → size ≡ 256 * (t.block + t.size) - from
    → w₁ ≡ write 0 (bytes_at from size (data_cut s start)) w
    → w₂ ≡ write size (bytes_at (index_start v.draft.old.form + t.end) (256 * v.draft.old.n - t.end) s) w₁
    → start + from + size ≤ length s → t.end ≤ 256 * v.draft.old.n → size + (256 * v.draft.old.n - t.end) ≤ length w → Saved s v size w₂
saved s w w₁ w₂ v start from size here ef es e₁ e₂ fits inside room =
    let t : Target = v.draft.target in
    let x : List ℕ = bytes_at from size (data_cut s start) in
    let la : length (data_cut s start) ≡ length s - start = length-take-le (length s - start) (drop start s) (omega (arith, length-drop start s)) in
    let y : List ℕ = bytes_at (index_start v.draft.old.form + t.end) (256 * v.draft.old.n - t.end) s in
    let lx : length x ≡ size = length_bytes_at (data_cut s start) from size (omega arith) in
    let ly : length y ≡ 256 * v.draft.old.n - t.end = length_bytes_at s (index_start v.draft.old.form + t.end) (256 * v.draft.old.n - t.end) (omega arith) in
    let l₁ : length w₁ ≡ length w = ap length e₁ ∙ length_write 0 x w (omega (arith, lx)) in
    let k : size + length y ≤ length w₁ = omega (arith, ly, l₁) in
    let a : take size w₂ ≡ x = ap (take size) e₂ ∙ take_write size y w₁ k size (omega arith) ∙ ap (take size) e₁ ∙ written_front x w size lx in
    let b : bytes_at size (256 * v.draft.old.n - t.end) w₂ ≡ y
    = ap (bytes_at size (256 * v.draft.old.n - t.end)) e₂ ∙ ap (λ (q : ℕ). bytes_at size q (write size y w₁)) (sym ly) ∙ bytes_at_write size y w₁ k in
    (es ∙ ap (λ (q : ℕ). 256 * (t.block + t.size) - q) ef, a ∙ ap₂ (λ (q u : ℕ). bytes_at q size (data_cut s u)) ef here, b)

-- ---- the index
-- a byte of a list of bytes
small_get : (l : List ℕ) (k : ℕ) → Small l → get_or l k 0 < 256
small_get [] k p = omega arith
small_get (x ∷ l) zero (p, ps) = p
small_get (x ∷ l) (suc k) (p, ps) = small_get l k ps

-- bytes that stand in front of the end of a list that zeros fill
zeros_behind : (index x y : List ℕ) (at m : ℕ) → index ≡ x ++ zeros m → length x ≡ at + length y → bytes_at at (length y) index ≡ y → drop at index ≡ y ++ zeros m
unfolding bytes_at
zeros_behind index x y at m e l b =
    let d : drop (at + length y) index ≡ zeros m = ap (drop (at + length y)) e ∙ drop_at x (zeros m) (at + length y) l in
    sym (take-append-drop (length y) (drop at index)) ∙ ap₂ (λ (u w : List ℕ). u ++ w) b (drop-drop (length y) at index ∙ d)

-- the bytes of entries of a run in a slice of which an image is the front
run_inside : (o s : List ℕ) (start from size : ℕ) → take (length o) s ≡ o → start + from + size ≤ length o
    → bytes_at from size (data_cut s start) ≡ take size (drop from (data_cut o start))
unfolding bytes_at
run_inside o s start from size copy fits =
    let a : drop start o ≡ take (length o - start) (drop start s) = ap (drop start) (sym copy) ∙ drop_take start (length o) s in
    let b : take (length o - start) (drop start o) ≡ take (length o - start) (drop start s)
    = ap (take (length o - start)) a ∙ take-take (length o - start) (length o - start) (drop start s) (omega arith) in
    let c : data_cut s start ≡ drop start s = take_all (length s - start) (drop start s) (omega (arith, length-drop start s)) in
    ap (λ (x : List ℕ). take size (drop from x)) c
    ∙ sym (ap (λ (x : List ℕ). take size (drop from x)) b
    ∙ ap (take size) (drop_take from (length o - start) (drop start s))
    ∙ take-take size (length o - start - from) (drop from (drop start s)) (omega arith))

-- the elements of an accepted image's index
accepted_elements : (o : List ℕ) (x : Overview) → AcceptedImage o x → let e : ℕ = get (layout_named o).nindex2 o in
    index_from x.form.width (below_of x.form.order) x.n e (index_part x.form o x.n) ≡ ok (elements_at x.form.width (index_part x.form o x.n) 0 e)
accepted_elements o x a =
    let w : ℕ = x.form.width in
    let below : HeadwordOrder = below_of x.form.order in
    let index : List ℕ = index_part x.form o x.n in
    let e : ℕ = get (layout_named o).nindex2 o in
    let m = accepted_told o x a in
    let y : index_area a.image.frame o ≡ index = ap (λ (g : Frame). index_area g o) a.frame_is ∙ index_slice (layout_named o) x.form o x.n x.d in
    let z : index_from w below x.n e index ≡ ok m.elements = ap₂ (λ (k : ℕ) (l : List ℕ). index_from w below k e l) (accepted_n o x a) (sym y) ∙ m.index in
    z ∙ ap ok (index_told w (omega (arith, a.good.0.0)) below index x.n e m.elements z).0

-- a part of a slice as code cuts it out
rest_cut : (at n : ℕ) (w : List ℕ) → take (at + n - at) (drop at w) ≡ bytes_at at n w
unfolding bytes_at
rest_cut at n w = let e : at + n - at ≡ n = omega arith in ap (λ (x : ℕ). take x (drop at w)) e

-- ---- write_kept
module _ (o : List ℕ) (v : Outline) (T : List ℕ) (ws : List ℕ) (h body : List ℕ) (r : Ready o v T (marks ws) h body)
    (s : List ℕ) (q : Roomy s o v (marks ws) h body) (still : v.draft.g ≡ 0) (small : (k : ℕ) → get_or s k 0 < 256) where
  abbrev fm : Form
  fm = v.draft.old.form

  abbrev w : ℕ
  w = fm.width

  abbrev t : Target
  t = v.draft.target

  abbrev front : ℕ
  front = index_start fm

  abbrev start : ℕ
  start = area_start fm v.draft.old.n

  abbrev index : List ℕ
  index = index_part fm o v.draft.old.n

  abbrev area : List ℕ
  area = data_part fm o v.draft.old.n

  abbrev count : ℕ
  count = get (layout_named o).nindex2 o

  -- the bytes of the elements before and after
  abbrev B : List ℕ
  B = elements_bytes w (elements_at w index 0 t.before)

  abbrev A : List ℕ
  A = elements_bytes w (elements_at w index t.end t.after)

  -- the index in the slice
  index_there : index ≡ bytes_at front (256 * v.draft.old.n) s
  unfolding bytes_at
  index_there =
      let k : start - front ≡ 256 * v.draft.old.n = omega arith in
      ap (λ (x : ℕ). take x (drop front o)) k
      ∙ ap (λ (x : List ℕ). take (256 * v.draft.old.n) (drop front x)) (sym q.copy)
      ∙ ap (take (256 * v.draft.old.n)) (drop_take front (length o) s)
      ∙ take-take (256 * v.draft.old.n) (length o - front) (drop front s) (omega (arith, r.whole))

  index_long : length index ≡ 256 * v.draft.old.n
  index_long = ap length index_there ∙ length_bytes_at s front (256 * v.draft.old.n) (omega (arith, r.whole, q.shorter))

  -- its bytes are bytes
  index_bytes : Small index
  index_bytes = subst Small (sym index_there) (small_part s small (256 * v.draft.old.n) front)

  -- the element of the run concerned ends inside the index
  pub end_inside : t.end ≤ 256 * v.draft.old.n
  end_inside = omega (arith, inside_at w index t.end t.after r.told.after_inside, index_long)

  -- and starts there
  pub at_inside : t.at ≤ 256 * v.draft.old.n
  at_inside = omega (arith, r.told.at_is, elements_length w index 0 t.before r.told.before_inside, ends_inside w index 0 t.before r.told.before_inside, index_long)

  -- nothing is moved
  nothing_moved : s ≡ take start s ++ moved_written area v.draft.old.d T (starts 0 v.draft.g T) (drop start s)
  unfolding starts moved_written
  nothing_moved = rw still (sym (take-append-drop start s))

  -- no number is renewed
  as_they_are : (es : List Element) → map (renewed T v.draft.g) es ≡ es
  as_they_are es = ap (λ (g : ℕ). map (renewed T g) es) still ∙ renewed_none_all T es

  -- the elements before stand there
  before_there : s ≡ write front (elements_bytes w (map (renewed T v.draft.g) (elements_at w index 0 t.before))) s
  before_there =
      let i : Inside w index 0 t.before = r.told.before_inside in
      let l : elements_end w index 0 t.before ≡ 0 + length B = elements_length w index 0 t.before i in
      let k : elements_end w index 0 t.before - 0 ≡ length B = omega arith in
      let b : bytes_at 0 (length B) index ≡ B = ap (λ (x : ℕ). bytes_at 0 x index) (sym k) ∙ elements_stand w index 0 t.before (λ x. small_get index x index_bytes) i in
      let z : front + 0 ≡ front = omega arith in
      let p : 0 + length B ≤ 256 * v.draft.old.n = omega (arith, ends_inside w index 0 t.before i, index_long) in
      let c : bytes_at front (length B) s ≡ B
      = sym (ap (bytes_at 0 (length B)) index_there ∙ bytes_at_within front (256 * v.draft.old.n) 0 (length B) s p ∙ ap (λ (x : ℕ). bytes_at x (length B) s) z) ∙ b in
      sym (ap (λ (es : List Element). write front (elements_bytes w es) s) (as_they_are (elements_at w index 0 t.before)) ∙ write_same front B s c)

  -- the index holds the elements in front of zeros
  stored : StoredIndex w (elements_at w index 0 count) index
  stored =
      let e : index_from w (below_of fm.order) v.draft.old.n count index ≡ ok (elements_at w index 0 count) = accepted_elements o v.draft.old r.accepted in
      ((index_stored w (below_of fm.order) (order_of fm.order) v.draft.old.n count index (bytes_of index index_bytes) index_long (elements_at w index 0 count)).0 e).stored

  -- behind the element of the run concerned stand those after it, then zeros
  rest_told : (z : ℕ) × (drop t.end index ≡ A ++ zeros z)
  unfolding StoredIndex zeros elements_bytes
  rest_told = go stored
    where
      all_inside : Inside w index 0 count
      all_inside = accepted_inside o v.draft.old r.accepted start refl count refl

      total : length (elements_bytes w (elements_at w index 0 count)) ≡ t.end + length A
      total = omega (arith, elements_length w index 0 count all_inside, r.told.end_is)

      there : bytes_at t.end (length A) index ≡ A
      there =
          let k : elements_end w index t.end t.after - t.end ≡ length A = omega (arith, elements_length w index t.end t.after r.told.after_inside) in
          ap (λ (x : ℕ). bytes_at t.end x index) (sym k) ∙ elements_stand w index t.end t.after (λ x. small_get index x index_bytes) r.told.after_inside

      go : ((index ≡ []) × (elements_at w index 0 count ≡ [])) ⊎ ((n : ℕ) × (4 ≤ n) × (index ≡ elements_bytes w (elements_at w index 0 count) ++ zeros n))
          → (z : ℕ) × (drop t.end index ≡ A ++ zeros z)
      go (inl (e, f)) =
          let x : length (elements_bytes w (elements_at w index 0 count)) ≡ 0 = ap (λ (l : List Element). length (elements_bytes w l)) f in
          (0, zeros_behind index [] A t.end 0 e (omega (arith, total)) there)
      go (inr (n, p, e)) = (n, zeros_behind index (elements_bytes w (elements_at w index 0 count)) A t.end n e total there)

  -- the parts of the plan
  abbrev ps : List (List Entry)
  ps = parts_of v.draft.old o v.draft.target h body v.draft.fresh

  -- parts placed on the marks
  abbrev placed : List (List Entry) → Spread
  placed cs = spread v.draft.g v.end (marks ws) (map run_size cs)

  -- the bytes that their elements take
  abbrev room : List (List Entry) → ℕ
  room cs = length (elements_bytes w (map element_of (part_runs v.draft.g (placed cs).places cs)))

  -- and they written over a slice
  abbrev written : List (List Entry) → List ℕ → List ℕ
  written cs = parts_written w fm.extended v.draft.old.n v.draft.g (front + t.at) (placed cs).places cs

  module _ (size : ℕ) (kept : List ℕ) (sv : Saved s v size kept) where
    -- the entries as they were saved
    run_saved : take size kept ≡ take (256 * (t.block + t.size) - entries_start t.block t.size) (drop (entries_start t.block t.size) area)
    run_saved =
        let f : ℕ = entries_start t.block t.size in
        sv.1
        ∙ run_inside o s start f size q.copy (omega (arith, sv.0, r.whole, r.inside, start_least t.block t.size, start_most t.block t.size))
        ∙ ap (λ (x : ℕ). take x (drop f area)) sv.0

    -- the parts of the changed run
    abbrev cs : List (List Entry)
    cs = cut fm.limit (changed_entries fm.order (take size kept) h body v.draft.fresh)

    parts_same : cs ≡ ps
    parts_same = ap (λ (x : List ℕ). cut fm.limit (changed_entries fm.order x h body v.draft.fresh)) (run_saved ∙ run_cut area t.block t.size (entries_start t.block t.size) refl)

    -- where their elements start
    at_there : front + t.at ≡ front + length B
    at_there = omega (arith, r.told.at_is)

    -- what writing the parts asks
    pub kept_asks : (l : ℕ) → l ≡ length s
        → ((headword_ok h ≡ true) × (length body ≤ longest_body) × (length (take size kept) ≤ 8388608))
        × ((Width w × (fm.limit ≤ largest_limit) × (v.draft.g ≤ v.end))
        × ((((placed cs).end + longest_run ≤ 64 * length ws) × (block_position fm.extended v.draft.old.n (placed cs).end ≤ l))
        × (front + t.at + room cs ≤ l)))
    kept_asks l e =
        subst
        (λ (x : List ℕ).
        ((headword_ok h ≡ true) × (length body ≤ longest_body) × (length x ≤ 8388608))
        × ((Width w × (fm.limit ≤ largest_limit) × (v.draft.g ≤ v.end))
        × ((((placed (cut fm.limit (changed_entries fm.order x h body v.draft.fresh))).end + longest_run ≤ 64 * length ws)
        × (block_position fm.extended v.draft.old.n (placed (cut fm.limit (changed_entries fm.order x h body v.draft.fresh))).end ≤ l))
        × (front + t.at + room (cut fm.limit (changed_entries fm.order x h body v.draft.fresh)) ≤ l))))
        (sym run_saved) (parts_asks o v T ws h body r s q start refl l (entries_start t.block t.size) (front + t.at) e refl at_there)

    -- the marks then
    pub kept_marks : (ms : List Bool) → ms ≡ (placed cs).free → ms ≡ (placed ps).free
    kept_marks ms = subst (λ (x : List (List Entry)). ms ≡ (placed x).free) parts_same

    module _ (b : ℕ) (eb : b ≡ front + t.at + room cs) where
      -- where the new elements end, by the plan's parts
      new_end : b ≡ front + t.at + room ps
      new_end = subst (λ (x : List (List Entry)). b ≡ front + t.at + room x) parts_same eb

      -- with those after they end inside the index
      all_end : (b + length A ≤ new_start v) × (new_start v ≤ length s)
      all_end = index_end o v T ws h body r s q start refl (front + t.at) b (b + length A) at_there new_end refl

      -- so the new ones do
      pub new_inside : (b ≤ start) × (start ≤ length s)
      new_inside = (omega (arith, all_end.0, still), omega (arith, all_end.1))

      -- THE LAW of the writing where the index does not grow
      pub kept_areas : (s₃ s₅ : List ℕ) (end : ℕ) → end ≡ start → s₃ ≡ written cs s
          → length s₃ ≡ length s → s₅ ≡ write b (fitted (end - b) (take (size + (256 * v.draft.old.n - t.end) - size) (drop size kept))) s₃ → Areas s s₅ o v h body
      kept_areas s₃ s₅ end here e₃ l₃ e₅ =
          let z : ℕ = rest_told.0 in
          let n : ℕ = 256 * v.draft.old.n - t.end in
          let rest : List ℕ = take (size + n - size) (drop size kept) in
          let d : rest ≡ A ++ zeros z
          = rest_cut size n kept ∙ sv.2 ∙ sym (bytes_at_within front (256 * v.draft.old.n) t.end n s (omega (arith, end_inside)))
          ∙ ap (bytes_at t.end n) (sym index_there) ∙ rest_at index t.end n (omega (arith, index_long)) ∙ rest_told.1 in
          let f : fitted (start - b) rest ≡ A ++ zeros (start - b - length A) = ap (fitted (start - b)) d ∙ fitted_zeros (start - b) A z (omega (arith, all_end.0, still)) in
          let k : start - b - length A ≡ new_start v - (b + length A) = omega (arith, still) in
          let g : s₅ ≡ write (b + length A) (zeros (new_start v - (b + length A))) (write b A s₃)
          = e₅ ∙ ap (λ (x : ℕ). write b (fitted (x - b) rest) s₃) here ∙ ap (λ (x : List ℕ). write b x s₃) f ∙ sym (write_behind s₃ A (zeros (start - b - length A)) b (omega (arith, all_end, l₃)))
          ∙ ap (λ (x : ℕ). write (b + length A) (zeros x) (write b A s₃)) k in
          let e₄ : write b A s₃ ≡ write b (elements_bytes w (map (renewed T v.draft.g) (elements_at w index t.end t.after))) s₃
          = ap (λ (es : List Element). write b (elements_bytes w es) s₃) (sym (as_they_are (elements_at w index t.end t.after))) in
          let p : s₃ ≡ written ps s = subst (λ (x : List (List Entry)). s₃ ≡ written x s) parts_same e₃ in
          areas_done o v T (marks ws) h body r s q s s s₃ (write b A s₃) s₅ (front + t.at) b (b + length A) nothing_moved before_there at_there p new_end e₄ refl g
