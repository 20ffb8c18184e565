-- What a turn of planning or writing the parts shows, in the terms of the code.
use Prim.Native.Nat.{ℕ, ◌+◌, ◌-◌, ◌*◌, ◌<◌, ◌≤◌, max}
use mathlib.Core.Path.{◌≡◌, sym, ap, ap₂, ◌∙◌}
use mathlib.Core.Bool.{Bool, true, false}
use mathlib.Core.List.{List, [], ◌∷◌, ◌++◌, map, append-nil}
use native.Mathlib.Omega.{arith}
use lib.ListN.{length, take, drop, length-append, length-take, length-drop, take-append-drop, drop_of_length-le}
use lib.Seq.{length-take-le, take_all, drop-drop}
use Rattle.spec.specs.Bytes.{write, bytes_at, no_zero, blocks_for}
use Rattle.spec.specs.Header.{block_position}
use Rattle.spec.specs.Entry.{Entry, entry_bytes}
use Rattle.spec.specs.Run.{entries_bytes, run_size, run_bytes}
use Rattle.spec.specs.Index.{element_bytes, elements_bytes}
use Rattle.spec.specs.Blocks.{best_fit}
use Rattle.spec.specs.Place.{cut, first_headword, new_run, at_block, element_of}
use Rattle.spec.specs.Lists.{All}
use Rattle.spec.proofs.IndexLaws.{headword_no_zero}
use Rattle.spec.proofs.WriteLaws.{write_right}
use Rattle.marks.specs.Marks.{with_range}
use Rattle.placing.specs.Spread.{Spread, spread, placed_first, Within}
use Rattle.placing.proofs.SpreadLaws.{spread_grows}
use Rattle.encoder.specs.Limits.{longest_entry}
use Rattle.encoder.specs.Framed.{framed_run}
use Rattle.encoder.proofs.Laws.{run_framed, length_framed}
use Rattle.elements.proofs.Laws.{element_size}
use Rattle.parts.specs.Part.{part_of, past_part}
use Rattle.parts.proofs.PartLaws.{Short, part_first, part_headword, part_size, front_stored, some_left, cut_next}
use Rattle.parts.proofs.Laws.{headword_at}
use Rattle.plan.specs.Written.{part_element, parts_written, part_runs}
use Rattle.newruns.specs.Laid.{sizes_of, laid, elements_long}

-- ---- what is planned and written, and what is still to come
-- the parts placed from now on make the end and the marks of the whole
pub record Planning (limit g end : ℕ) (ms₀ : List Bool) (es₀ : List Entry) (last : ℕ) (ms : List Bool) (es : List Entry) : Type 0 where
  pub end_all : (laid limit g last ms es).end ≡ (laid limit g end ms₀ es₀).end
  pub free_all : (laid limit g last ms es).free ≡ (laid limit g end ms₀ es₀).free

-- nothing is placed at first
pub planning_start : (limit g end : ℕ) (ms : List Bool) (es₀ es : List Entry) → es ≡ es₀ → Planning limit g end ms es₀ end ms es
planning_start limit g end ms es₀ es e = record { end_all = ap (λ (l : List Entry). (laid limit g end ms l).end) e; free_all = ap (λ (l : List Entry). (laid limit g end ms l).free) e }

-- the parts written from now on make the bytes of the whole
pub record Writing (width limit extended index g at end : ℕ) (ms₀ : List Bool) (es₀ : List Entry) (image₀ : List ℕ) (out last : ℕ) (ms : List Bool) (es : List Entry) (image : List ℕ) : Type 0 where
  pub planning : Planning limit g end ms₀ es₀ last ms es
  pub whole : parts_written width extended index g out (laid limit g last ms es).places (cut limit es) image
      ≡ parts_written width extended index g at (laid limit g end ms₀ es₀).places (cut limit es₀) image₀
  pub size : out + elements_long width limit g (laid limit g last ms es).places es ≡ at + elements_long width limit g (laid limit g end ms₀ es₀).places es₀

-- nothing is written at first
pub writing_start : (width limit extended index g at end : ℕ) (ms : List Bool) (es₀ es : List Entry) (image : List ℕ) → es ≡ es₀
    → Writing width limit extended index g at end ms es₀ image at end ms es image
writing_start width limit extended index g at end ms es₀ es image e =
    record {
      planning = planning_start limit g end ms es₀ es e;
      whole = ap (λ (l : List Entry). parts_written width extended index g at (laid limit g end ms l).places (cut limit l) image) e;
      size = ap (λ (l : List Entry). at + elements_long width limit g (laid limit g end ms l).places l) e;
    }

module _ (limit g end : ℕ) (ms₀ : List Bool) (es₀ : List Entry) (last : ℕ) (ms : List Bool) (es : List Entry) (planning : Planning limit g end ms₀ es₀ last ms es) where
  -- the end now is no higher than that of the whole
  pub planning_under : last ≤ (laid limit g end ms₀ es₀).end
  planning_under = omega (arith, spread_grows g last ms (sizes_of limit es), planning.end_all)

  -- past the most: so is the whole
  pub planned_over : (most : ℕ) → most < last → Within most (laid limit g end ms₀ es₀) last ms
  planned_over most h = (λ k. absurd (omega arith), λ k. omega (arith, planning_under))

  -- no entry is left: all is placed
  pub planned : (most : ℕ) → es ≡ [] → Within most (laid limit g end ms₀ es₀) last ms
  unfolding spread cut
  planned most e =
      let p : last ≡ (laid limit g end ms₀ es₀).end = sym (ap (λ (l : List Entry). (laid limit g last ms l).end) e) ∙ planning.end_all in
      let q : ms ≡ (laid limit g end ms₀ es₀).free = sym (ap (λ (l : List Entry). (laid limit g last ms l).free) e) ∙ planning.free_all in
      (λ k. (p, q), λ k. omega arith)

-- ---- a lent part
-- what a callee left in the rest of a slice
lent_rest : (i : ℕ) (s : List ℕ) (f : List ℕ → List ℕ) → f (take (length s - i) (drop i s)) ++ drop (length s - i) (drop i s) ≡ f (drop i s)
lent_rest i s f =
    let k : take (length s - i) (drop i s) ≡ drop i s = take_all (length s - i) (drop i s) (omega (arith, length-drop i s)) in
    let n : drop (length s - i) (drop i s) ≡ [] = drop-drop (length s - i) i s ∙ drop_of_length-le s {i = i + (length s - i)} (omega arith) in
    ap₂ (λ (x y : List ℕ). f x ++ y) k n ∙ append-nil (f (drop i s))

-- bytes written to the front of the part from a on are written at a
write_lent : (a k : ℕ) (x s s' : List ℕ) → k ≡ length s - a → a + length x ≤ length s → s' ≡ write 0 x (take k (drop a s)) → take a s ++ (s' ++ drop k (drop a s)) ≡ write a x s
write_lent a k x s s' e h p =
    let la : length (take a s) ≡ a = length-take-le a s (omega arith) in
    let z : a - length (take a s) ≡ 0 = omega arith in
    ap₂ (λ (l : List ℕ) (n : ℕ). take a s ++ (l ++ drop n (drop a s))) (p ∙ ap (λ (n : ℕ). write 0 x (take n (drop a s))) e) e
    ∙ ap (λ (l : List ℕ). take a s ++ l) (lent_rest a s (write 0 x))
    ∙ ap (λ (i : ℕ). take a s ++ write i x (drop a s)) (sym z)
    ∙ sym (write_right a x (take a s) (drop a s) (omega arith))
    ∙ ap (write a x) (take-append-drop a s)

-- and leave the length
pub length_lent : (a k : ℕ) (s s' : List ℕ) → k ≡ length s - a → a ≤ length s → length s' ≡ length (take k (drop a s)) → length (take a s ++ (s' ++ drop k (drop a s))) ≡ length s
length_lent a k s s' e h p = simp (length-append, length-drop) (omega (arith, p, length-take-le a s h, length-take k (drop a s), length-drop a s))

-- what `write_run` requires there
pub run_room : (used size a k : ℕ) (part image : List ℕ) → used ≤ longest_entry → used ≤ length part → size ≡ blocks_for (2 + used + 2) → k ≡ length image - a
    → a + 256 * size ≤ length image → (length (take used part) ≤ longest_entry) × (256 * blocks_for (2 + length (take used part) + 2) ≤ length (take k (drop a image)))
run_room used size a k part image p q e ek h =
    let l : length (take used part) ≡ used = length-take-le used part q in
    let m : blocks_for (2 + length (take used part) + 2) ≡ size = sym (e ∙ ap (λ (x : ℕ). blocks_for (2 + x + 2)) (sym l)) in
    (omega arith, omega (arith, length-take k (drop a image), length-drop a image))

-- ---- the next part
-- its element takes its number and a byte beside its headword
pub element_long : (width number : ℕ) (p : List Entry) (head : List ℕ) → head ≡ first_headword p → length (element_bytes width (part_element number p)) ≡ width + 1 + length head
unfolding part_element
element_long width number p head e = element_size width (part_element number p) ∙ ap (λ (l : List ℕ). width + 1 + length l) (sym e)

-- it ends behind them
pub element_past : (width out r number : ℕ) (p : List Entry) (head : List ℕ) → head ≡ first_headword p → r ≡ out + width + 1 + length head
    → r ≡ out + length (element_bytes width (part_element number p))
element_past width out r number p head e q = omega (arith, element_long width number p head e)

module _ (limit : ℕ) (es : List Entry) (used : ℕ) (bytes : used ≡ length (entries_bytes [] (part_of limit 0 [] es))) (some : used ≡ 0 → ⊥) (Q : List Entry) (behind : Q ≡ past_part limit 0 [] es) where
  -- the parts: this one, then those of what is behind it
  parts_next : cut limit es ≡ part_of limit 0 [] es ∷ cut limit Q
  parts_next = cut_next limit es used bytes some Q behind

  module _ (g last last' size b : ℕ) (ms ms' : List Bool) (blocks : size ≡ blocks_for (2 + used + 2)) (place : b ≡ best_fit g last (take (last - g) (drop g ms)) size)
      (later : last' ≡ max last (b + size)) (taken : ms' ≡ with_range b size false ms) where
    -- its place, then the others'
    pub laid_next : laid limit g last ms es ≡ placed_first b (laid limit g last' ms' Q)
    unfolding spread
    laid_next =
        let q : run_size (part_of limit 0 [] es) ≡ size = part_size (part_of limit 0 [] es) ∙ sym (blocks ∙ ap (λ (k : ℕ). blocks_for (2 + k + 2)) bytes) in
        ap (λ (l : List (List Entry)). spread g last ms (map run_size l)) parts_next ∙ rw (q, later, taken, place)

    -- it is placed
    pub planning_more : (end : ℕ) (ms₀ : List Bool) (es₀ : List Entry) → Planning limit g end ms₀ es₀ last ms es → Planning limit g end ms₀ es₀ last' ms' Q
    unfolding placed_first
    planning_more end ms₀ es₀ p = record { end_all = sym (ap (λ (s : Spread). s.end) laid_next) ∙ p.end_all; free_all = sym (ap (λ (s : Spread). s.free) laid_next) ∙ p.free_all }

    -- its run has room where all have
    pub run_fits : (end : ℕ) (ms₀ : List Bool) (es₀ : List Entry) → Planning limit g end ms₀ es₀ last ms es → (extended index long start : ℕ)
        → block_position extended index (laid limit g end ms₀ es₀).end ≤ long → start ≡ block_position extended index b → start + 256 * size ≤ long
    run_fits end ms₀ es₀ p extended index long start room here = omega (arith, planning_under limit g end ms₀ es₀ last' ms' Q (planning_more end ms₀ es₀ p))

    -- the bytes of its element, then the others'
    pub elements_next : (width : ℕ) → elements_long width limit g (laid limit g last ms es).places es
        ≡ length (element_bytes width (part_element (b - g) (part_of limit 0 [] es))) + elements_long width limit g (laid limit g last' ms' Q).places Q
    unfolding placed_first part_runs elements_bytes part_element element_of at_block new_run
    elements_next width =
        ap₂ (λ (s : Spread) (l : List (List Entry)). length (elements_bytes width (map element_of (part_runs g s.places l)))) laid_next parts_next
        ∙ length-append (element_bytes width (part_element (b - g) (part_of limit 0 [] es))) (elements_bytes width (map element_of (part_runs g (laid limit g last' ms' Q).places (cut limit Q))))

    -- what `put_element` requires
    pub element_fits : (width extended index at end : ℕ) (ms₀ : List Bool) (es₀ : List Entry) (image₀ : List ℕ) (out m : ℕ) (image head : List ℕ) → head ≡ first_headword (part_of limit 0 [] es)
        → Writing width limit extended index g at end ms₀ es₀ image₀ out last ms es image → at + elements_long width limit g (laid limit g end ms₀ es₀).places es₀ ≤ length image₀
        → length image ≡ length image₀ → m ≡ length image → out + width + 1 + length head ≤ m
    element_fits width extended index at end ms₀ es₀ image₀ out m image head e w h l k = omega (arith, elements_next width, w.size, element_long width (b - g) (part_of limit 0 [] es) head e)

    -- it is written
    pub writing_more : (width extended index at end : ℕ) (ms₀ : List Bool) (es₀ : List Entry) (image₀ : List ℕ) (out out' start : ℕ) (image image' : List ℕ)
        → start ≡ block_position extended index b
        → image' ≡ write out (element_bytes width (part_element (b - g) (part_of limit 0 [] es))) (write start (run_bytes (part_of limit 0 [] es)) image)
        → out' ≡ out + length (element_bytes width (part_element (b - g) (part_of limit 0 [] es)))
        → Writing width limit extended index g at end ms₀ es₀ image₀ out last ms es image → Writing width limit extended index g at end ms₀ es₀ image₀ out' last' ms' Q image'
    unfolding placed_first parts_written
    writing_more width extended index at end ms₀ es₀ image₀ out out' start image image' ep ei eo w =
        record {
          planning = planning_more end ms₀ es₀ w.planning;
          whole = rw (ei, ep, eo) (sym (ap₂ (λ (s : Spread) (l : List (List Entry)). parts_written width extended index g out s.places l image) laid_next parts_next) ∙ w.whole);
          size = omega (arith, elements_next width, w.size);
        }

-- ---- the bytes of the next part
module _ (limit : ℕ) (es : List Entry) (used : ℕ) (part part' : List ℕ) (bytes : used ≡ length (entries_bytes [] (part_of limit 0 [] es)))
    (there : part' ≡ write 0 (entries_bytes [] (part_of limit 0 [] es)) part) where
  -- they stand at the front of the slice
  pub entries_stand : take used part' ≡ entries_bytes [] (part_of limit 0 [] es)
  entries_stand = front_stored (entries_bytes [] (part_of limit 0 [] es)) part part' used there bytes

  -- and are framed as its run
  pub run_stands : framed_run (take used part') ≡ run_bytes (part_of limit 0 [] es)
  run_stands = ap framed_run entries_stand ∙ run_framed (part_of limit 0 [] es)

  -- its headword is found there
  pub head_stands : (used ≡ 0 → ⊥) → All Short es → (r : ℕ)
      → ((e : Entry) (ds : List Entry) → take used part' ≡ entries_bytes [] (e ∷ ds) → no_zero e.headword ≡ true → r ≡ length e.headword)
      → (k : ℕ) → k ≡ r → take k (drop 3 part') ≡ first_headword (part_of limit 0 [] es)
  unfolding bytes_at
  head_stands some short r found k same =
      let (e, ds, p) = some_left limit es used bytes some in
      let rest : List Entry = part_of limit (length (entry_bytes [] e)) e.headword ds in
      let a : take used part' ≡ entries_bytes [] (e ∷ rest) = entries_stand ∙ ap (λ (l : List Entry). entries_bytes [] (part_of limit 0 [] l)) p ∙ ap (entries_bytes []) (part_first limit [] e ds) in
      let ok : All Short (e ∷ ds) = rw p at short in
      let q : r ≡ length e.headword = found e rest a (headword_no_zero e.headword ok.0.0) in
      ap (λ (x : ℕ). take x (drop 3 part')) (same ∙ q) ∙ headword_at part' used e rest a ∙ sym (ap (λ (l : List Entry). first_headword (part_of limit 0 [] l)) p ∙ part_headword limit e ds)

  -- the run of the part takes its blocks
  pub run_long : (size : ℕ) → size ≡ blocks_for (2 + used + 2) → length (framed_run (take used part')) ≡ 256 * size
  run_long size e = length_framed (take used part') ∙ sym (ap (λ (k : ℕ). 256 * k) (e ∙ ap (λ (k : ℕ). blocks_for (2 + k + 2)) (bytes ∙ sym (ap length entries_stand))))

  -- the run stored in a lent part, then the element
  pub part_stored : (width a k size out number : ℕ) (head image image₁ image₂ : List ℕ) → size ≡ blocks_for (2 + used + 2) → k ≡ length image - a → a + 256 * size ≤ length image
      → image₁ ≡ write 0 (framed_run (take used part')) (take k (drop a image))
      → head ≡ first_headword (part_of limit 0 [] es)
      → image₂ ≡ write out (element_bytes width (record { block = number; headword = head })) (take a image ++ (image₁ ++ drop k (drop a image)))
      → image₂ ≡ write out (element_bytes width (part_element number (part_of limit 0 [] es))) (write a (run_bytes (part_of limit 0 [] es)) image)
  unfolding part_element
  part_stored width a k size out number head image image₁ image₂ en ek r e₁ eh e₂ =
      let w : take a image ++ (image₁ ++ drop k (drop a image)) ≡ write a (run_bytes (part_of limit 0 [] es)) image =
      write_lent a k (framed_run (take used part')) image image₁ ek (omega (arith, run_long size en)) e₁ ∙ ap (λ (x : List ℕ). write a x image) run_stands in
      e₂ ∙ ap₂ (λ (x y : List ℕ). write out (element_bytes width (record { block = number; headword = x })) y) eh w

-- ---- no entry is left
module _ (width limit extended index g at end : ℕ) (ms₀ : List Bool) (es₀ : List Entry) (image₀ : List ℕ) (out last : ℕ) (ms : List Bool) (es : List Entry) (image : List ℕ)
    (writing : Writing width limit extended index g at end ms₀ es₀ image₀ out last ms es image) (none : es ≡ []) where
  -- all is written
  pub written_image : image ≡ parts_written width extended index g at (laid limit g end ms₀ es₀).places (cut limit es₀) image₀
  unfolding spread cut parts_written
  written_image = sym (ap (λ (l : List Entry). parts_written width extended index g out (laid limit g last ms l).places (cut limit l) image) none) ∙ writing.whole

  -- the elements end where all of them do
  pub written_size : out ≡ at + elements_long width limit g (laid limit g end ms₀ es₀).places es₀
  unfolding spread cut part_runs elements_bytes
  written_size =
      let z : elements_long width limit g (laid limit g last ms es).places es ≡ 0 = ap (λ (l : List Entry). elements_long width limit g (laid limit g last ms l).places l) none in
      omega (arith, writing.size)

  -- all blocks are taken
  pub written_free : ms ≡ (laid limit g end ms₀ es₀).free
  unfolding spread cut
  written_free = sym (ap (λ (l : List Entry). (laid limit g last ms l).free) none) ∙ writing.planning.free_all
