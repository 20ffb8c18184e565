-- Laws of packing: packed runs and their elements as they are written, and what a turn of the loop shows.
use Prim.Native.Nat.{ℕ, zero, suc, ◌+◌, ◌*◌, ◌/◌, ◌≤◌}
use mathlib.Core.Path.{◌≡◌, refl, sym, ap, ap₂, ◌∙◌}
use mathlib.Core.List.{List, [], ◌∷◌, ◌++◌, map}
use native.Mathlib.Omega.{arith}
use lib.ListN.{length, length-append}
use borrow.Author.Rules.{rules}
use Rattle.std.specs.Int.{div_ceil}
use Rattle.spec.specs.Order.{below_of}
use Rattle.spec.specs.Outcome.{ok}
use Rattle.spec.specs.Bytes as BytesSpec
use Rattle.spec.specs.Bytes.{from_little_endian, write, bytes_at}
use Rattle.spec.specs.Header.{block_position}
use Rattle.spec.specs.Run.{Run}
use Rattle.spec.specs.Index.{Element, element_bytes, elements_bytes}
use Rattle.spec.specs.Blocks as BlocksSpec
use Rattle.spec.specs.Blocks.{run_blocks}
use Rattle.spec.specs.Check.{next_headword, runs_from}
use Rattle.spec.specs.Place as PlaceSpec
use Rattle.spec.specs.Place.{element_of, packed, runs_written}
use Rattle.spec.specs.Lists.{All}
use Rattle.spec.proofs.ListsLaws.{all_map}
use Rattle.spec.proofs.OutcomeLaws.{same_value}
use Rattle.spec.proofs.PartLaws.{length_bytes_at}
use Rattle.spec.proofs.WriteLaws.{length_write, write_swap, write_behind, write_ahead, write_none}
use Rattle.spec.proofs.ReadLaws.{RunTold, run_told, no_runs, runs_first, runs_elements}
use Rattle.spec.specs.Sound.{Holds}
use Rattle.spec.proofs.HoldsLaws.{runs_hold}
use Rattle.elements.proofs.Laws.{element_size, elements_size}
use Rattle.runs.specs.Size.{size_told}
use Rattle.std.specs.Prelude.{Ok, IsOk}
use Rattle.runs.proofs.SizeLaws.{size_of_run}
use Rattle.pack.specs.Packing as Packing
use Rattle.pack.specs.Packing.{blocks_needed, runs_bytes, packed_elements, runs_packed, RunsFit}

-- ---- writes
-- bytes at two places, in each written in two parts
pub write_two : (d x y g h : List ℕ) (i p i₁ p₁ : ℕ) → i₁ ≡ i + length g → p₁ ≡ p + length x → i₁ + length h ≤ p → p₁ + length y ≤ length d
    → write i₁ h (write p₁ y (write i g (write p x d))) ≡ write i (g ++ h) (write p (x ++ y) d)
write_two d x y g h i p i₁ p₁ e f front back =
    let l : length (write p x d) ≡ length d = length_write p x d (omega arith) in
    let s : write p₁ y (write p x d) ≡ write p (x ++ y) d = rw f (write_behind d x y p (omega arith)) in
    let m : length (write p (x ++ y) d) ≡ length d = length_write p (x ++ y) d (omega (arith, length-append x y)) in
    ap (write i₁ h) (sym (write_swap (write p x d) g y i p₁ (omega arith) (omega arith)) ∙ ap (write i g) s) ∙ rw e (write_behind (write p (x ++ y) d) g h i (omega arith))

-- ---- packed runs
-- their elements, one and those behind it
pub packed_next : (width b : ℕ) (r : Run) (rs : List Run)
    → packed_elements width b (r ∷ rs) ≡ element_bytes width (record { block = b; headword = r.headword }) ++ packed_elements width (b + r.size) rs
unfolding Packing.packed_elements PlaceSpec.packed PlaceSpec.at_block PlaceSpec.element_of elements_bytes
packed_next width b r rs = refl

-- of no run there is none
pub packed_none : (width b : ℕ) → packed_elements width b [] ≡ []
unfolding Packing.packed_elements PlaceSpec.packed elements_bytes
packed_none width b = refl

-- as no element takes no byte
elements_none : (width : ℕ) → elements_bytes width [] ≡ []
unfolding elements_bytes
elements_none width = refl

-- they take as many bytes as they took
pub packed_same : (width b : ℕ) (rs : List Run) → length (packed_elements width b rs) ≡ length (elements_bytes width (map element_of rs))
unfolding PlaceSpec.element_of
packed_same width b [] = ap length (packed_none width b) ∙ sym (ap length (elements_none width))
packed_same width b (r ∷ rs) =
    let e : Element = record { block = b; headword = r.headword } in
    omega (
      arith,
      ap length (packed_next width b r rs),
      length-append (element_bytes width e) (packed_elements width (b + r.size) rs),
      element_size width e,
      packed_same width (b + r.size) rs,
      elements_size width (element_of r) (map element_of rs),
    )

-- runs that have the bytes of their blocks
abbrev pub Whole : List Run → Type 0
Whole rs = All (λ r. length r.bytes ≡ 256 * r.size) rs

-- their bytes are those of all their blocks
pub runs_bytes_length : (rs : List Run) → Whole rs → length (runs_bytes rs) ≡ 256 * run_blocks rs
unfolding Packing.runs_bytes BlocksSpec.run_blocks
runs_bytes_length [] h = refl
runs_bytes_length (r ∷ rs) (h, hs) = omega (arith, length-append r.bytes (runs_bytes rs), runs_bytes_length rs hs)

-- packed runs written over an area are their bytes one after the other
pub packed_written : (b : ℕ) (rs : List Run) (area : List ℕ) → Whole rs → 256 * b + 256 * run_blocks rs ≤ length area → runs_written (packed b rs) area ≡ write (256 * b) (runs_bytes rs) area
unfolding PlaceSpec.packed PlaceSpec.at_block PlaceSpec.runs_written Packing.runs_bytes BlocksSpec.run_blocks
packed_written b [] area h fits = sym (write_none area (256 * b))
packed_written b (r ∷ rs) area (h, hs) fits =
    let m : length (runs_bytes rs) ≡ 256 * run_blocks rs = runs_bytes_length rs hs in
    ap (write (256 * b) r.bytes) (packed_written (b + r.size) rs area hs (omega arith))
    ∙ write_ahead area r.bytes (runs_bytes rs) (256 * b) (256 * (b + r.size)) (omega arith) (omega arith)

-- ---- need
-- without an element
pub need_none : (elements bytes : ℕ) → elements ≡ 0 → 0 ≡ blocks_needed elements bytes
unfolding Packing.blocks_needed
need_none elements bytes e = rw e

-- with some
pub need_some : (elements bytes r : ℕ) → (elements ≡ 0 → ⊥) → r ≡ div_ceil (bytes + 4) 256 → r ≡ blocks_needed elements bytes
unfolding Packing.blocks_needed BytesSpec.blocks_for
need_some zero bytes r h e = absurd (h refl)
need_some (suc elements) bytes r h e = omega (arith, e)

-- ---- write_runs
-- the runs of some elements are still to be written: their elements from `out` on, they from block b on
pub record Underway (width order extended : ℕ) (all : List Element) (area : List ℕ) (d front m : ℕ) (image₀ image : List ℕ) (left : List Element) (out b : ℕ) : Type 0 where
  pub runs : List Run
  pub read : runs_from (below_of order) d area left ≡ ok runs
  pub index_room : out + length (packed_elements width b runs) ≡ front + length (elements_bytes width all)
  pub area_room : block_position extended m (b + run_blocks runs) ≤ length image
  pub whole : (rs : List Run) → runs_from (below_of order) d area all ≡ ok rs
      → write out (packed_elements width b runs) (write (block_position extended m b) (runs_bytes runs) image) ≡ runs_packed width front (block_position extended m 0) rs image₀

-- the run of an element that the code reads, and those behind it
pub record RunHere (order : ℕ) (area : List ℕ) (d : ℕ) (runs : List Run) (others : List Element) (from size : ℕ) (headword : List ℕ) : Type 0 where
  pub run : Run
  pub rest : List Run
  pub runs_are : runs ≡ run ∷ rest
  pub size_is : size ≡ run.size
  pub bytes_are : run.bytes ≡ bytes_at (256 * from) (256 * size) area
  pub headword_is : run.headword ≡ headword
  pub inside : from + size ≤ d
  pub others_read : runs_from (below_of order) d area others ≡ ok rest

module _ (order : ℕ) where
  -- it is so by the size that row 7 allows
  run_here : (area : List ℕ) (d : ℕ) (e : Element) (others : List Element) (runs : List Run) → runs_from (below_of order) d area (e ∷ others) ≡ ok runs → (blocks : ℕ)
      → size_told d area e.block ≡ Ok blocks → RunHere order area d runs others e.block blocks e.headword
  run_here area d e others runs h blocks told =
      let (r, rs, p, u, k) = runs_first (below_of order) d area e others runs h in
      let t : RunTold (below_of order) d area e (next_headword others) r = run_told (below_of order) d area e (next_headword others) r u in
      let s : size_told d area e.block ≡ Ok r.size = size_of_run (below_of order) d area e (next_headword others) r u in
      let z : blocks ≡ r.size = cc in
      record {
        run = r;
        rest = rs;
        runs_are = p;
        size_is = z;
        bytes_are = t.bytes ∙ ap₂ (λ (a s : ℕ). bytes_at (256 * a) (256 * s) area) t.block (sym z);
        headword_is = t.headword;
        inside = omega (arith, t.inside, t.block);
        others_read = k;
      }

  -- a run that is read keeps row 7
  row_kept : (area : List ℕ) (d : ℕ) (e : Element) (others : List Element) (runs : List Run) → runs_from (below_of order) d area (e ∷ others) ≡ ok runs → IsOk (size_told d area e.block)
  row_kept area d e others runs h =
      let (r, rs, p, u, k) = runs_first (below_of order) d area e others runs h in
      rw (size_of_run (below_of order) d area e (next_headword others) r u)

  -- runs that are read have the bytes of their blocks
  pub runs_whole : (d : ℕ) (area : List ℕ) (es : List Element) (rs : List Run) → 256 * d ≤ length area → runs_from (below_of order) d area es ≡ ok rs → Whole rs
  runs_whole d area es rs long h = all_map (Holds (below_of order)) (λ r. length r.bytes ≡ 256 * r.size) (λ r k. k.whole) rs (runs_hold (below_of order) d area es rs long h)

module _ (width order extended : ℕ) where
  -- at the start all are
  pub underway_start : (es : List Element) (area image : List ℕ) (d front m : ℕ) → RunsFit width order extended es area d front m (length image)
      → Underway width order extended es area d front m image image es front 0
  unfolding Packing.runs_packed
  underway_start es area image d front m v =
      record {
        runs = v.runs;
        read = v.read;
        index_room =
            ap (λ (k : ℕ). front + k) (packed_same width 0 v.runs ∙ ap (λ (es : List Element). length (elements_bytes width es)) (runs_elements (below_of order) d area es v.runs v.read));
        area_room = omega (arith, v.area_room);
        whole = λ rs h. rw (same_value v.runs rs (sym v.read ∙ h));
      }

  module _ (area : List ℕ) (d : ℕ) (runs : List Run) (others : List Element) (from size : ℕ) (word : List ℕ) (w : RunHere order area d runs others from size word) (b : ℕ) where
    -- what it adds to the blocks of the runs,
    here_blocks : run_blocks runs ≡ size + run_blocks w.rest
    unfolding BlocksSpec.run_blocks
    here_blocks = ap run_blocks w.runs_are ∙ rw w.size_is

    -- to their elements,
    here_elements : packed_elements width b runs ≡ element_bytes width (record { block = b; headword = word }) ++ packed_elements width (b + size) w.rest
    here_elements = ap (packed_elements width b) w.runs_are ∙ packed_next width b w.run w.rest ∙ rw (w.headword_is, w.size_is)

    -- to the bytes of these,
    here_long : length (packed_elements width b runs) ≡ width + 1 + length word + length (packed_elements width (b + size) w.rest)
    here_long =
        let e : Element = record { block = b; headword = word } in
        omega (arith, ap length here_elements, length-append (element_bytes width e) (packed_elements width (b + size) w.rest), element_size width e)

    -- and to their own bytes
    here_bytes : runs_bytes runs ≡ bytes_at (256 * from) (256 * size) area ++ runs_bytes w.rest
    unfolding Packing.runs_bytes
    here_bytes = ap runs_bytes w.runs_are ∙ rw w.bytes_are

  module _ (all : List Element) (area : List ℕ) (d front m : ℕ) (image₀ image : List ℕ) (left : List Element) (out b : ℕ)
      (v : Underway width order extended all area d front m image₀ image left out b) where
    -- at the end none is: the code stands where all elements end
    pub underway_out : left ≡ [] → out ≡ front + length (elements_bytes width all)
    underway_out z =
        let e : v.runs ≡ [] = no_runs (below_of order) d area v.runs (sym (ap (runs_from (below_of order) d area) z) ∙ v.read) in
        omega (arith, v.index_room, ap (λ (rs : List Run). length (packed_elements width b rs)) e, ap length (packed_none width b))

    -- and what stands there now is the whole written
    pub underway_end : left ≡ [] → (rs : List Run) → runs_from (below_of order) d area all ≡ ok rs → image ≡ runs_packed width front (block_position extended m 0) rs image₀
    unfolding Packing.runs_bytes
    underway_end z rs h =
        let e : v.runs ≡ [] = no_runs (below_of order) d area v.runs (sym (ap (runs_from (below_of order) d area) z) ∙ v.read) in
        sym (ap (λ (qs : List Run). write out (packed_elements width b qs) (write (block_position extended m b) (runs_bytes qs) image)) e
        ∙ rw (packed_none width b) (write_none (write (block_position extended m b) [] image) out) ∙ write_none image (block_position extended m b))
        ∙ v.whole rs h

    module _ (e : Element) (others : List Element) (next : left ≡ e ∷ others) where
      -- the next element and those behind it are read
      read_here : runs_from (below_of order) d area (e ∷ others) ≡ ok v.runs
      read_here = sym (ap (runs_from (below_of order) d area) next) ∙ v.read

      -- so it keeps row 7
      pub underway_placed : IsOk (size_told d area e.block)
      underway_placed = row_kept order area d e others v.runs read_here

      module _ (blocks : ℕ) (is : size_told d area e.block ≡ Ok blocks) where
        -- the run here
        here : RunHere order area d v.runs others e.block blocks e.headword
        here = run_here order area d e others v.runs read_here blocks is

        -- it lies in the old area
        pub run_inside : e.block + blocks ≤ d
        run_inside = here.inside

        -- and fits where it goes
        pub run_fits : block_position extended m b + 256 * blocks ≤ length image
        run_fits = omega (arith, v.area_room, here_blocks _ _ _ _ _ _ _ here b)

        -- the element fits in front of the runs
        pub element_fits : out + width + 1 + length e.headword ≤ front + length (elements_bytes width all)
        element_fits = omega (arith, v.index_room, here_long _ _ _ _ _ _ _ here b)

        -- one run more
        pub underway_turn : 256 * d ≤ length area → (to : ℕ) → to ≡ block_position extended m b → (image₁ image₂ : List ℕ) (out₁ : ℕ)
            → front + length (elements_bytes width all) ≤ block_position extended m 0
            → image₁ ≡ write to (bytes_at (256 * e.block) (256 * blocks) area) image
            → image₂ ≡ write out (element_bytes width (record { block = b; headword = e.headword })) image₁
            → out₁ ≡ out + width + 1 + length e.headword
            → Underway width order extended all area d front m image₀ image₂ others out₁ (b + blocks)
        underway_turn long to e₀ image₁ image₂ out₁ front e₁ e₂ e₃ =
            let x : List ℕ = bytes_at (256 * e.block) (256 * blocks) area in
            let y : List ℕ = runs_bytes here.rest in
            let g : List ℕ = element_bytes width (record { block = b; headword = e.headword }) in
            let h : List ℕ = packed_elements width (b + blocks) here.rest in
            let l : length x ≡ 256 * blocks = length_bytes_at area (256 * e.block) (256 * blocks) (omega (arith, run_inside)) in
            let k : length y ≡ 256 * run_blocks here.rest = runs_bytes_length here.rest (runs_whole order d area others here.rest long here.others_read) in
            let n : length g ≡ width + 1 + length e.headword = element_size width (record { block = b; headword = e.headword }) in
            let sum : run_blocks v.runs ≡ blocks + run_blocks here.rest = here_blocks _ _ _ _ _ _ _ here b in
            let room : length (packed_elements width b v.runs) ≡ width + 1 + length e.headword + length h = here_long _ _ _ _ _ _ _ here b in
            let s : image₂ ≡ write out g (write (block_position extended m b) x image) = e₂ ∙ ap (write out g) (e₁ ∙ ap (λ (k : ℕ). write k x image) e₀) in
            let z₁ : length (write (block_position extended m b) x image) ≡ length image = length_write (block_position extended m b) x image (omega (arith, v.area_room)) in
            let z : length image₂ ≡ length image = ap length s ∙ length_write out g (write (block_position extended m b) x image) (omega (arith, v.index_room, v.area_room)) ∙ z₁ in
            record {
              runs = here.rest;
              read = here.others_read;
              index_room = omega (arith, v.index_room);
              area_room = omega (arith, v.area_room);
              whole = λ rs r.
                  ap (λ (q : List ℕ). write out₁ h (write (block_position extended m (b + blocks)) y q)) s
                  ∙ write_two image x y g h out (block_position extended m b) out₁ (block_position extended m (b + blocks)) (omega arith) (omega arith) (omega (arith, v.index_room))
                  (omega (arith, v.area_room))
                  ∙ ap₂ (λ (a c : List ℕ). write out a (write (block_position extended m b) c image)) (sym (here_elements _ _ _ _ _ _ _ here b)) (sym (here_bytes _ _ _ _ _ _ _ here b))
                  ∙ v.whole rs r;
            }
