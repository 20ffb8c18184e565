-- Laws of the numbers of marked blocks, for the crates above, and of the free list that is written by them.
use Prim.Native.Nat.{ℕ, zero, suc, ◌+◌, ◌-◌, ◌*◌, ◌<◌, ◌≤◌}
use mathlib.Core.Path.{◌≡◌, refl, sym, ap, ap₂, ◌∙◌}
use mathlib.Core.Bool.{Bool, true, false}
use mathlib.Core.List.{List, [], ◌∷◌, ◌++◌, map}
use native.Mathlib.Omega.{arith}
use native.Mathlib.Nat.{add-zero}
use native.Mathlib.Decide.{dec_lt}
use lib.ListN.{length, get_or, take, drop, length-drop, drop_of_length-le, take-append-drop}
use lib.Seq.{take_at, drop_at, length-take-le, drop-cons, drop-drop}
use borrow.Author.Rules.{rules}
use borrow.Author.Tests.{lt-ltb, le-ltb}
use Rattle.spec.specs.Lists.{filter, range_from}
use Rattle.spec.specs.Bytes.{to_little_endian, write}
use Rattle.spec.specs.Header.{block_position}
use Rattle.spec.specs.Blocks.{free_list_end, free_list_start, link_bytes, free_list_written}
use Rattle.spec.proofs.ListsLaws.{filter_yes, filter_no}
use Rattle.spec.proofs.WriteLaws.{length_write, write_swap, write_behind}
use Rattle.spec.proofs.FreeListLaws.{Ascending, ascending_lower, length_link}
use Rattle.header.proofs.PositionLaws.{write_block}
use Rattle.marks.specs.Marks.{marks, gap, next}
use Rattle.marks.proofs.Laws.{length_marks, drop_take}
use Rattle.chain.specs.Numbers.{numbers, link_to}

-- ---- the numbers of marked blocks
-- of marks that a test gives, those for which it holds
pub numbers_filter : (f : ℕ → Bool) (i n : ℕ) → numbers i (map f (range_from i n)) ≡ filter f (range_from i n)
unfolding numbers range_from filter
numbers_filter f i zero = refl
numbers_filter f i (suc n) = go (numbers_filter f (suc i) n) (f i) refl
  where
    go : numbers (suc i) (map f (range_from (suc i) n)) ≡ filter f (range_from (suc i) n) → (t : Bool) → f i ≡ t → numbers i (f i ∷ map f (range_from (suc i) n)) ≡ filter f (i ∷ range_from (suc i) n)
    go ih true e = rw (e, filter_yes f i (range_from (suc i) n) e, ih)
    go ih false e = rw (e, filter_no f i (range_from (suc i) n) e, ih)

-- they ascend, from the first mark's number up
pub numbers_ascending : (D i : ℕ) (ms : List Bool) → i + length ms ≤ D → Ascending i D (numbers i ms)
unfolding numbers
numbers_ascending D i [] h = tt
numbers_ascending D i (true ∷ ms) h = (omega arith, omega arith, numbers_ascending D (suc i) ms (omega arith))
numbers_ascending D i (false ∷ ms) h = ascending_lower i (suc i) D (numbers (suc i) ms) (omega arith) (numbers_ascending D (suc i) ms (omega arith))

-- ---- the next mark that is set
-- none stands before it
numbers_skip : (i : ℕ) (ms : List Bool) → numbers i ms ≡ numbers (i + gap true ms) (drop (gap true ms) ms)
unfolding numbers gap
numbers_skip i [] = refl
numbers_skip i (true ∷ ms) = ap (λ (k : ℕ). numbers k (true ∷ ms)) (sym (add-zero i))
numbers_skip i (false ∷ ms) =
    let e : suc i + gap true ms ≡ i + suc (gap true ms) = omega arith in
    numbers_skip (suc i) ms ∙ ap (λ (k : ℕ). numbers k (drop (gap true ms) ms)) e

-- the numbers from p on, lowered by g, are those from the next mark on
numbers_next : (fl : List Bool) (g p : ℕ) → g ≤ p → numbers (p - g) (drop p fl) ≡ numbers (next true fl p - g) (drop (next true fl p) fl)
unfolding next
numbers_next fl g p h =
    let e : p - g + gap true (drop p fl) ≡ p + gap true (drop p fl) - g = omega arith in
    numbers_skip (p - g) (drop p fl) ∙ ap₂ (λ (k : ℕ) (l : List Bool). numbers k l) e (drop-drop (gap true (drop p fl)) p fl)

-- at the first mark that is set there is none to be passed
gap_gap : (ms : List Bool) → gap true (drop (gap true ms) ms) ≡ 0
unfolding gap
gap_gap [] = refl
gap_gap (true ∷ ms) = refl
gap_gap (false ∷ ms) = gap_gap ms

-- the mark found is set, or it is the end
pub gap_next : (fl : List Bool) (p b : ℕ) → b ≡ next true fl p → gap true (drop b fl) ≡ 0
unfolding next
gap_next fl p b e = rw e (ap (gap true) (sym (drop-drop (gap true (drop p fl)) p fl)) ∙ gap_gap (drop p fl))

-- at a mark that is set
numbers_here : (i : ℕ) (m : Bool) (ms : List Bool) → gap true (m ∷ ms) ≡ 0 → numbers i (m ∷ ms) ≡ i ∷ numbers (suc i) ms
unfolding numbers gap
numbers_here i true ms e = refl
numbers_here i false ms e = absurd (omega arith)

-- the same in the marks of all blocks, lowered by g
numbers_at : (fl : List Bool) (g b : ℕ) → g ≤ b → b < length fl → gap true (drop b fl) ≡ 0 → numbers (b - g) (drop b fl) ≡ (b - g) ∷ numbers (b + 1 - g) (drop (b + 1) fl)
numbers_at fl g b k h e =
    let s : suc b ≡ b + 1 = omega arith in
    let t : suc (b - g) ≡ b + 1 - g = omega arith in
    rw (← s, drop-cons fl b false h) (numbers_here (b - g) (get_or fl b false) (drop (suc b) fl) (rw (drop-cons fl b false h) at e) ∙ rw (t, s))

-- at the end there is no number
numbers_none : (fl : List Bool) (i b : ℕ) → length fl ≤ b → numbers i (drop b fl) ≡ []
unfolding numbers
numbers_none fl i b h = rw (drop_of_length-le fl h)

-- ---- link
-- a block below d
pub link_below : (b g d : ℕ) → b < d → b - g ≡ link_to b g d
unfolding link_to
link_below b g d h = rw (lt-ltb b d h, link_to)

-- the end of the list
pub link_end : (b g d : ℕ) → d ≤ b → 0xFFFFFFFF ≡ link_to b g d
unfolding link_to free_list_end
link_end b g d h = rw (le-ltb b d h, link_to)

-- the first number from a mark on, by the test of the code
start_at : (fl : List Bool) (g b d : ℕ) → length fl ≡ d → g ≤ b → gap true (drop b fl) ≡ 0 → free_list_start (numbers (b - g) (drop b fl)) ≡ link_to b g d
unfolding free_list_start free_list_end
start_at fl g b d l h e = go (dec_lt b d)
  where
    go : Dec (b < d) → free_list_start (numbers (b - g) (drop b fl)) ≡ link_to b g d
    go (yes p) = rw (numbers_at fl g b h (omega arith) e) (link_below b g d p)
    go (no p) = rw (numbers_none fl (b - g) b (omega arith)) (link_end b g d (omega arith))

-- ---- a link
-- two zero bytes and the next number are a link
link_put : (d d₁ d₂ : List ℕ) (at v : ℕ) → d₁ ≡ write at (to_little_endian 2 0) d → d₂ ≡ write (at + 2) (to_little_endian 4 v) d₁ → at + 6 ≤ length d → d₂ ≡ write at (link_bytes v) d
unfolding link_bytes to_little_endian
link_put d d₁ d₂ at v e₁ e₂ h = e₂ ∙ rw e₁ (write_behind d (0 ∷ 0 ∷ []) (to_little_endian 4 v) at (omega arith))

-- ---- the free list as it is written
-- a block and those behind it
written_cons : (b : ℕ) (bs area : List ℕ) → free_list_written (b ∷ bs) area ≡ write (256 * b) (link_bytes (free_list_start bs)) (free_list_written bs area)
unfolding free_list_written
written_cons b bs area = refl

-- it leaves the length
pub length_written : (D i : ℕ) (bs area : List ℕ) → Ascending i D bs → 256 * D ≤ length area → length (free_list_written bs area) ≡ length area
unfolding free_list_written
length_written D i [] area up h = refl
length_written D i (b ∷ bs) area (p, q, up) h =
    length_write (256 * b) (link_bytes (free_list_start bs)) (free_list_written bs area) (omega (arith, length_link (free_list_start bs), length_written D (suc b) bs area up h))
    ∙ length_written D (suc b) bs area up h

-- a link of a lower block may be written first or last
written_swap : (D i b v : ℕ) (bs area : List ℕ) → Ascending i D bs → b < i → 256 * D ≤ length area
    → write (256 * b) (link_bytes v) (free_list_written bs area) ≡ free_list_written bs (write (256 * b) (link_bytes v) area)
unfolding free_list_written
written_swap D i b v [] area up h k = refl
written_swap D i b v (c ∷ bs) area (p, q, up) h k =
    let x : List ℕ = link_bytes (free_list_start bs) in
    write_swap (free_list_written bs area) (link_bytes v) x (256 * b) (256 * c) (omega (arith, length_link v)) (omega (arith, length_link (free_list_start bs), length_written D (suc c) bs area up k))
    ∙ ap (write (256 * c) x) (written_swap D (suc c) b v bs area up (omega arith) k)

-- ---- the loop: what is left, written over what stands there now, is the whole list written
-- the marks of g to d - 1, from the first that is set on
whole : (ws : List ℕ) (g d first : ℕ) → first ≡ next true (take d (marks ws)) g → numbers 0 (take (d - g) (drop g (marks ws))) ≡ numbers (first - g) (drop first (take d (marks ws)))
whole ws g d first e =
    let z : g - g ≡ 0 = omega arith in
    ap (numbers 0) (sym (drop_take g d (marks ws))) ∙ ap (λ (k : ℕ). numbers k (drop g (take d (marks ws)))) (sym z) ∙ rw e (numbers_next (take d (marks ws)) g g (omega arith))

-- there are d marks
marks_few : (ws : List ℕ) (d : ℕ) → d ≤ 64 * length ws → length (take d (marks ws)) ≡ d
marks_few ws d h = length-take-le d (marks ws) (omega (arith, length_marks ws))

-- the numbers of the list from block b on
abbrev pub numbers_left : List ℕ → ℕ → ℕ → ℕ → List ℕ
numbers_left ws g d b = numbers (b - g) (drop b (take d (marks ws)))

-- the first number of the list
pub chain_first : (ws : List ℕ) (g d first v : ℕ) → first ≡ next true (take d (marks ws)) g → v ≡ link_to first g d → d ≤ 64 * length ws → g ≤ first
    → v ≡ free_list_start (numbers 0 (take (d - g) (drop g (marks ws))))
chain_first ws g d first v e f h k =
    f ∙ sym (ap free_list_start (whole ws g d first e) ∙ start_at (take d (marks ws)) g first d (marks_few ws d h) k (gap_next (take d (marks ws)) g first e))

-- the link of block b is written in the data area, and what is left starts at the next mark
link_turn : (ws area : List ℕ) (g d b b' v : ℕ) → gap true (drop b (take d (marks ws))) ≡ 0 → b' ≡ next true (take d (marks ws)) (b + 1) → v ≡ link_to b' g d
    → d ≤ 64 * length ws → 256 * (d - g) ≤ length area → g ≤ b → b < d → b + 1 ≤ b'
    → free_list_written (numbers_left ws g d b') (write (256 * (b - g)) (link_bytes v) area) ≡ free_list_written (numbers_left ws g d b) area
link_turn ws area g d b b' v set n ev few room low high up =
    let fl : List Bool = take d (marks ws) in
    let rest : List ℕ = numbers (b + 1 - g) (drop (b + 1) fl) in
    let l : length fl ≡ d = marks_few ws d few in
    let same : rest ≡ numbers_left ws g d b' = rw n (numbers_next fl g (b + 1) (omega arith)) in
    let f : free_list_start rest ≡ v = ap free_list_start same ∙ start_at fl g b' d l (omega arith) (gap_next fl (b + 1) b' n) ∙ sym ev in
    let asc : Ascending (b + 1 - g) (d - g) rest = numbers_ascending (d - g) (b + 1 - g) (drop (b + 1) fl) (omega (arith, length-drop (b + 1) fl)) in
    rw (← same)
    (sym (written_swap (d - g) (b + 1 - g) (b - g) v rest area asc (omega arith) room)
    ∙ sym (ap (λ (l : List ℕ). free_list_written l area) (numbers_at fl g b low (omega arith) set) ∙ written_cons (b - g) rest area
    ∙ ap (λ (k : ℕ). write (256 * (b - g)) (link_bytes k) (free_list_written rest area)) f))

module _ (extended index : ℕ) where
  -- where the data area of the image starts
  abbrev start : ℕ
  start = block_position extended index 0

  -- a list written into the data area of the image
  abbrev pub image_written : List ℕ → List ℕ → List ℕ
  image_written bs image = take start image ++ free_list_written bs (drop start image)

  -- at first all is left
  pub chain_start : (ws image : List ℕ) (g d first : ℕ) → first ≡ next true (take d (marks ws)) g
      → image_written (numbers_left ws g d first) image ≡ image_written (numbers 0 (take (d - g) (drop g (marks ws)))) image
  chain_start ws image g d first e = ap (λ (l : List ℕ). image_written l image) (sym (whole ws g d first e))

  -- the link of block b is written at its position, and what is left starts at the next mark
  pub chain_turn : (ws image image₁ image₂ r : List ℕ) (g d b b' at v : ℕ) → image_written (numbers_left ws g d b) image ≡ r
      → gap true (drop b (take d (marks ws))) ≡ 0 → b' ≡ next true (take d (marks ws)) (b + 1) → at ≡ block_position extended index (b - g) → v ≡ link_to b' g d
      → image₁ ≡ write at (to_little_endian 2 0) image → image₂ ≡ write (at + 2) (to_little_endian 4 v) image₁
      → d ≤ 64 * length ws → block_position extended index (d - g) ≤ length image → g ≤ b → b < d → b + 1 ≤ b'
      → image_written (numbers_left ws g d b') image₂ ≡ r
  chain_turn ws image image₁ image₂ r g d b b' at v inv set n p ev e₁ e₂ few room low high up =
      let area : List ℕ = drop start image in
      let area₂ : List ℕ = write (256 * (b - g)) (link_bytes v) area in
      let l : length (take start image) ≡ start = length-take-le start image (omega arith) in
      let w : image₂ ≡ take start image ++ area₂
      = link_put image image₁ image₂ at v e₁ e₂ (omega arith) ∙ write_block extended index (link_bytes v) image (b - g) at p (omega arith) in
      let turn : free_list_written (numbers_left ws g d b') area₂ ≡ free_list_written (numbers_left ws g d b) area
      = link_turn ws area g d b b' v set n ev few (omega (arith, length-drop start image)) low high up in
      rw (w, take_at (take start image) area₂ start l, drop_at (take start image) area₂ start l, turn) inv

  -- at the end nothing is left
  pub chain_end : (ws image r : List ℕ) (g d b : ℕ) → image_written (numbers_left ws g d b) image ≡ r → d ≤ 64 * length ws → d ≤ b → image ≡ r
  unfolding free_list_written
  chain_end ws image r g d b inv few h =
      sym (take-append-drop start image) ∙ rw (numbers_none (take d (marks ws)) (b - g) b (omega (arith, marks_few ws d few))) at inv

-- every need of write_free_list, but its turn
pub ruleset chain_laws = (gap_next, chain_start, chain_first, chain_end, rules)
