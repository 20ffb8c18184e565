-- What code writes one after the other is the plan written over the slice.
use Prim.Native.Nat.{ℕ, ◌+◌, ◌-◌, ◌*◌, ◌≤◌}
use mathlib.Core.Path.{◌≡◌, refl, sym, ap, ap₂, subst, ◌∙◌}
use mathlib.Core.List.{List, [], ◌∷◌, ◌++◌, map, append_assoc, append-nil, map-append}
use native.Mathlib.Omega.{arith}
use lib.ListN.{length, take, drop, length-append, length-drop}
use lib.Seq.{take_at, drop_at, length-take-le, take-take, drop-length}
use Rattle.spec.specs.Bytes.{write, zeros}
use Rattle.spec.specs.Header.{Layout, Format, Lawful, Counts, changed_header, header_bytes, block_position}
use Rattle.spec.specs.Entry.{Entry}
use Rattle.spec.specs.Run.{Run, run_bytes}
use Rattle.spec.specs.Index.{Element, element_bytes, elements_bytes, index_bytes}
use Rattle.spec.specs.Blocks.{free_list_written}
use Rattle.spec.specs.Place.{at_block, new_run, element_of, runs_written}
use Rattle.spec.specs.Lists.{All}
use Rattle.spec.proofs.ListsLaws.{all_front}
use Rattle.header.proofs.Laws.{header_front}
use Rattle.spec.proofs.BytesLaws.{length_zeros}
use Rattle.spec.proofs.WriteLaws.{length_write, write_left, write_right, write_behind, write_none}
use Rattle.spec.specs.Sound.{Laid}
use Rattle.spec.proofs.LaidLaws.{laid_perm, laid_back, between_perm}
use Rattle.plan.specs.Written.{part_element, parts_written, part_runs, runs_put}
use Rattle.plan.proofs.RunsWritten.{runs_perm, runs_joined, put_written, length_runs}

-- elements of two lists
pub elements_joined : (width : ℕ) (es ds : List Element) → elements_bytes width (es ++ ds) ≡ elements_bytes width es ++ elements_bytes width ds
unfolding elements_bytes
elements_joined width [] ds = refl
elements_joined width (e ∷ es) ds = ap (λ l. element_bytes width e ++ l) (elements_joined width es ds) ∙ sym (append_assoc (element_bytes width e) (elements_bytes width es) (elements_bytes width ds))

-- ---- parts
-- the element, the bytes and the block of a part's run
part_element_is : (g b : ℕ) (p : List Entry) → element_of (at_block (b - g) (new_run p)) ≡ part_element (b - g) p
unfolding element_of at_block new_run part_element
part_element_is g b p = refl

part_bytes : (b : ℕ) (p : List Entry) → (at_block b (new_run p)).bytes ≡ run_bytes p
unfolding at_block new_run
part_bytes b p = refl

part_block : (b : ℕ) (p : List Entry) → (at_block b (new_run p)).block ≡ b
unfolding at_block
part_block b p = refl

-- a write behind a front, then one into it
front_back : (at i j : ℕ) (x r H A : List ℕ) → at + length x ≤ length H → i ≡ length H + j → write at x (write i r (H ++ A)) ≡ write at x H ++ write j r A
front_back at i j x r H A h e =
    let k : i - length H ≡ j = omega arith in
    rw (write_right i r H A (omega arith), k) (write_left at x H (write j r A) h)

-- parts written over a front and the blocks behind it: the elements go into the front, the runs behind it
pub parts_apart : (width extended index g at : ℕ) (bs : List ℕ) (ps : List (List Entry)) (H A : List ℕ) → length H ≡ block_position extended index g → All (λ b. g ≤ b) bs
    → at + length (elements_bytes width (map element_of (part_runs g bs ps))) ≤ length H
    → parts_written width extended index g at bs ps (H ++ A) ≡ write at (elements_bytes width (map element_of (part_runs g bs ps))) H ++ runs_put (part_runs g bs ps) A
unfolding parts_written part_runs runs_put elements_bytes
parts_apart width extended index g at [] ps H A l a r = ap (λ x. x ++ A) (sym (write_none H at))
parts_apart width extended index g at (b ∷ bs) [] H A l a r = ap (λ x. x ++ A) (sym (write_none H at))
parts_apart width extended index g at (b ∷ bs) (p ∷ ps) H A l (a, as') r =
    let x : List ℕ = element_bytes width (part_element (b - g) p) in
    let y : List ℕ = elements_bytes width (map element_of (part_runs g bs ps)) in
    let e : element_bytes width (element_of (at_block (b - g) (new_run p))) ≡ x = ap (element_bytes width) (part_element_is g b p) in
    let q : length (element_bytes width (element_of (at_block (b - g) (new_run p))) ++ y) ≡ length x + length y = ap (λ (z : List ℕ). length (z ++ y)) e ∙ length-append x y in
    let t : at + (length x + length y) ≤ length H = omega (arith, r, q) in
    let m : length (write at x H) ≡ length H = length_write at x H (omega arith) in
    ap (parts_written width extended index g (at + length x) bs ps) (front_back at (block_position extended index b) (256 * (b - g)) x (run_bytes p) H A (omega arith) (omega arith))
    ∙ parts_apart width extended index g (at + length x) bs ps (write at x H) (write (256 * (b - g)) (run_bytes p) A) (m ∙ l) as' (omega arith)
    ∙ ap₂ (λ (u v : List ℕ). u ++ v) (write_behind H x y at (omega arith) ∙ ap (λ (z : List ℕ). write at (z ++ y) H) (sym e))
    (ap₂ (λ (k : ℕ) (z : List ℕ). runs_put (part_runs g bs ps) (write (256 * k) z A)) (sym (part_block (b - g) p)) (sym (part_bytes (b - g) p)))

-- ---- the front: header and index
-- bytes written up to the end
write_to_end : (at : ℕ) (X H : List ℕ) → length H ≡ at + length X → write at X H ≡ take at H ++ X
unfolding write
write_to_end at X H e = ap (λ (k : ℕ). take at H ++ X ++ drop k H) (sym e) ∙ ap (λ (y : List ℕ). take at H ++ X ++ y) (drop-length H) ∙ append-nil (take at H ++ X)

-- bytes one behind the other up to the end
pub front_written : (H B P A Z : List ℕ) (at : ℕ) → length H ≡ at + (length B + length P + length A + length Z)
    → write (at + length B + length P + length A) Z (write (at + length B + length P) A (write (at + length B) P (write at B H))) ≡ take at H ++ (B ++ P ++ A ++ Z)
front_written H B P A Z at l =
    let e₁ : length (B ++ P) ≡ length B + length P = length-append B P in
    let e₂ : length (B ++ P ++ A) ≡ length B + length P + length A = length-append (B ++ P) A ∙ ap (λ (k : ℕ). k + length A) e₁ in
    let e₃ : length (B ++ P ++ A ++ Z) ≡ length B + length P + length A + length Z = length-append (B ++ P ++ A) Z ∙ ap (λ (k : ℕ). k + length Z) e₂ in
    let p₁ : at + length B + length P ≡ at + length (B ++ P) = omega arith in
    let p₂ : at + length B + length P + length A ≡ at + length (B ++ P ++ A) = omega arith in
    ap (λ (x : List ℕ). write (at + length B + length P + length A) Z (write (at + length B + length P) A x)) (write_behind H B P at (omega arith))
    ∙ ap (λ (k : ℕ). write (at + length B + length P + length A) Z (write k A (write at (B ++ P) H))) p₁
    ∙ ap (write (at + length B + length P + length A) Z) (write_behind H (B ++ P) A at (omega arith))
    ∙ ap (λ (k : ℕ). write k Z (write at (B ++ P ++ A) H)) p₂
    ∙ write_behind H (B ++ P ++ A) Z at (omega arith)
    ∙ write_to_end at (B ++ P ++ A ++ Z) H (omega arith)

-- ---- the blocks: the parts' runs beside the others
-- of runs that lie apart the first ones do
pub laid_front : (D : ℕ) (x y : List Run) → Laid D (x ++ y) → Laid D x
laid_front D [] y l = tt
laid_front D (r ∷ x) y (e, i, a, l) = (e, i, all_front _ x y a, laid_front D x y l)

-- runs put beside others that are written is all runs written
pub beside_written : (D : ℕ) (mb q ma : List Run) (area : List ℕ) → Laid D (mb ++ q ++ ma) → 256 * D ≤ length area
    → runs_put q (runs_written (mb ++ ma) area) ≡ runs_written (mb ++ q ++ ma) area
beside_written D mb q ma area l h =
    let e : mb ++ q ++ ma ≡ mb ++ (q ++ ma) = append_assoc mb q ma in
    let k : Laid D (mb ++ (q ++ ma)) = subst (Laid D) e l in
    let m : Laid D (q ++ (mb ++ ma)) = laid_perm D (between_perm mb q ma) k in
    put_written D q (runs_written (mb ++ ma) area) (laid_front D q (mb ++ ma) m) (omega (arith, length_runs D (mb ++ ma) area (laid_back D q (mb ++ ma) m) h))
    ∙ sym (runs_joined q (mb ++ ma) area)
    ∙ sym (runs_perm D (between_perm mb q ma) k area h)
    ∙ ap (λ (x : List Run). runs_written x area) (sym e)

-- ---- the whole image
-- the elements of all runs
elements_parts : (width : ℕ) (mb q ma : List Run) → elements_bytes width (map element_of (mb ++ q ++ ma))
    ≡ elements_bytes width (map element_of mb) ++ elements_bytes width (map element_of q) ++ elements_bytes width (map element_of ma)
elements_parts width mb q ma =
    rw (
      map-append element_of (mb ++ q) ma,
      map-append element_of mb q,
      elements_joined width (map element_of mb ++ map element_of q) (map element_of ma),
      elements_joined width (map element_of mb) (map element_of q),
    )

-- and how many bytes they take
pub elements_sum : (width : ℕ) (mb q ma : List Run)
    → length (elements_bytes width (map element_of (mb ++ q ++ ma))) ≡ length (elements_bytes width (map element_of mb)) + length
    (elements_bytes width (map element_of q)) + length (elements_bytes width (map element_of ma))
elements_sum width mb q ma =
    let B : List ℕ = elements_bytes width (map element_of mb) in
    let P : List ℕ = elements_bytes width (map element_of q) in
    let A : List ℕ = elements_bytes width (map element_of ma) in
    ap length (elements_parts width mb q ma) ∙ length-append (B ++ P) A ∙ ap (λ (k : ℕ). k + length A) (length-append B P)

module _ (F : Format) (s : List ℕ) (n g D : ℕ) (mb ma : List Run) (bs : List ℕ) (parts : List (List Entry)) where
  abbrev width : ℕ
  width = F.number_width

  abbrev header : ℕ
  header = header_bytes F

  abbrev q : List Run
  q = part_runs g bs parts

  abbrev all : List Run
  all = mb ++ q ++ ma

  abbrev B : List ℕ
  B = elements_bytes width (map element_of mb)

  abbrev P : List ℕ
  P = elements_bytes width (map element_of q)

  abbrev A : List ℕ
  A = elements_bytes width (map element_of ma)

  -- header and index take so many bytes
  abbrev front : ℕ
  front = block_position F.extended n g

  abbrev end : ℕ
  end = header + length B + length P + length A

  abbrev Z : List ℕ
  Z = zeros (front - end)

  -- the blocks before the free list is written
  abbrev blocks : List ℕ
  blocks = runs_written all (drop front s)

  module _ (fits : front + 256 * D ≤ length s) (laid : Laid D all) (above : All (λ b. g ≤ b) bs) (short : end ≤ front) where
    H : List ℕ
    H = take front s

    h : length H ≡ front
    unfolding H
    h = length-take-le front s (omega arith)

    -- the index
    X : List ℕ
    X = B ++ P ++ A ++ Z

    x : length X ≡ 256 * (n + g)
    unfolding X
    x = omega (arith, length-append (B ++ P ++ A) Z, length-append (B ++ P) A, length-append B P, length_zeros (front - end))

    index_is : index_bytes width (n + g) (map element_of all) ≡ X
    unfolding X index_bytes
    index_is =
        let l : length (B ++ P ++ A) ≡ length B + length P + length A = length-append (B ++ P) A ∙ ap (λ (k : ℕ). k + length A) (length-append B P) in
        let k : 256 * (n + g) - length (B ++ P ++ A) ≡ front - end = omega arith in
        ap (λ (y : List ℕ). y ++ zeros (256 * (n + g) - length y)) (elements_parts width mb q ma) ∙ ap (λ (k : ℕ). (B ++ P ++ A) ++ zeros k) k

    -- header and index are written apart from the blocks
    pub sides : (s₁ s₂ s₃ s₄ s₅ : List ℕ)
        → s₁ ≡ take front s ++ runs_written (mb ++ ma) (drop front s)
        → s₂ ≡ write header B s₁
        → s₃ ≡ parts_written width F.extended n g (header + length B) bs parts s₂
        → s₄ ≡ write (header + length B + length P) A s₃
        → s₅ ≡ write end Z s₄
        → s₅ ≡ take header s ++ index_bytes width (n + g) (map element_of all) ++ blocks
    unfolding X H
    sides s₁ s₂ s₃ s₄ s₅ e₁ e₂ e₃ e₄ e₅ =
        let Y : List ℕ = runs_written (mb ++ ma) (drop front s) in
        let l₁ : length (write header B H) ≡ length H = length_write header B H (omega (arith, h)) in
        let l₂ : length (write (header + length B) P (write header B H)) ≡ length H = length_write (header + length B) P (write header B H) (omega (arith, h, l₁)) ∙ l₁ in
        let l₃ : length (write (header + length B + length P) A (write (header + length B) P (write header B H))) ≡ length H
        = length_write (header + length B + length P) A (write (header + length B) P (write header B H)) (omega (arith, h, l₂)) ∙ l₂ in
        let d₂ : s₂ ≡ write header B H ++ Y = e₂ ∙ ap (write header B) e₁ ∙ write_left header B H Y (omega (arith, h)) in
        let d₃ : s₃ ≡ write (header + length B) P (write header B H) ++ runs_put q Y
        = e₃ ∙ ap (parts_written width F.extended n g (header + length B) bs parts) d₂
        ∙ parts_apart width F.extended n g (header + length B) bs parts (write header B H) Y (l₁ ∙ h) above (omega (arith, h, l₁)) in
        let d₄ : s₄ ≡ write (header + length B + length P) A (write (header + length B) P (write header B H)) ++ runs_put q Y
        = e₄ ∙ ap (write (header + length B + length P) A) d₃ ∙ write_left (header + length B + length P) A (write (header + length B) P (write header B H)) (runs_put q Y) (omega (arith, h, l₂)) in
        let w : take header H ≡ take header s = take-take header front s (omega arith) in
        e₅ ∙ ap (write end Z) d₄ ∙ write_left end Z _ (runs_put q Y) (omega (arith, h, l₃, length_zeros (front - end)))
        ∙ ap₂ (λ (u v : List ℕ). u ++ v) (front_written H B P A Z header (omega (arith, h, length_zeros (front - end))))
        (beside_written D mb q ma (drop front s) laid (omega (arith, length-drop front s)))
        ∙ ap₂ (λ (u v : List ℕ). u ++ v ++ blocks) w (sym index_is)

-- the free list and the header written last
pub sealed : (F : Format) → Lawful F → (s s₅ s₆ s₇ I blocks bs : List ℕ) (front : ℕ) (counts : Counts) → header_bytes F ≤ length s → length I + header_bytes F ≡ front
    → s₅ ≡ take (header_bytes F) s ++ I ++ blocks
    → s₆ ≡ take front s₅ ++ free_list_written bs (drop front s₅)
    → s₇ ≡ changed_header F.layout counts s₆
    → s₇ ≡ changed_header F.layout counts (take (header_bytes F) s) ++ I ++ free_list_written bs blocks
sealed F law s s₅ s₆ s₇ I blocks bs front counts h l d e₆ e₇ =
    let header : ℕ = header_bytes F in
    let o : Layout = F.layout in
    let K : List ℕ = take header s in
    let L : List ℕ = free_list_written bs blocks in
    let k : length K ≡ header = length-take-le header s h in
    let c : length (K ++ I) ≡ front = omega (arith, length-append K I) in
    let t : take front s₅ ≡ K ++ I = ap (take front) d ∙ take_at (K ++ I) blocks front c in
    let u : drop front s₅ ≡ blocks = ap (drop front) d ∙ drop_at (K ++ I) blocks front c in
    let v : s₆ ≡ K ++ (I ++ L) = e₆ ∙ ap₂ (λ (y z : List ℕ). y ++ free_list_written bs z) t u ∙ append_assoc K I L in
    e₇ ∙ ap (changed_header o counts) v
    ∙ header_front o law.layout_lawful counts (K ++ (I ++ L)) header (omega arith) (omega (arith, length-append K (I ++ L)))
    ∙ ap₂ (λ (y z : List ℕ). changed_header o counts y ++ z) (take_at K (I ++ L) header k) (drop_at K (I ++ L) header k)
    ∙ sym (append_assoc (changed_header o counts K) I L)
