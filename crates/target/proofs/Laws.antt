-- Laws of the run concerned: where its element stands, that its run is the one of the specification, and how many blocks the other runs take.
use Prim.Native.Nat.{ℕ, zero, suc, ◌+◌, ◌-◌, ◌*◌, ◌≤◌}
use mathlib.Core.Path.{◌≡◌, refl, sym, ap, ap₂, ◌∙◌}
use mathlib.Core.Logic.{◌⊎◌, inl, inr, ⊎_elim}
use mathlib.Core.Bool.{Bool, true, false, not, true≢false}
use mathlib.Core.List.{List, [], ◌∷◌, ◌++◌, map, cons-ne-nil}
use mathlib.Core.Option.{Option, none, some}
use native.Mathlib.Omega.{arith}
use lib.ListN.{length, drop, length-map}
use lib.Seq.{drop-drop}
use lib.Dec.{eqb}
use borrow.Author.Tests.{eq-eqb, ne_eqb, eqb-false}
use Rattle.spec.specs.Outcome.{ok}
use Rattle.spec.specs.Lists as Lists
use Rattle.spec.specs.Lists.{split_last, All}
use Rattle.spec.specs.Bytes as Bytes
use Rattle.spec.specs.Bytes.{from_little_endian, bytes_at}
use Rattle.spec.specs.Order.{IsOrder, below_of, HeadwordOrder}
use Rattle.spec.specs.Entry.{Entry}
use Rattle.spec.specs.Run.{Run, entries_from}
use Rattle.spec.specs.Index.{Element, elements_bytes}
use Rattle.spec.specs.Blocks.{run_blocks}
use Rattle.spec.specs.Check.{ends_below, run_from, runs_from, next_headword}
use Rattle.spec.specs.Place as Place
use Rattle.spec.specs.Place.{target_run, element_of}
use Rattle.spec.proofs.ListsLaws.{all_map, all_back, clash}
use Rattle.spec.proofs.OrderLaws.{order_of}
use Rattle.spec.specs.Sound.{EntriesOk}
use Rattle.spec.proofs.ReadLaws.{RunTold, RunsAscend, ascend_back, run_told, no_runs, runs_first, runs_elements, runs_ascend}
use Rattle.marks.proofs.Laws.{drop_take}
use Rattle.index.specs.Elements as Elements
use Rattle.index.specs.Elements.{element_end, element_headword, element_at, elements_at, elements_end, Inside, concerned_from}
use Rattle.index.specs.declared.Place as IndexPlace
use Rattle.index.proofs.Laws.{element_end_past, inside_end, inside_next, elements_next, elements_count, end_turn, concerned_rule, concerned_stops}
use Rattle.elements.proofs.Laws.{elements_length, elements_split, inside_split, ends_split}
use Rattle.runs.specs.Size.{size_told}
use Rattle.std.specs.Prelude.{Ok, Err}
use Rattle.spec.specs.declared.Refusal.{Refusal}
use Rattle.runs.proofs.SizeLaws.{size_of_run}
use Rattle.target.specs.Told.{entries_start, entries_part, no_target, NoRun, OneRun, TargetTold}
use Rattle.target.specs.declared.Target.{Target}

-- ---- entries_start
-- with no run, where the run would start
pub start_none : (b size : ℕ) → size ≡ 0 → 256 * b ≡ entries_start b size
unfolding entries_start
start_none b size z = rw (eq-eqb size 0 z, entries_start)

-- behind the count
pub start_some : (b size : ℕ) → (size ≡ 0 → ⊥) → 256 * b + 2 ≡ entries_start b size
unfolding entries_start
start_some b size z = rw (ne_eqb size 0 z, entries_start)

-- not before the run
pub start_least : (b size : ℕ) → 256 * b ≤ entries_start b size
unfolding entries_start
start_least b size = go (eqb size 0)
  where
    go : (t : Bool) → 256 * b ≤ (elim t [ true ↦ 256 * b | false ↦ 256 * b + 2 ])
    go true = omega arith
    go false = omega arith

-- nor behind its end
pub start_most : (b size : ℕ) → entries_start b size ≤ 256 * (b + size)
unfolding entries_start
start_most b size = go (eqb size 0) refl
  where
    go : (t : Bool) → eqb size 0 ≡ t → (elim t [ true ↦ 256 * b | false ↦ 256 * b + 2 ]) ≤ 256 * (b + size)
    go true e = omega arith
    go false e = let z = eqb-false size 0 e in omega (arith, z)

-- ---- runs and their elements
-- a run that was read by its own element
pub record Known (below : HeadwordOrder) (D : ℕ) (area : List ℕ) (r : Run) : Type 0 where
  pub next : Option (List ℕ)
  pub read : run_from below D area (element_of r) next ≡ ok r

module _ (below : HeadwordOrder) (D : ℕ) (area : List ℕ) where
  -- so are all runs that were read
  pub runs_known : (es : List Element) (rs : List Run) → runs_from below D area es ≡ ok rs → All (Known below D area) rs
  unfolding element_of
  runs_known [] rs h = rw (no_runs below D area rs h) tt
  runs_known (e ∷ es) rs h =
      let (r, qs, p, u, k) = runs_first below D area e es rs h in
      let t = run_told below D area e (next_headword es) r u in
      let m : element_of r ≡ e = rw (t.block, t.headword) in
      rw p (record { next = next_headword es; read = rw m u }, runs_known es qs k)

-- lists that are the same have the same first element
same_first : {A : Type 0} (a b : A) (l m : List A) → ◌≡◌ {A = List A} (a ∷ l) (b ∷ m) → a ≡ b
same_first a b l m h = cc

-- and the same others
same_others : {A : Type 0} (a b : A) (l m : List A) → ◌≡◌ {A = List A} (a ∷ l) (b ∷ m) → l ≡ m
same_others a b l m h = cc

-- runs taken apart where their elements are
record Parted (rs : List Run) (x : List Element) (e : Element) (y : List Element) : Type 0 where
  before : List Run
  run : Run
  after : List Run
  split : rs ≡ before ++ run ∷ after
  before_is : map element_of before ≡ x
  run_is : element_of run ≡ e
  after_is : map element_of after ≡ y

-- they can be
parted : (rs : List Run) (x : List Element) (e : Element) (y : List Element) → map element_of rs ≡ x ++ e ∷ y → Parted rs x e y
parted [] [] e y h = absurd (cons-ne-nil e y (sym h))
parted [] (a ∷ x) e y h = absurd (cons-ne-nil a (x ++ e ∷ y) (sym h))
parted (r ∷ rs) [] e y h =
    record {
      before = [];
      run = r;
      after = rs;
      split = refl;
      before_is = refl;
      run_is = same_first (element_of r) e (map element_of rs) y h;
      after_is = same_others (element_of r) e (map element_of rs) y h;
    }
parted (r ∷ rs) (a ∷ x) e y h =
    let i = parted rs x e y (same_others (element_of r) a (map element_of rs) (x ++ e ∷ y) h) in
    record {
      before = r ∷ i.before;
      run = i.run;
      after = i.after;
      split = ap (λ (l : List Run). r ∷ l) i.split;
      before_is = ap₂ (λ (b : Element) (l : List Element). b ∷ l) (same_first (element_of r) a (map element_of rs) (x ++ e ∷ y) h) i.before_is;
      run_is = i.run_is;
      after_is = i.after_is;
    }

-- ---- the run concerned among runs
module _ {A : Type 0} (f : A → Bool) where
  -- where a test holds for none, a list is not taken apart
  last_none : (l : List A) → All (λ a. f a ≡ false) l → split_last f l ≡ none
  unfolding split_last Lists.later_or_here
  last_none [] p = refl
  last_none (a ∷ l) (p, q) = rw (last_none l q, p)

  -- it is at the element for which the test holds and behind which it holds for none
  last_here : (x : List A) (a : A) (y : List A) → f a ≡ true → All (λ b. f b ≡ false) y → split_last f (x ++ a ∷ y) ≡ some (record { before = x; element = a; after = y })
  unfolding split_last Lists.later_or_here Lists.split_later Lists.split_first
  last_here [] a y p q = rw (last_none y q, p)
  last_here (b ∷ x) a y p q = rw (last_here x a y p q)

module _ (below : HeadwordOrder) (h : List ℕ) where
  -- the run concerned by its place: behind it all start above the headword, and it does not, or is the first
  target_at : (x : List Run) (r : Run) (y : List Run) → (below h r.headword ≡ false) ⊎ (x ≡ []) → All (λ q. below h q.headword ≡ true) y
      → target_run below h (x ++ r ∷ y) ≡ record { before = x; entries = r.entries; after = y }
  unfolding target_run Place.target_split Place.target_of Lists.split_first
  target_at x r y o above = go (below h r.headword) refl o
    where
      others : All (λ q. not (below h q.headword) ≡ false) y
      others = all_map _ _ (λ q e. ap not e) y above

      go : (t : Bool) → below h r.headword ≡ t → (below h r.headword ≡ false) ⊎ (x ≡ []) → target_run below h (x ++ r ∷ y) ≡ record { before = x; entries = r.entries; after = y }
      go false e o = rw (last_here (λ q. not (below h q.headword)) x r y (ap not e) others)
      go true e (inl p) = absurd (true≢false (sym e ∙ p))
      go true e (inr p) = rw (p, last_none (λ q. not (below h q.headword)) (r ∷ y) (ap not e, others))

  module _ (order : IsOrder below) where
    -- entries that end below a headword start below it
    starts_below : (prev k : List ℕ) (e : Entry) (es : List Entry) → EntriesOk below prev (e ∷ es) → ends_below below (some k) (e ∷ es) ≡ true → below e.headword k ≡ true
    unfolding ends_below
    starts_below prev k e [] p q = q
    starts_below prev k e (d ∷ es) (hok, bok, up, p) q = order.transitive e.headword d.headword k p.2 (starts_below e.headword k d es p q)

    -- runs that ascend and start above a headword are all above it
    all_above : (q : Run) (rs : List Run) → RunsAscend below (q ∷ rs) → below h q.headword ≡ true → All (λ r. below h r.headword ≡ true) (q ∷ rs)
    all_above q [] p a = (a, tt)
    all_above q (r ∷ rs) ((f, o, s, b), t, e, p) a =
        let u : EntriesOk below [] (f ∷ o) = rw s at t in
        let v : ends_below below (some r.headword) (f ∷ o) ≡ true = rw s at e in
        let w : below q.headword r.headword ≡ true = rw b at (starts_below [] r.headword f o u v) in
        (a, all_above r rs p (order.transitive h q.headword r.headword a w))

-- ---- where the element of the run concerned stands
-- of all elements so many from `at` on, the first of which is not above h, or the first of all
record Reached (width : ℕ) (below : HeadwordOrder) (index h : List ℕ) (elements at left : ℕ) : Type 0 where
  fewer : left ≤ elements
  start : at ≡ elements_end width index 0 (elements - left)
  low : (below h (element_headword width index at) ≡ false) ⊎ (elements - left ≡ 0)

module _ (width : ℕ) (below : HeadwordOrder) (index h : List ℕ) (elements : ℕ) where
  -- one element more is passed
  reached_next : (at k : ℕ) → Reached width below index h elements at (suc (suc k)) → below h (element_headword width index (element_end width index at + 1)) ≡ false
      → Reached width below index h elements (element_end width index at + 1) (suc k)
  unfolding Elements.elements_end
  reached_next at k v e =
      let p : elements - suc k ≡ (elements - suc (suc k)) + 1 = omega (arith, v.fewer) in
      record { fewer = omega (arith, v.fewer); start = rw (p, ends_split width index 0 (elements - suc (suc k)) 1, ← v.start); low = inl e }

  -- so stands the element concerned
  reached : (elements ≡ 0 → ⊥) → Reached width below index h elements (concerned_from width below index h 0 (elements - 1)).at (concerned_from width below index h 0 (elements - 1)).left
  unfolding Elements.elements_end
  reached z =
      let e : suc (elements - 1) ≡ elements = omega arith in
      let m : elements - elements ≡ 0 = omega arith in
      concerned_rule width below index h 0 (elements - 1) (λ at left. Reached width below index h elements at left) (rw e (record { fewer = omega arith; start = rw m; low = inr m })) reached_next

-- ---- the bytes of the run concerned
-- behind the count stand the run's bytes without it
part_same : (area : List ℕ) (b size : ℕ) → 1 ≤ size → entries_part area b size ≡ drop 2 (bytes_at (256 * b) (256 * size) area)
unfolding entries_part Bytes.bytes_at
part_same area b size p =
    let e : entries_start b size ≡ 256 * b + 2 = sym (start_some b size (λ z. omega arith)) in
    let m : 256 * (b + size) - (256 * b + 2) ≡ 256 * size - 2 = omega arith in
    rw (e, m, drop_take 2 (256 * size) (drop (256 * b) area), drop-drop 2 (256 * b) area)

-- ---- find_run
-- where there is no run, nothing is too large
pub none_bounds : (t : Target) (d l k : ℕ) → t ≡ no_target → (t.block + t.size ≤ d) × (t.size ≤ 32_767) × (t.at ≤ t.end) × (t.end ≤ l) × (t.before + t.after ≤ k)
none_bounds t d l k is = rw is (omega arith, omega arith, omega arith, omega arith, omega arith)

-- where there is no element there is no run
module _ (width order : ℕ) (index area h : List ℕ) (D elements : ℕ) (none : elements ≡ 0) where
  -- what is told then
  pub told_none : (t : Target) → t ≡ no_target → (rs : List Run) → runs_from (below_of order) D area (elements_at width index 0 elements) ≡ ok rs
      → TargetTold width order index area elements h rs t
  unfolding Elements.elements_at Elements.elements_end target_run Place.target_split Place.target_of split_last Lists.split_first elements_bytes
  told_none t is rs r =
      let e : rs ≡ [] = no_runs (below_of order) D area rs (rw none at r) in
      rw (is, e, none) (
      record {
        before = refl;
        after = refl;
        before_inside = omega arith;
        after_inside = omega arith;
        at_is = refl;
        end_is = refl;
        run = inl (record { none = refl; before = refl; after = refl; entries = refl; size = refl; block = refl });
        bytes = refl;
      }
      )

module _ (width order : ℕ) (index h : List ℕ) (elements : ℕ) (some_elements : elements ≡ 0 → ⊥) (all_inside : Inside width index 0 elements) (c : IndexPlace.Place)
    (concerned : c ≡ concerned_from width (below_of order) index h 0 (elements - 1)) (some_left : 1 ≤ c.left) where
  -- where its element stands among all
  here : Reached width (below_of order) index h elements c.at c.left
  here = rw concerned (reached width (below_of order) index h elements some_elements)

  -- no more elements are from it on than there are
  pub left_fewer : c.left ≤ elements
  left_fewer = here.fewer

  -- those before it and those from it on are all
  sum : elements ≡ (elements - c.left) + c.left
  sum = omega (arith, here.fewer)

  -- all elements: those before it, itself, those behind it
  elements_parts : elements_at width index 0 elements
      ≡ elements_at width index 0 (elements - c.left) ++ element_at width index c.at ∷ elements_at width index (element_end width index c.at + 1) (c.left - 1)
  elements_parts =
      ap (elements_at width index 0) sum
      ∙ elements_split width index 0 (elements - c.left) c.left
      ∙ ap (λ (a : ℕ). elements_at width index 0 (elements - c.left) ++ elements_at width index a c.left) (sym here.start)
      ∙ ap (λ (l : List Element). elements_at width index 0 (elements - c.left) ++ l) (elements_next width index c.at c.left some_left)

  -- those before it stand inside the index, and those from it on
  inside_parts : Inside width index 0 (elements - c.left) × Inside width index c.at c.left
  inside_parts = rw here.start (inside_split width index 0 (elements - c.left) c.left (rw (← sum) all_inside))

  -- the others stand behind it
  behind_inside : (end : ℕ) → end ≡ element_end width index c.at → Inside width index (end + 1) (c.left - 1)
  behind_inside end e = rw e (inside_next width index c.at c.left inside_parts.1 some_left)

  -- it stands behind the bytes of those before it
  start_bytes : c.at ≡ length (elements_bytes width (elements_at width index 0 (elements - c.left)))
  start_bytes = omega (arith, here.start, elements_length width index 0 (elements - c.left) inside_parts.0)

  -- behind it stand the bytes of the others, up to the end of all
  rest_bytes : (end : ℕ) → end ≡ element_end width index c.at → elements_end width index 0 elements ≡ end + 1 + length (elements_bytes width (elements_at width index (end + 1) (c.left - 1)))
  rest_bytes end e =
      let a : elements_end width index 0 elements ≡ elements_end width index c.at c.left
      = ap (elements_end width index 0) sum ∙ ends_split width index 0 (elements - c.left) c.left ∙ ap (λ (a : ℕ). elements_end width index a c.left) (sym here.start) in
      let b : elements_end width index (end + 1) (c.left - 1) ≡ elements_end width index 0 elements
      = end_turn width index c.at c.left end (elements_end width index 0 elements) (sym a) e some_left in
      omega (arith, b, elements_length width index (end + 1) (c.left - 1) (behind_inside end e))

  -- the bytes of all elements: of those before it, its own, of those behind it
  bytes_parts : (end : ℕ) → end ≡ element_end width index c.at
      → elements_end width index 0 elements
      ≡ length (elements_bytes width (elements_at width index 0 (elements - c.left))) + (end + 1 - c.at) + length (elements_bytes width (elements_at width index (end + 1) (c.left - 1)))
  bytes_parts end e = omega (arith, start_bytes, rest_bytes end e, element_end_past width index c.at)

  -- behind it stands none, or one whose headword is above the given one
  stops : (c.left ≡ 1) ⊎ (below_of order h (element_headword width index (element_end width index c.at + 1)) ≡ true)
  stops = rw concerned (concerned_stops width (below_of order) index h 0 (elements - 1))

  -- the runs behind it start above the given headword
  behind_above : (a k : ℕ) (y : List Run) → map element_of y ≡ elements_at width index a k → (k ≡ 0) ⊎ (below_of order h (element_headword width index a) ≡ true)
      → RunsAscend (below_of order) y → All (λ q. below_of order h q.headword ≡ true) y
  unfolding Elements.elements_at Elements.element_at element_of
  behind_above a k [] m o p = tt
  behind_above a zero (q ∷ qs) m o p = absurd (cons-ne-nil (element_of q) (map element_of qs) m)
  behind_above a (suc k) (q ∷ qs) m (inl z) p = absurd (omega arith)
  behind_above a (suc k) (q ∷ qs) m (inr up) p =
      let s : element_of q ≡ element_at width index a = same_first (element_of q) (element_at width index a) (map element_of qs) (elements_at width index (element_end width index a + 1) k) m in
      let w : q.headword ≡ element_headword width index a = ap (λ (e : Element). e.headword) s in
      all_above (below_of order) h (order_of order) q qs p (rw w up)

  -- it starts not above it, or is the first
  first_or_low : (x : List Run) (r : Run) → map element_of x ≡ elements_at width index 0 (elements - c.left) → element_of r ≡ element_at width index c.at
      → (below_of order h r.headword ≡ false) ⊎ (x ≡ [])
  unfolding Elements.elements_at Elements.element_at element_of
  first_or_low x r m s = go here.low
    where
      empty : (k : ℕ) (l : List Run) → k ≡ 0 → map element_of l ≡ elements_at width index 0 k → l ≡ []
      empty k [] z e = refl
      empty k (q ∷ l) z e = absurd (cons-ne-nil (element_of q) (map element_of l) (rw z at e))

      go : (below_of order h (element_headword width index c.at) ≡ false) ⊎ (elements - c.left ≡ 0) → (below_of order h r.headword ≡ false) ⊎ (x ≡ [])
      go (inl e) =
          let w : r.headword ≡ element_headword width index c.at = ap (λ (e : Element). e.headword) s in
          inl (rw w e)
      go (inr z) = inr (empty (elements - c.left) x z m)

  module _ (D : ℕ) (area : List ℕ) (b : ℕ) (num : b ≡ from_little_endian (bytes_at c.at width index)) where
    -- the runs parted at it
    abbrev At : List Run → Type 0
    At rs = Parted rs (elements_at width index 0 (elements - c.left)) (element_at width index c.at) (elements_at width index (element_end width index c.at + 1) (c.left - 1))

    module _ (rs : List Run) (read : runs_from (below_of order) D area (elements_at width index 0 elements) ≡ ok rs) where
      -- they can be
      parts : At rs
      parts =
          parted rs (elements_at width index 0 (elements - c.left)) (element_at width index c.at) (elements_at width index (element_end width index c.at + 1) (c.left - 1))
          (runs_elements (below_of order) D area (elements_at width index 0 elements) rs read ∙ elements_parts)

      -- its run was read by its element
      known : Known (below_of order) D area parts.run
      known =
          (all_back (Known (below_of order) D area) parts.before (parts.run ∷ parts.after)
          (rw parts.split at (runs_known (below_of order) D area (elements_at width index 0 elements) rs read))).0

      -- it has that block,
      own_block : parts.run.block ≡ b
      unfolding Elements.element_at element_of
      own_block = ap (λ (e : Element). e.block) parts.run_is ∙ sym num

      -- and the size that is told there
      own_size : size_told D area b ≡ Ok parts.run.size
      unfolding element_of
      own_size = rw (own_block) at (size_of_run (below_of order) D area (element_of parts.run) known.next parts.run known.read)

    -- where row 7 is broken, the runs are not read
    pub told_broken : (r : Refusal) → Err r ≡ size_told D area b → (t : Target) (rs : List Run) → runs_from (below_of order) D area (elements_at width index 0 elements) ≡ ok rs
        → TargetTold width order index area elements h rs t
    told_broken r broken t rs read = let e = own_size rs read in clash (cc)

    -- what is told of it
    pub told_some : (end : ℕ) → end ≡ element_end width index c.at → (blocks : ℕ) → Ok blocks ≡ size_told D area b
        → (rs : List Run) → runs_from (below_of order) D area (elements_at width index 0 elements) ≡ ok rs
        → TargetTold width order index area elements h rs (record { at = c.at; end = end + 1; before = elements - c.left; after = c.left - 1; block = b; size = blocks })
    told_some end ends blocks sized_so rs read =
        record {
          before = rw t (sym d.before_is);
          after = rw (t, ends) (sym d.after_is);
          before_inside = inside_parts.0;
          after_inside = behind_inside end ends;
          at_is = start_bytes;
          end_is = rest_bytes end ends;
          run =
              inr (record { run = d.run; among = rw t d.split; block = own_block rs read; size = same; some_blocks = some; fuel = suc (length d.run.bytes); read = rw t entries });
          bytes = bytes_parts end ends;
        }
      where
        d : At rs
        d = parts rs read

        same : d.run.size ≡ blocks
        same = let e = own_size rs read in cc

        told : RunTold (below_of order) D area (element_of d.run) (known rs read).next d.run
        told = run_told (below_of order) D area (element_of d.run) (known rs read).next d.run (known rs read).read

        some : 1 ≤ blocks
        some = omega (arith, same, told.some_blocks)

        ascending : RunsAscend (below_of order) (d.run ∷ d.after)
        ascending = ascend_back (below_of order) d.before (d.run ∷ d.after) (rw d.split at (runs_ascend (below_of order) D area (elements_at width index 0 elements) rs read))

        above : All (λ q. below_of order h q.headword ≡ true) d.after
        above = behind_above (element_end width index c.at + 1) (c.left - 1) d.after d.after_is (⊎_elim (λ z. inl (omega arith)) inr stops) ascending.3

        t : target_run (below_of order) h rs ≡ record { before = d.before; entries = d.run.entries; after = d.after }
        t = ap (target_run (below_of order) h) d.split ∙ target_at (below_of order) h d.before d.run d.after (first_or_low d.before d.run d.before_is d.run_is) above

        entries : entries_from (below_of order) (suc (length d.run.bytes)) [] (entries_part area b blocks) ≡ ok d.run.entries
        entries =
            let e : d.run.bytes ≡ bytes_at (256 * b) (256 * blocks) area = told.bytes ∙ rw (own_block rs read, same) in
            rw (part_same area b blocks some, ← e) told.read

  -- its element ends inside the index
  pub end_inside : (end : ℕ) → end ≡ element_end width index c.at → end + 1 ≤ length index
  end_inside end e = omega (arith, inside_end width index c.at c.left inside_parts.1 some_left)

-- ---- for the crates above
-- the blocks of runs taken apart at one
blocks_beside : (x : List Run) (r : Run) (y : List Run) → run_blocks (x ++ r ∷ y) ≡ run_blocks (x ++ y) + r.size
unfolding run_blocks
blocks_beside [] r y = omega arith
blocks_beside (q ∷ x) r y = omega (arith, blocks_beside x r y)

module _ (width order : ℕ) (index area : List ℕ) (elements : ℕ) (h : List ℕ) (rs : List Run) (t : Target) (told : TargetTold width order index area elements h rs t) where
  -- so many runs stand before the run concerned
  pub told_before : length (target_run (below_of order) h rs).before ≡ t.before
  told_before = sym (length-map (target_run (below_of order) h rs).before element_of) ∙ ap length (sym told.before) ∙ elements_count width index 0 t.before

  -- and so many behind it
  pub told_after : length (target_run (below_of order) h rs).after ≡ t.after
  told_after = sym (length-map (target_run (below_of order) h rs).after element_of) ∙ ap length (sym told.after) ∙ elements_count width index t.end t.after

  -- the blocks of all runs are those of the others and its own
  pub told_blocks : run_blocks rs ≡ run_blocks ((target_run (below_of order) h rs).before ++ (target_run (below_of order) h rs).after) + t.size
  unfolding run_blocks
  told_blocks = go (target_run (below_of order) h rs) told.run
    where
      go : (c : Place.Target) → NoRun area rs c t ⊎ OneRun order area rs c t → run_blocks rs ≡ run_blocks (c.before ++ c.after) + t.size
      go c (inl v) = rw (v.none, v.before, v.after, v.size)
      go c (inr v) = ap run_blocks v.among ∙ blocks_beside c.before v.run c.after ∙ rw v.size
