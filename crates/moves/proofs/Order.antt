-- For the callers: the blocks that the table names are those of the runs that move, in order of old number, and the table then tells their places.
use Prim.Native.Nat.{ℕ, zero, suc, ◌+◌, ◌≤◌, ◌<◌}
use mathlib.Core.Path.{◌≡◌, refl, sym, ap, ◌∙◌}
use mathlib.Core.Logic.{◌⊎◌, inl, inr, ⊎_elim}
use mathlib.Core.Bool.{Bool, true, false, not, ◌||◌, false≢true}
use mathlib.Core.List.{List, [], ◌∷◌, map}
use native.Mathlib.Omega.{arith}
use lib.ListN.{length, get_or, set, replicate, length-set, length-replicate, get_or-replicate}
use lib.Seq.{get_or-set_same, get_or-set_other, set_out}
use lib.Dec.{leb, ltb, eqb}
use borrow.Author.Tests.{le-leb, lt-leb, ltb-true, ltb-false, eq-eqb, ne_eqb, eqb-true, eqb-false}
use Rattle.spec.specs.Lists.{any, filter, range_from, All}
use Rattle.spec.specs.Run.{Run}
use Rattle.spec.specs.Blocks.{covers}
use Rattle.spec.specs.Place.{by_number, in_number_order, touches, moves, new_number}
use Rattle.spec.proofs.ListsLaws.{all_true, all_map, less_or, or_right, or_neither, or_false, filter_yes, filter_no, filter_nothing, all_range, range_some}
use Rattle.spec.specs.Sound.{Apart, Laid}
use Rattle.spec.proofs.BlocksLaws.{covers_inside, covers_outside}
use Rattle.spec.proofs.LaidLaws.{Sized}
use Rattle.spec.proofs.FreeListLaws.{Ascending, filter_ascending}
use Rattle.placing.specs.Spread.{spread}
use Rattle.placing.proofs.SpreadLaws.{places_from}
use Rattle.moves.specs.Moved.{noted, starts, tabled}
use Rattle.moves.proofs.Laws.{starts_same}

-- ---- ranges
-- tests that agree on a range hold for the same of its numbers
pub filter_range : (f h : ℕ → Bool) (i n : ℕ) → ((b : ℕ) → i ≤ b → b < i + n → f b ≡ h b) → filter f (range_from i n) ≡ filter h (range_from i n)
unfolding filter range_from
filter_range f h i zero e = refl
filter_range f h i (suc n) e = go (h i) refl (filter_range f h (suc i) n (λ b p q. e b (omega arith) (omega arith)))
  where
    go : (t : Bool) → h i ≡ t → filter f (range_from (suc i) n) ≡ filter h (range_from (suc i) n) → filter f (i ∷ range_from (suc i) n) ≡ filter h (i ∷ range_from (suc i) n)
    go true k ih = rw (filter_yes f i (range_from (suc i) n) (e i (omega arith) (omega arith) ∙ k), filter_yes h i (range_from (suc i) n) k, ih)
    go false k ih = rw (filter_no f i (range_from (suc i) n) (e i (omega arith) (omega arith) ∙ k), filter_no h i (range_from (suc i) n) k) ih

-- a test that holds for no number of a range
range_none : (f : ℕ → Bool) (i n : ℕ) → ((b : ℕ) → i ≤ b → b < i + n → f b ≡ false) → any f (range_from i n) ≡ false
unfolding any range_from
range_none f i zero h = refl
range_none f i (suc n) h = rw (h i (omega arith) (omega arith)) (range_none f (suc i) n (λ b p q. h b (omega arith) (omega arith)))

-- a number in front of those that ascend, or behind them, is none of them
pub not_among : (b i D : ℕ) (l : List ℕ) → (b < i) ⊎ (D ≤ b) → Ascending i D l → any (eqb b) l ≡ false
unfolding any
not_among b i D [] o a = refl
not_among b i D (c ∷ l) (inl h) (p, q, a) = rw (ne_eqb b c (λ e. omega arith)) (not_among b (suc c) D l (inl (omega arith)) a)
not_among b i D (c ∷ l) (inr h) (p, q, a) = rw (ne_eqb b c (λ e. omega arith)) (not_among b (suc c) D l (inr h) a)

-- ---- the blocks noted
-- a table of which blocks have runs
abbrev has : List ℕ → ℕ → Bool
has T c = not (eqb (get_or T c 0) 0)

-- the blocks at which runs start are those of a range that have runs
pub starts_filter : (T : List ℕ) (b k : ℕ) → starts b k T ≡ filter (λ c. not (eqb (get_or T c 0) 0)) (range_from b k)
unfolding starts filter range_from
starts_filter T b zero = refl
starts_filter T b (suc k) = go (eqb (get_or T b 0) 0) refl (starts_filter T (suc b) k)
  where
    go : (t : Bool) → eqb (get_or T b 0) 0 ≡ t → starts (suc b) k T ≡ filter (has T) (range_from (suc b) k) → starts b (suc k) T ≡ filter (has T) (b ∷ range_from (suc b) k)
    go true e ih = rw (filter_no (has T) b (range_from (suc b) k) (ap not e), e, starts) ih
    go false e ih = rw (filter_yes (has T) b (range_from (suc b) k) (ap not e), e, starts, ih)

-- they ascend
pub starts_ascending : (T : List ℕ) (b k : ℕ) → Ascending b (b + k) (starts b k T)
starts_ascending T b k = rw (starts_filter T b k) (filter_ascending (has T) (b + k) b k (omega arith))

-- the table keeps its length
pub length_noted : (g : ℕ) (bs T : List ℕ) → length (noted g bs T) ≡ length T
unfolding noted
length_noted g [] T = refl
length_noted g (b ∷ bs) T = go (ltb b g) (length_noted g bs)
  where
    go : (t : Bool) → ((U : List ℕ) → length (noted g bs U) ≡ length U) → length (noted g bs (elim t as (λ x. List ℕ) [ true ↦ set T b 1 | false ↦ T ])) ≡ length T
    go true ih = ih (set T b 1) ∙ length-set T b 1
    go false ih = ih T

-- a block has a run after noting where it is noted, or had one before
pub noted_has : (g : ℕ) (bs T : List ℕ) (c : ℕ) → c < g → g ≤ length T → not (eqb (get_or (noted g bs T) c 0) 0) ≡ any (eqb c) bs || not (eqb (get_or T c 0) 0)
unfolding noted any
noted_has g [] T c h l = refl
noted_has g (b ∷ bs) T c h l = go (ltb b g) refl (λ U m. noted_has g bs U c h m)
  where
    set_has : b < g → (t : Bool) → eqb c b ≡ t → (a : Bool) → a || has (set T b 1) c ≡ (t || a) || has T c
    set_has p true e a = rw (eqb-true c b e, get_or-set_same T b 1 0 (omega arith)) (or_right a true refl)
    set_has p false e a = rw (get_or-set_other T b c 1 0 (eqb-false c b e))

    go : (t : Bool) → ltb b g ≡ t → ((U : List ℕ) → g ≤ length U → has (noted g bs U) c ≡ any (eqb c) bs || has U c)
        → has (noted g bs (elim t as (λ x. List ℕ) [ true ↦ set T b 1 | false ↦ T ])) c ≡ (eqb c b || any (eqb c) bs) || has T c
    go true e ih = ih (set T b 1) (omega (arith, length-set T b 1)) ∙ set_has (ltb-true b g e) (eqb c b) refl (any (eqb c) bs)
    go false e ih = rw (ne_eqb c b (λ x. omega (arith, ltb-false b g e))) (ih T l)

-- the blocks noted in a table of zeros, ascending
pub starts_noted : (g k : ℕ) (bs : List ℕ) → g ≤ k → starts 0 g (noted g bs (replicate k 0)) ≡ filter (λ b. any (eqb b) bs) (range_from 0 g)
starts_noted g k bs h =
    starts_filter (noted g bs (replicate k 0)) 0 g ∙ filter_range (has (noted g bs (replicate k 0))) (λ b. any (eqb b) bs) 0 g
    (λ c p q. noted_has g bs (replicate k 0) c (omega arith) (omega (arith, length-replicate {A = ℕ} k 0)) ∙ rw (get_or-replicate {A = ℕ} k c 0 0 (omega arith)) (sym (or_false (any (eqb c) bs))))

-- ---- the runs that move
-- a number among others that ascend
unfoldable insert : ℕ → List ℕ → List ℕ
insert b [] = b ∷ []
insert b (c ∷ l) = elim (leb b c) [ true ↦ b ∷ c ∷ l | false ↦ c ∷ insert b l ]

-- in front of one not below it
insert_yes : (b c : ℕ) (l : List ℕ) → b ≤ c → insert b (c ∷ l) ≡ b ∷ c ∷ l
unfolding insert
insert_yes b c l h = rw (le-leb b c h, insert)

-- behind one below it
insert_no : (b c : ℕ) (l : List ℕ) → c < b → insert b (c ∷ l) ≡ c ∷ insert b l
unfolding insert
insert_no b c l h = rw (lt-leb b c h, insert)

-- the numbers of runs, one run more among them by its number
by_number_blocks : (r : Run) (rs : List Run) → map (λ q. q.block) (by_number r rs) ≡ insert r.block (map (λ q. q.block) rs)
unfolding by_number insert
by_number_blocks r [] = refl
by_number_blocks r (q ∷ rs) = go (leb r.block q.block) refl (by_number_blocks r rs)
  where
    go : (t : Bool) → leb r.block q.block ≡ t → map (λ p. p.block) (by_number r rs) ≡ insert r.block (map (λ p. p.block) rs)
        → map (λ (p : Run). p.block) (elim t as (λ y. List Run) [ true ↦ r ∷ q ∷ rs | false ↦ q ∷ by_number r rs ])
        ≡ elim t as (λ y. List ℕ) [ true ↦ r.block ∷ q.block ∷ map (λ p. p.block) rs | false ↦ q.block ∷ insert r.block (map (λ p. p.block) rs) ]
    go true e ih = refl
    go false e ih = ap (λ (l : List ℕ). q.block ∷ l) ih

-- in front of numbers above it
insert_front : (b D : ℕ) (l : List ℕ) → Ascending (suc b) D l → insert b l ≡ b ∷ l
unfolding insert
insert_front b D [] a = refl
insert_front b D (c ∷ l) (p, q, a) = insert_yes b c l (omega arith)

-- the first number of a range put among those for which a test holds
insert_first : (f : ℕ → Bool) (i n : ℕ) → f i ≡ false → insert i (filter f (i ∷ range_from (suc i) n)) ≡ filter (λ c. eqb c i || f c) (i ∷ range_from (suc i) n)
insert_first f i n e =
    rw (
      filter_no f i (range_from (suc i) n) e,
      filter_yes (λ c. eqb c i || f c) i (range_from (suc i) n) (rw (eq-eqb i i refl)),
      insert_front i (suc i + n) (filter f (range_from (suc i) n)) (filter_ascending f (suc i + n) (suc i) n (omega arith)),
    )
    (ap (λ (l : List ℕ). i ∷ l) (filter_range f (λ c. eqb c i || f c) (suc i) n (λ c p q. rw (ne_eqb c i (λ x. omega arith)))))

-- any number of it
insert_range : (f : ℕ → Bool) (b i n : ℕ) → i ≤ b → b < i + n → f b ≡ false → insert b (filter f (range_from i n)) ≡ filter (λ c. eqb c b || f c) (range_from i n)
unfolding range_from
insert_range f b i zero h k e = absurd (omega arith)
insert_range f b i (suc n) h k e = ⊎_elim (λ l. later l (f i) refl (insert_range f b (suc i) n (omega arith) (omega arith) e)) here (less_or i b)
  where
    later : i < b → (t : Bool) → f i ≡ t → insert b (filter f (range_from (suc i) n)) ≡ filter (λ c. eqb c b || f c) (range_from (suc i) n)
        → insert b (filter f (i ∷ range_from (suc i) n)) ≡ filter (λ c. eqb c b || f c) (i ∷ range_from (suc i) n)
    later l true t ih =
        rw (filter_yes f i (range_from (suc i) n) t, filter_yes (λ c. eqb c b || f c) i (range_from (suc i) n) (or_right (eqb i b) (f i) t), insert_no b i (filter f (range_from (suc i) n)) l, ih)
    later l false t ih = rw (filter_no f i (range_from (suc i) n) t, filter_no (λ c. eqb c b || f c) i (range_from (suc i) n) (rw (ne_eqb i b (λ x. omega arith)) t)) ih

    here : b ≤ i → insert b (filter f (i ∷ range_from (suc i) n)) ≡ filter (λ c. eqb c b || f c) (i ∷ range_from (suc i) n)
    here l =
        let p : b ≡ i = omega arith in
        rw p (insert_first f i n (rw p at e))

-- a run of at least one block touches the first g blocks where it starts below g
pub touches_below : (g : ℕ) (r : Run) → 1 ≤ r.size → r.block < g → touches g r ≡ true
unfolding touches
touches_below g r s h = range_some (λ b. covers b r) 0 g r.block (omega arith) (omega arith) (covers_inside r r.block (omega arith) (omega arith))

-- any other does not
pub touches_above : (g : ℕ) (r : Run) → g ≤ r.block → touches g r ≡ false
unfolding touches
touches_above g r h = range_none (λ b. covers b r) 0 g (λ b p q. covers_outside r b (inl (omega arith)))

-- the number of a run is not that of one apart from it
apart_other : (b n : ℕ) (rs : List Run) → 1 ≤ n → All Sized rs → Apart b n rs → any (eqb b) (map (λ r. r.block) rs) ≡ false
unfolding any
apart_other b n [] h s a = refl
apart_other b n (r ∷ rs) h (k, s) (o, a) =
    let z = k.0 in
    rw (ne_eqb b r.block (λ e. ⊎_elim (λ p. omega arith) (λ p. omega arith) o)) (apart_other b n rs h s a)

-- the numbers of the runs that move, in order, are the first g that runs have
pub moving_blocks : (g D : ℕ) (rs : List Run) → Laid D rs → All Sized rs
    → map (λ r. r.block) (in_number_order (filter (touches g) rs)) ≡ filter (λ b. any (eqb b) (map (λ r. r.block) rs)) (range_from 0 g)
unfolding in_number_order filter any
moving_blocks g D [] l s = sym (filter_nothing (λ b. any (eqb b) []) (range_from 0 g) (all_true _ (λ b. true) (λ b p. refl) (range_from 0 g) (all_range (λ b. true) 0 g (λ b p q. refl))))
moving_blocks g D (r ∷ rs) (n, i, a, l) (z, s) = ⊎_elim (below (moving_blocks g D rs l s)) (above (moving_blocks g D rs l s)) (less_or r.block g)
  where
    Moving : List Run → Type 0
    Moving qs = map (λ r. r.block) (in_number_order (filter (touches g) qs)) ≡ filter (λ b. any (eqb b) (map (λ r. r.block) qs)) (range_from 0 g)

    below : Moving rs → r.block < g → Moving (r ∷ rs)
    below ih h =
        ap (λ (l : List Run). map (λ r. r.block) (in_number_order l)) (filter_yes (touches g) r rs (touches_below g r z.0 h))
        ∙ by_number_blocks r (in_number_order (filter (touches g) rs)) ∙ ap (insert r.block) ih
        ∙ insert_range (λ b. any (eqb b) (map (λ r. r.block) rs)) r.block 0 g (omega arith) (omega arith) (apart_other r.block r.size rs z.0 s a)

    above : Moving rs → g ≤ r.block → Moving (r ∷ rs)
    above ih h =
        ap (λ (l : List Run). map (λ r. r.block) (in_number_order l)) (filter_no (touches g) r rs (touches_above g r h)) ∙ ih
        ∙ filter_range (λ b. any (eqb b) (map (λ r. r.block) rs)) (λ b. any (eqb b) (r.block ∷ map (λ r. r.block) rs)) 0 g (λ c p q. rw (ne_eqb c r.block (λ x. omega arith)))

-- so the blocks of the table are those of the runs that move
pub noted_moving : (g k D : ℕ) (rs : List Run) → g ≤ k → Laid D rs → All Sized rs
    → starts 0 g (noted g (map (λ r. r.block) rs) (replicate k 0)) ≡ map (λ r. r.block) (in_number_order (filter (touches g) rs))
noted_moving g k D rs h l s = starts_noted g k (map (λ r. r.block) rs) h ∙ sym (moving_blocks g D rs l s)

-- ---- the table with the places
-- a block that is not among those placed keeps its number
pub get_tabled_other : (bs ps T : List ℕ) (b : ℕ) → any (eqb b) bs ≡ false → get_or (tabled bs ps T) b 0 ≡ get_or T b 0
unfolding tabled any
get_tabled_other [] ps T b h = refl
get_tabled_other (c ∷ bs) [] T b h = refl
get_tabled_other (c ∷ bs) (p ∷ ps) T b h =
    let (x, y) = or_neither (eqb b c) (any (eqb b) bs) h in
    get_tabled_other bs ps (set T c p) b y ∙ get_or-set_other T c b p 0 (eqb-false b c x)

-- the first block placed has the first place
tabled_first : (b p D : ℕ) (bs ps T : List ℕ) → Ascending (suc b) D bs → b < length T → get_or (tabled bs ps (set T b p)) b 0 ≡ p
tabled_first b p D bs ps T a h = get_tabled_other bs ps (set T b p) b (not_among b (suc b) D bs (inl (omega arith)) a) ∙ get_or-set_same T b p 0 h

-- the number that a moved run has after the moves is its place by the table
pub get_tabled_moves : (i D : ℕ) (rs qs : List Run) (T : List ℕ) (b : ℕ) → Ascending i D (map (λ r. r.block) rs) → D ≤ length T → length qs ≡ length rs
    → any (eqb b) (map (λ r. r.block) rs) ≡ true → get_or (tabled (map (λ r. r.block) rs) (map (λ r. r.block) qs) T) b 0 ≡ new_number (moves rs qs) b
unfolding tabled any moves new_number
get_tabled_moves i D [] qs T b a h l k = absurd (false≢true k)
get_tabled_moves i D (r ∷ rs) [] T b a h l k = absurd (omega arith)
get_tabled_moves i D (r ∷ rs) (q ∷ qs) T b (x, y, a) h l k =
    go (eqb r.block b) refl (get_tabled_moves (suc r.block) D rs qs (set T r.block q.block) b a (omega (arith, length-set T r.block q.block)) (omega arith))
  where
    rest : List ℕ
    rest = tabled (map (λ r. r.block) rs) (map (λ r. r.block) qs) (set T r.block q.block)

    go : (t : Bool) → eqb r.block b ≡ t → (any (eqb b) (map (λ r. r.block) rs) ≡ true → get_or rest b 0 ≡ new_number (moves rs qs) b)
        → get_or rest b 0 ≡ elim t as (λ y. ℕ) [ true ↦ q.block | false ↦ new_number (moves rs qs) b ]
    go true e ih =
        let p : b ≡ r.block = sym (eqb-true r.block b e) in
        rw p (tabled_first r.block q.block D (map (λ r. r.block) rs) (map (λ r. r.block) qs) T a (omega arith))
    go false e ih = ih (rw (ne_eqb b r.block (λ z. eqb-false r.block b e (sym z))) at k)

-- a run that does not move keeps its number
pub number_stays : (rs qs : List Run) (b : ℕ) → any (eqb b) (map (λ r. r.block) rs) ≡ false → new_number (moves rs qs) b ≡ b
unfolding any moves new_number
number_stays [] qs b h = refl
number_stays (r ∷ rs) [] b h = refl
number_stays (r ∷ rs) (q ∷ qs) b h =
    let (x, y) = or_neither (eqb b r.block) (any (eqb b) (map (λ r. r.block) rs)) h in
    rw (ne_eqb r.block b (λ z. eqb-false b r.block x (sym z)), new_number) (number_stays rs qs b y)

-- ---- the places
-- no place is 0 where the allowed blocks start behind block 0
pub places_some : (g d : ℕ) (ms : List Bool) (ns : List ℕ) → 1 ≤ g → g ≤ d → All (λ p. p ≡ 0 → ⊥) (spread g d ms ns).places
places_some g d ms ns k h = all_map (λ p. g ≤ p) (λ p. p ≡ 0 → ⊥) (λ p l z. omega arith) (spread g d ms ns).places (places_from g d ms ns h)

-- ---- where runs start after placing
-- a number that is not 0 in place of one that is not 0
set_has : (T : List ℕ) (a p c : ℕ) → (get_or T a 0 ≡ 0 → ⊥) → (p ≡ 0 → ⊥) → eqb (get_or (set T a p) c 0) 0 ≡ eqb (get_or T c 0) 0
set_has T a p c h k = go (eqb c a) refl
  where
    inside : a < length T → eqb (get_or (set T a p) a 0) 0 ≡ eqb (get_or T a 0) 0
    inside l = rw (get_or-set_same T a p 0 l, ne_eqb p 0 k, ne_eqb (get_or T a 0) 0 h)

    outside : length T ≤ a → eqb (get_or (set T a p) a 0) 0 ≡ eqb (get_or T a 0) 0
    outside l = rw (set_out T a p l)

    go : (t : Bool) → eqb c a ≡ t → eqb (get_or (set T a p) c 0) 0 ≡ eqb (get_or T c 0) 0
    go true e = rw (eqb-true c a e) (⊎_elim inside outside (less_or a (length T)))
    go false e = rw (get_or-set_other T a c p 0 (eqb-false c a e))

-- the same of several
tabled_has : (bs ps T : List ℕ) → All (λ p. p ≡ 0 → ⊥) ps → All (λ a. get_or T a 0 ≡ 0 → ⊥) bs → (c : ℕ) → eqb (get_or (tabled bs ps T) c 0) 0 ≡ eqb (get_or T c 0) 0
unfolding tabled
tabled_has [] ps T h k c = refl
tabled_has (b ∷ bs) [] T h k c = refl
tabled_has (b ∷ bs) (p ∷ ps) T (h, hs) (k, ks) c =
    tabled_has bs ps (set T b p) hs (all_map (λ a. get_or T a 0 ≡ 0 → ⊥) (λ a. get_or (set T b p) a 0 ≡ 0 → ⊥)
    (λ a n z. n (eqb-true (get_or T a 0) 0 (sym (set_has T b p a k h) ∙ eq-eqb (get_or (set T b p) a 0) 0 z))) bs ks) c
    ∙ set_has T b p c k h

-- places that are not 0, tabled where runs start, do not change where runs start
pub tabled_starts : (bs ps T : List ℕ) (b k : ℕ) → All (λ p. p ≡ 0 → ⊥) ps → All (λ a. get_or T a 0 ≡ 0 → ⊥) bs → starts b k (tabled bs ps T) ≡ starts b k T
tabled_starts bs ps T b k h n = starts_same (tabled bs ps T) T b k (λ c p q. tabled_has bs ps T h n c)

-- where runs start the table is not 0
pub starts_some : (T : List ℕ) (b k : ℕ) → All (λ a. get_or T a 0 ≡ 0 → ⊥) (starts b k T)
unfolding starts
starts_some T b zero = tt
starts_some T b (suc k) = go (eqb (get_or T b 0) 0) refl (starts_some T (suc b) k)
  where
    go : (t : Bool) → eqb (get_or T b 0) 0 ≡ t → All (λ a. get_or T a 0 ≡ 0 → ⊥) (starts (suc b) k T) → All (λ a. get_or T a 0 ≡ 0 → ⊥) (starts b (suc k) T)
    go true e a = rw (e, starts) a
    go false e a = rw (e, starts) (eqb-false (get_or T b 0) 0 e, a)

-- so of the runs of the table itself
pub tabled_own_starts : (ps T : List ℕ) (g : ℕ) → All (λ p. p ≡ 0 → ⊥) ps → starts 0 g (tabled (starts 0 g T) ps T) ≡ starts 0 g T
tabled_own_starts ps T g h = tabled_starts (starts 0 g T) ps T 0 g h (starts_some T 0 g)
