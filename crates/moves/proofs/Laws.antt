-- What the table of the first blocks shows at each step, in the terms of the code.
use Prim.Native.Nat.{ℕ, zero, suc, ◌+◌, ◌-◌, ◌*◌, ◌≤◌, ◌<◌, max}
use mathlib.Core.Path.{◌≡◌, refl, sym, ap, ◌∙◌}
use mathlib.Core.Bool.{Bool, true, false}
use mathlib.Core.List.{List, [], ◌∷◌, ◌++◌, map, map-append}
use native.Mathlib.Omega.{arith}
use lib.ListN.{length, get_or, set, take, drop, length-map, take-append-drop}
use lib.Seq.{get_or-set_other, take_at, drop_at, length-take-le}
use lib.Dec.{eqb}
use borrow.Author.Tests.{lt-ltb, le-ltb, eq-eqb, ne_eqb, eqb-true, eqb-false}
use Rattle.spec.specs.Bytes.{bytes_at, write}
use Rattle.spec.specs.Header.{block_position}
use Rattle.spec.specs.Blocks.{best_fit}
use Rattle.spec.specs.Index.{Element}
use Rattle.spec.specs.Lists.{All}
use Rattle.spec.proofs.ListsLaws.{all_map, all_front, all_back}
use Rattle.header.proofs.PositionLaws.{write_block}
use Rattle.marks.specs.Marks.{with_range}
use Rattle.placing.specs.Spread.{Spread, placed_first, spread}
use Rattle.placing.proofs.SpreadLaws.{spread_grows}
use Rattle.runs.specs.Size.{size_told}
use Rattle.std.specs.Prelude.{Result, Ok, Err}
use Rattle.std.specs.Result.{result_unwrap_or}
use Rattle.spec.specs.declared.Refusal.{Refusal}
use Rattle.runs.proofs.SizeLaws.{blocks_told}
use Rattle.moves.specs.Moved.{noted, starts, size_at, freed, tabled, moved_written}

-- ---- the table noted
-- a block below g is noted
pub note_below : (g b : ℕ) (T : List ℕ) → b < g → set T b 1 ≡ noted g (b ∷ []) T
unfolding noted
note_below g b T h = rw (lt-ltb b g h, noted)

-- any other is not
pub note_above : (g b : ℕ) (T : List ℕ) → g ≤ b → T ≡ noted g (b ∷ []) T
unfolding noted
note_above g b T h = rw (le-ltb b g h, noted)

-- blocks noted after others
pub noted_append : (g : ℕ) (bs cs T : List ℕ) → noted g (bs ++ cs) T ≡ noted g cs (noted g bs T)
unfolding noted
noted_append g [] cs T = refl
noted_append g (b ∷ bs) cs T = noted_append g bs cs _

-- the blocks of elements
abbrev pub blocks : List Element → List ℕ
blocks es = map (λ e. e.block) es

-- one element noted, the others are still to be noted
pub note_turn : (g : ℕ) (es ds : List Element) (e : Element) (T T₁ R : List ℕ) → noted g (blocks es) T ≡ R → es ≡ e ∷ ds → length T ≡ g
    → T₁ ≡ noted (length T) (e.block ∷ []) T → noted g (blocks ds) T₁ ≡ R
note_turn g es ds e T T₁ R inv p l q = rw (q, l) (sym (noted_append g (e.block ∷ []) (blocks ds) T) ∙ rw p at inv)

-- all are noted
pub note_end : (g : ℕ) (es : List Element) (T R : List ℕ) → noted g (blocks es) T ≡ R → es ≡ [] → T ≡ R
unfolding noted
note_end g es T R inv p = rw p at inv

-- ---- the size of a run
-- of a run that keeps row 7
pub size_by : (area : List ℕ) (d b n : ℕ) → Ok n ≡ size_told d area b → n ≡ size_at area d b
unfolding size_at
size_by area d b n told = rw (← told)

-- a run that starts among the blocks lies inside them
pub size_inside : (area : List ℕ) (d b : ℕ) → b < d → b + size_at area d b ≤ d
unfolding size_at
size_inside area d b h = go (size_told d area b) refl
  where
    go : (r : Result ℕ Refusal) → r ≡ size_told d area b → b + result_unwrap_or r 1 ≤ d
    go (Err k) e = omega arith
    go (Ok n) e = (blocks_told d area b (Ok n) e n refl).4

-- ---- the blocks of the table at which runs start
-- no run starts at b
pub starts_none : (T : List ℕ) (b : ℕ) → get_or T b 0 ≡ 0 → starts b 1 T ≡ []
unfolding starts
starts_none T b e = rw (eq-eqb (get_or T b 0) 0 e, starts)

-- a run starts at b
pub starts_one : (T : List ℕ) (b : ℕ) → (get_or T b 0 ≡ 0 → ⊥) → starts b 1 T ≡ b ∷ []
unfolding starts
starts_one T b e = rw (ne_eqb (get_or T b 0) 0 e, starts)

-- the blocks from b on are b, if a run starts there, and those behind it
starts_suc : (T : List ℕ) (b k : ℕ) → starts b (suc k) T ≡ starts b 1 T ++ starts (suc b) k T
unfolding starts
starts_suc T b k = go (eqb (get_or T b 0) 0) refl
  where
    go : (t : Bool) → eqb (get_or T b 0) 0 ≡ t → starts b (suc k) T ≡ starts b 1 T ++ starts (suc b) k T
    go true e = rw (e, starts)
    go false e = rw (e, starts)

-- the same in the terms of a loop up to g
pub starts_next : (T : List ℕ) (b g : ℕ) → b < g → starts b (g - b) T ≡ starts b 1 T ++ starts (b + 1) (g - (b + 1)) T
starts_next T b g h =
    let e : g - b ≡ suc (g - (b + 1)) = omega arith in
    let f : b + 1 ≡ suc b = omega arith in
    rw e (rw f (starts_suc T b (g - suc b)))

-- none is left at its end
pub starts_end : (T : List ℕ) (b g : ℕ) → g ≤ b → starts b (g - b) T ≡ []
unfolding starts
starts_end T b g h = let e : g - b ≡ 0 = omega arith in rw (e, starts)

-- two tables with runs at the same blocks from b on
pub starts_same : (T U : List ℕ) (b k : ℕ) → ((c : ℕ) → b ≤ c → c < b + k → eqb (get_or T c 0) 0 ≡ eqb (get_or U c 0) 0) → starts b k T ≡ starts b k U
unfolding starts
starts_same T U b zero h = refl
starts_same T U b (suc k) h = go (eqb (get_or U b 0) 0) refl (starts_same T U (suc b) k (λ c p q. h c (omega arith) (omega arith)))
  where
    go : (t : Bool) → eqb (get_or U b 0) 0 ≡ t → starts (suc b) k T ≡ starts (suc b) k U → starts b (suc k) T ≡ starts b (suc k) U
    go true e ih = rw (h b (omega arith) (omega arith) ∙ e, e, starts) ih
    go false e ih = rw (h b (omega arith) (omega arith) ∙ e, e, starts, ih)

-- ---- runs freed
-- runs freed after others
freed_append : (area : List ℕ) (d : ℕ) (bs cs : List ℕ) (ms : List Bool) → freed area d (bs ++ cs) ms ≡ freed area d cs (freed area d bs ms)
unfolding freed
freed_append area d [] cs ms = refl
freed_append area d (b ∷ bs) cs ms = freed_append area d bs cs _

-- nothing is freed where no run starts
pub free_none : (area T : List ℕ) (d b : ℕ) (ms : List Bool) → get_or T b 0 ≡ 0 → ms ≡ freed area d (starts b 1 T) ms
unfolding freed
free_none area T d b ms e = rw (starts_none T b e)

-- a run is freed
pub free_run : (area T : List ℕ) (d b n : ℕ) (ms ns : List Bool) → (get_or T b 0 ≡ 0 → ⊥) → n ≡ size_at area d b → ns ≡ with_range b n true ms → ns ≡ freed area d (starts b 1 T) ms
unfolding freed
free_run area T d b n ms ns e f w = rw (starts_one T b e) (w ∙ rw f)

-- what is still to be freed
abbrev pub Freeing : List ℕ → List ℕ → ℕ → ℕ → ℕ → List Bool → List Bool → Type 0
Freeing area T d g b ms₀ ms = freed area d (starts b (g - b) T) ms ≡ freed area d (starts 0 g T) ms₀

-- after one block the others
pub free_turn : (area T : List ℕ) (d g b : ℕ) (ms₀ ms ns : List Bool) → Freeing area T d g b ms₀ ms → b < g → ns ≡ freed area d (starts b 1 T) ms → Freeing area T d g (b + 1) ms₀ ns
free_turn area T d g b ms₀ ms ns inv h e =
    rw e (sym (freed_append area d (starts b 1 T) (starts (b + 1) (g - (b + 1)) T) ms) ∙ rw (starts_next T b g h) at inv)

-- at the end none
pub free_end : (area T : List ℕ) (d g b : ℕ) (ms₀ ms : List Bool) → Freeing area T d g b ms₀ ms → g ≤ b → ms ≡ freed area d (starts 0 g T) ms₀
unfolding freed
free_end area T d g b ms₀ ms inv h = rw (starts_end T b g h) at inv

-- ---- runs placed
-- runs placed after others
pub spread_append_places : (g d : ℕ) (ms : List Bool) (ns ks : List ℕ)
    → (spread g d ms (ns ++ ks)).places ≡ (spread g d ms ns).places ++ (spread g (spread g d ms ns).end (spread g d ms ns).free ks).places
unfolding spread placed_first
spread_append_places g d ms [] ks = refl
spread_append_places g d ms (n ∷ ns) ks =
    let p : ℕ = best_fit g d (take (d - g) (drop g ms)) n in
    ap (λ (l : List ℕ). p ∷ l) (spread_append_places g (max d (p + n)) (with_range p n false ms) ns ks)

-- the end then
pub spread_append_end : (g d : ℕ) (ms : List Bool) (ns ks : List ℕ) → (spread g d ms (ns ++ ks)).end ≡ (spread g (spread g d ms ns).end (spread g d ms ns).free ks).end
unfolding spread placed_first
spread_append_end g d ms [] ks = refl
spread_append_end g d ms (n ∷ ns) ks =
    let p : ℕ = best_fit g d (take (d - g) (drop g ms)) n in
    spread_append_end g (max d (p + n)) (with_range p n false ms) ns ks

-- the marks then
pub spread_append_free : (g d : ℕ) (ms : List Bool) (ns ks : List ℕ) → (spread g d ms (ns ++ ks)).free ≡ (spread g (spread g d ms ns).end (spread g d ms ns).free ks).free
unfolding spread placed_first
spread_append_free g d ms [] ks = refl
spread_append_free g d ms (n ∷ ns) ks =
    let p : ℕ = best_fit g d (take (d - g) (drop g ms)) n in
    spread_append_free g (max d (p + n)) (with_range p n false ms) ns ks

-- each has a place
pub length_places : (g d : ℕ) (ms : List Bool) (ns : List ℕ) → length (spread g d ms ns).places ≡ length ns
unfolding spread placed_first
length_places g d ms [] = refl
length_places g d ms (n ∷ ns) =
    let p : ℕ = best_fit g d (take (d - g) (drop g ms)) n in
    ap suc (length_places g (max d (p + n)) (with_range p n false ms) ns)

-- places tabled after others
pub tabled_append : (bs cs ps qs T : List ℕ) → length ps ≡ length bs → tabled (bs ++ cs) (ps ++ qs) T ≡ tabled cs qs (tabled bs ps T)
unfolding tabled
tabled_append [] cs [] qs T h = refl
tabled_append [] cs (p ∷ ps) qs T h = absurd (omega arith)
tabled_append (b ∷ bs) cs [] qs T h = absurd (omega arith)
tabled_append (b ∷ bs) cs (p ∷ ps) qs T h = tabled_append bs cs ps qs (set T b p) (omega arith)

-- no other block changes
pub get_tabled_below : (bs ps T : List ℕ) (c : ℕ) → All (λ b. b < c) bs → get_or (tabled bs ps T) c 0 ≡ get_or T c 0
unfolding tabled
get_tabled_below [] ps T c h = refl
get_tabled_below (b ∷ bs) [] T c h = refl
get_tabled_below (b ∷ bs) (p ∷ ps) T c (h, hs) = get_tabled_below bs ps (set T b p) c hs ∙ get_or-set_other T b c p 0 (λ e. omega arith)

-- a run at b starts in front of what stands behind b
starts_low : (T : List ℕ) (b c : ℕ) → b < c → All (λ a. a < c) (starts b 1 T)
starts_low T b c h = go (eqb (get_or T b 0) 0) refl
  where
    go : (t : Bool) → eqb (get_or T b 0) 0 ≡ t → All (λ a. a < c) (starts b 1 T)
    go true e = rw (starts_none T b (eqb-true (get_or T b 0) 0 e)) tt
    go false e = rw (starts_one T b (eqb-false (get_or T b 0) 0 e)) (h, tt)

-- what is placed in front of b does not change where runs start from b on
starts_behind : (bs ps T : List ℕ) (b k : ℕ) → All (λ a. a < b) bs → starts b k (tabled bs ps T) ≡ starts b k T
starts_behind bs ps T b k h =
    starts_same (tabled bs ps T) T b k (λ c p q. ap (λ (x : ℕ). eqb x 0) (get_tabled_below bs ps T c (all_map (λ a. a < b) (λ a. a < c) (λ a l. omega arith) bs h)))

-- the runs of k blocks from b on placed
abbrev pub spread_from : List ℕ → ℕ → ℕ → ℕ → List Bool → ℕ → ℕ → List ℕ → Spread
spread_from area d g end ms b k T = spread g end ms (map (size_at area d) (starts b k T))

module _ (area T : List ℕ) (d g end b : ℕ) (ms : List Bool) where
  module _ (e : get_or T b 0 ≡ 0) where
    -- where no run starts at b, nothing is placed: the end stays
    pub place_none_end : end ≡ (spread_from area d g end ms b 1 T).end
    unfolding spread
    place_none_end = rw (starts_none T b e)

    -- the marks stay
    pub place_none_free : ms ≡ (spread_from area d g end ms b 1 T).free
    unfolding spread
    place_none_free = rw (starts_none T b e)

    -- the table stays
    pub place_none_table : T ≡ tabled (starts b 1 T) (spread_from area d g end ms b 1 T).places T
    unfolding tabled
    place_none_table = rw (starts_none T b e)

  module _ (e : get_or T b 0 ≡ 0 → ⊥) (n p : ℕ) (size : n ≡ size_at area d b) (place : p ≡ best_fit g end (take (end - g) (drop g ms)) n) where
    -- where one starts, the end is behind it, or stays
    pub place_last : (r : ℕ) → r ≡ max end (p + n) → r ≡ (spread_from area d g end ms b 1 T).end
    unfolding spread placed_first
    place_last r h = rw (starts_one T b e, ← size, ← place) h

    -- its blocks are free no more
    pub place_free : (ns : List Bool) → ns ≡ with_range p n false ms → ns ≡ (spread_from area d g end ms b 1 T).free
    unfolding spread placed_first
    place_free ns w = rw (starts_one T b e, ← size, ← place) w

    -- its place is in the table
    pub place_table : set T b p ≡ tabled (starts b 1 T) (spread_from area d g end ms b 1 T).places T
    unfolding spread placed_first tabled
    place_table = rw (starts_one T b e, ← size, ← place)

-- what is still to be placed
abbrev pub Placing : List ℕ → ℕ → ℕ → ℕ → List ℕ → List Bool → ℕ → ℕ → List ℕ → List Bool → Type 0
Placing area d g end T₀ ms₀ e b T ms =
    ((spread_from area d g e ms b (g - b) T).end ≡ (spread_from area d g end ms₀ 0 g T₀).end)
    × ((spread_from area d g e ms b (g - b) T).free ≡ (spread_from area d g end ms₀ 0 g T₀).free)
    × (tabled (starts b (g - b) T) (spread_from area d g e ms b (g - b) T).places T ≡ tabled (starts 0 g T₀) (spread_from area d g end ms₀ 0 g T₀).places T₀)

module _ (area : List ℕ) (d g end : ℕ) (T₀ : List ℕ) (ms₀ : List Bool) (e b : ℕ) (T : List ℕ) (ms : List Bool) (inv : Placing area d g end T₀ ms₀ e b T ms) where
  module _ (h : b < g) (e₁ : ℕ) (T₁ : List ℕ) (ms₁ : List Bool) (end_is : e₁ ≡ (spread_from area d g e ms b 1 T).end) (free_is : ms₁ ≡ (spread_from area d g e ms b 1 T).free)
      (table_is : T₁ ≡ tabled (starts b 1 T) (spread_from area d g e ms b 1 T).places T) where
    -- the run at b, if one starts there
    abbrev here : List ℕ
    here = starts b 1 T

    -- the runs behind it
    abbrev rest : List ℕ
    rest = starts (b + 1) (g - (b + 1)) T

    -- they start at the same blocks after it is placed
    rest_is : starts (b + 1) (g - (b + 1)) T₁ ≡ rest
    rest_is = rw table_is (starts_behind here (spread_from area d g e ms b 1 T).places T (b + 1) (g - (b + 1)) (starts_low T b (b + 1) (omega arith)))

    -- the sizes of all that are left
    sizes : map (size_at area d) (starts b (g - b) T) ≡ map (size_at area d) here ++ map (size_at area d) rest
    sizes = ap (map (size_at area d)) (starts_next T b g h) ∙ map-append (size_at area d) here rest

    -- what placing it gives
    abbrev now_at : Spread
    now_at = spread_from area d g e ms b 1 T

    -- the table with its place and then those behind it is the table with all
    tables : tabled (starts b (g - b) T) (spread_from area d g e ms b (g - b) T).places T
        ≡ tabled rest (spread g now_at.end now_at.free (map (size_at area d) rest)).places (tabled here now_at.places T)
    tables =
        rw (sizes, spread_append_places g e ms (map (size_at area d) here) (map (size_at area d) rest), starts_next T b g h)
        (tabled_append here rest now_at.places (spread g now_at.end now_at.free (map (size_at area d) rest)).places T
        (length_places g e ms (map (size_at area d) here) ∙ length-map here (size_at area d)))

    -- after one block the others
    pub place_turn : Placing area d g end T₀ ms₀ e₁ (b + 1) T₁ ms₁
    place_turn =
        rw (rest_is, end_is, free_is, table_is) (
          sym (rw sizes (spread_append_end g e ms (map (size_at area d) here) (map (size_at area d) rest))) ∙ inv.0,
          sym (rw sizes (spread_append_free g e ms (map (size_at area d) here) (map (size_at area d) rest))) ∙ inv.1,
          sym tables ∙ inv.2,
        )

    -- an end past the limit is not taken back
    pub place_over : (limit : ℕ) → limit < e₁ → limit < (spread_from area d g end ms₀ 0 g T₀).end
    place_over limit l = omega (arith, place_turn.0, spread_grows g e₁ ms₁ (map (size_at area d) (starts (b + 1) (g - (b + 1)) T₁)))

  -- at the end none
  pub place_end : g ≤ b → (e ≡ (spread_from area d g end ms₀ 0 g T₀).end) × (ms ≡ (spread_from area d g end ms₀ 0 g T₀).free)
      × (T ≡ tabled (starts 0 g T₀) (spread_from area d g end ms₀ 0 g T₀).places T₀)
  unfolding spread tabled
  place_end h = rw (starts_end T b g h) at inv

-- ---- runs copied
-- runs copied after others
copied_append : (area T : List ℕ) (d : ℕ) (bs cs dst : List ℕ) → moved_written area d T (bs ++ cs) dst ≡ moved_written area d T cs (moved_written area d T bs dst)
unfolding moved_written
copied_append area T d [] cs dst = refl
copied_append area T d (b ∷ bs) cs dst = copied_append area T d bs cs _

module _ (extended index : ℕ) where
  -- where the data area of the image starts
  abbrev start : ℕ
  start = block_position extended index 0

  -- the runs at these blocks copied into the data area of the image
  abbrev pub copied : List ℕ → List ℕ → ℕ → List ℕ → List ℕ → List ℕ
  copied area T d bs image = take start image ++ moved_written area d T bs (drop start image)

  -- the runs at these blocks start among d blocks, and their new places are inside an image of l bytes
  abbrev pub Ready : List ℕ → List ℕ → ℕ → ℕ → List ℕ → Type 0
  Ready area T d l bs = All (λ a. (a < d) × (block_position extended index (get_or T a 0 + size_at area d a) ≤ l)) bs

  -- where a run starts at b, it is ready
  pub ready_run : (area T : List ℕ) (d b l : ℕ) → (get_or T b 0 ≡ 0 → ⊥) → Ready area T d l (starts b 1 T)
      → (b < d) × (b + size_at area d b ≤ d) × (block_position extended index (get_or T b 0 + size_at area d b) ≤ l)
  ready_run area T d b l e r =
      let h : Ready area T d l (b ∷ []) = rw (starts_one T b e) at r in
      (h.0.0, size_inside area d b h.0.0, h.0.1)

  -- nothing is copied where no run starts
  pub copy_none : (area T : List ℕ) (d b : ℕ) (image : List ℕ) → get_or T b 0 ≡ 0 → image ≡ copied area T d (starts b 1 T) image
  unfolding moved_written
  copy_none area T d b image e = rw (starts_none T b e) (sym (take-append-drop start image))

  -- a run is copied
  pub copy_run : (area T : List ℕ) (d b n at : ℕ) (image out : List ℕ) → (get_or T b 0 ≡ 0 → ⊥) → Ready area T d (length image) (starts b 1 T) → n ≡ size_at area d b
      → at ≡ block_position extended index (get_or T b 0) → out ≡ write at (bytes_at (256 * b) (256 * n) area) image → out ≡ copied area T d (starts b 1 T) image
  unfolding moved_written
  copy_run area T d b n at image out e r f p w =
      let i = ready_run area T d b (length image) e r in
      rw (starts_one T b e) (w ∙ write_block extended index (bytes_at (256 * b) (256 * n) area) image (get_or T b 0) at p (omega arith) ∙ rw f)

  -- the bytes in front of the data area stay, also of an image that ends in front of it and so takes no run
  copied_parts : (area T : List ℕ) (d : ℕ) (bs image out : List ℕ) → Ready area T d (length image) bs → out ≡ copied area T d bs image
      → (take start out ≡ take start image) × (drop start out ≡ moved_written area d T bs (drop start image))
  unfolding moved_written
  copied_parts area T d [] image out r e = rw (e ∙ take-append-drop start image) (refl, refl)
  copied_parts area T d (b ∷ bs) image out (r, rs) e =
      let l : length (take start image) ≡ start = length-take-le start image (omega arith) in
      let y : List ℕ = moved_written area d T (b ∷ bs) (drop start image) in
      rw e (take_at (take start image) y start l, drop_at (take start image) y start l)

  -- what is still to be copied
  abbrev pub Copying : List ℕ → List ℕ → ℕ → ℕ → List ℕ → ℕ → List ℕ → Type 0
  Copying area T d g image₀ b image =
      Ready area T d (length image₀) (starts b (g - b) T) × (copied area T d (starts b (g - b) T) image ≡ copied area T d (starts 0 g T) image₀)

  module _ (area T : List ℕ) (d g : ℕ) (image₀ : List ℕ) (b : ℕ) (image : List ℕ) (inv : Copying area T d g image₀ b image) where
    -- the run at b is ready, if one starts there
    pub copy_ready : b < g → length image ≡ length image₀ → Ready area T d (length image) (starts b 1 T)
    copy_ready h l = rw l (all_front _ (starts b 1 T) (starts (b + 1) (g - (b + 1)) T) (rw (starts_next T b g h) at inv.0))

    -- after one block the others
    pub copy_turn : b < g → length image ≡ length image₀ → (out : List ℕ) → out ≡ copied area T d (starts b 1 T) image → Copying area T d g image₀ (b + 1) out
    copy_turn h l out e =
        let (front, back) = copied_parts area T d (starts b 1 T) image out (copy_ready h l) e in (
          all_back _ (starts b 1 T) (starts (b + 1) (g - (b + 1)) T) (rw (starts_next T b g h) at inv.0),
          rw (front, back, ← copied_append area T d (starts b 1 T) (starts (b + 1) (g - (b + 1)) T) (drop start image)) (rw (starts_next T b g h) at inv.1),
        )

    -- at the end none
    pub copy_end : g ≤ b → image ≡ copied area T d (starts 0 g T) image₀
    unfolding moved_written
    copy_end h = sym (take-append-drop start image) ∙ rw (starts_end T b g h) at inv.1
