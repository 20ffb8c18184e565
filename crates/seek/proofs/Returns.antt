-- What the returns and the turns of the loop show, in the terms of the code.
use Prim.Native.Nat.{ℕ, zero, suc, ◌+◌, ◌-◌, ◌*◌, ◌<◌, ◌≤◌}
use mathlib.Core.Path.{◌≡◌, refl, sym, ap, ◌∙◌}
use mathlib.Core.Logic.{◌⊎◌, inl, inr}
use mathlib.Core.Bool.{Bool, true, false, not}
use mathlib.Core.List.{List, [], ◌∷◌}
use mathlib.Core.Option.{Option, none, some}
use native.Mathlib.Omega.{arith}
use lib.ListN.{length, take, drop}
use Rattle.spec.specs.Outcome.{refused, ok}
use Rattle.spec.specs.Lists as Lists
use Rattle.spec.specs.Bytes.{from_little_endian, bytes_at, no_zero}
use Rattle.spec.specs.Order.{below_of, IsOrder, HeadwordOrder}
use Rattle.spec.specs.Entry.{Entry}
use Rattle.spec.specs.Run.{Run, read_entry, entries_from}
use Rattle.spec.specs.Index.{Element}
use Rattle.spec.specs.Check as Check
use Rattle.spec.specs.Check.{run_from, runs_from, next_headword, all_entries}
use Rattle.spec.specs.SortedList as SortedList
use Rattle.spec.specs.SortedList.{walk_takes, successor}
use Rattle.spec.proofs.OutcomeLaws.{ok_not_refused}
use Rattle.spec.proofs.OrderLaws.{order_of}
use Rattle.spec.proofs.ReadLaws.{entries_ended, entries_more, no_runs, runs_first, run_told, RunsAscend, runs_ascend}
use Rattle.spec.proofs.SearchLaws.{or_else, walk_stops, successor_here, successor_later, run_passed, run_last, run_next}
use Rattle.spec.proofs.WriteLaws.{bytes_at_within}
use Rattle.runs.specs.Step as StepSpec
use Rattle.runs.specs.Step.{Step, step_entry}
use Rattle.runs.specs.Size.{size_told}
use Rattle.runs.specs.declared.EntryPlace.{EntryPlace}
use Rattle.std.specs.Prelude as std
use Rattle.std.specs.Prelude.{Ok, Err, Some, None, MatchOption, IsSome}
use Rattle.std.specs.Result.{result_unwrap_or}
use Rattle.spec.proofs.ListsLaws.{clash}
use Rattle.spec.specs.Answers.{number_of}
use Rattle.spec.specs.declared.Refusal.{Refusal}
use Rattle.runs.proofs.Laws.{told_broken, told_end, told_entry, told_no_zero, none_clean}
use Rattle.runs.proofs.SizeLaws.{broken_seven, blocks_told, run_slice, slice_same, slice_long}
use Rattle.index.specs.Elements as Elements
use Rattle.index.specs.Elements.{element_end, element_headword, element_at, elements_at, Inside, concerned_from}
use Rattle.index.specs.declared.Place.{Place}
use Rattle.index.specs.Walk.{stored}
use Rattle.index.specs.declared.walk.Element as given
use Rattle.index.proofs.Laws.{elements_next, elements_count, concerned_rule, concerned_stops}
use Rattle.seek.specs.Spot.{spot_entry, SpotInside, first_entries}

-- what a search answers
abbrev pub Spot : Type 0
Spot = std.Option EntryPlace

-- ---- takes
-- a test that tells whether a walk from h may answer an entry with the headword u
abbrev pub TakesTold : HeadwordOrder → Bool → List ℕ → List ℕ → Bool → Type 0
TakesTold below above h u r = (body : List ℕ) → r ≡ walk_takes below above h (record { headword = u; body = body })

module _ (below : HeadwordOrder) (above : Bool) (h u : List ℕ) where
  -- from the empty headword every entry is taken
  pub takes_empty : length h ≡ 0 → TakesTold below above h u true
  unfolding SortedList.walk_takes
  takes_empty p = go h p
    where
      go : (k : List ℕ) → length k ≡ 0 → TakesTold below above k u true
      go [] q body = refl
      go (x ∷ k) q body = absurd (omega arith)

  module _ (some_bytes : length h ≡ 0 → ⊥) (b : Bool) where
    -- one above it
    pub takes_above : above ≡ true → b ≡ below h u → TakesTold below above h u b
    unfolding SortedList.walk_takes
    takes_above t p = rw t (go h some_bytes p)
      where
        go : (k : List ℕ) → (length k ≡ 0 → ⊥) → b ≡ below k u → TakesTold below true k u b
        go [] q p body = absurd (q refl)
        go (x ∷ k) q p body = p

    -- one not below it
    pub takes_from : above ≡ false → b ≡ below u h → TakesTold below above h u (not b)
    unfolding SortedList.walk_takes
    takes_from t p = rw t (go h some_bytes p)
      where
        go : (k : List ℕ) → (length k ≡ 0 → ⊥) → b ≡ below u k → TakesTold below false k u (not b)
        go [] q p body = absurd (q refl)
        go (x ∷ k) q p body = ap not p

-- ---- find_in_run
-- what entries that were read tell of the first step, whatever the bound
module _ (low : HeadwordOrder) (prev s : List ℕ) (es : List Entry) where
  -- no entry rule is broken
  never_broken : (fuel : ℕ) → entries_from low fuel prev s ≡ ok es → (k : ℕ) → read_entry low prev s ≡ refused k → ⊥
  unfolding entries_from
  never_broken zero h k r = ok_not_refused es 8 (sym h)
  never_broken (suc m) h k r = ok_not_refused es k (sym h ∙ rw r)

  -- at the end there are none
  ended : (fuel : ℕ) → entries_from low fuel prev s ≡ ok es → read_entry low prev s ≡ ok none → es ≡ []
  unfolding entries_from
  ended zero h r = absurd (ok_not_refused es 8 (sym h))
  ended (suc m) h r = entries_ended low m prev s es h r

  -- an entry is the first of them, and the others are read behind it
  went_on : (fuel : ℕ) → entries_from low fuel prev s ≡ ok es → (d : Entry) (rest : List ℕ) → read_entry low prev s ≡ ok (some (d, rest))
      → (m : ℕ) × (ds : List Entry) × (entries_from low m d.headword rest ≡ ok ds) × (es ≡ d ∷ ds)
  unfolding entries_from
  went_on zero h d rest r = absurd (ok_not_refused es 8 (sym h))
  went_on (suc m) h d rest r =
      let (ds, u, v) = entries_more low m prev s es h d rest r in
      (m, ds, u, v)

-- nothing is found among no entries
successor_none : (below : HeadwordOrder) (above : Bool) (h : List ℕ) → successor below above h [] ≡ none
unfolding SortedList.successor Lists.filter Lists.first
successor_none below above h = refl

-- what a search through a run finds, where its entries can be read
abbrev pub FoundIn : HeadwordOrder → HeadwordOrder → Bool → List ℕ → List ℕ → List ℕ → Spot → Type 0
FoundIn low below above h run word r = (fuel : ℕ) (es : List Entry) → entries_from low fuel [] (drop 2 run) ≡ ok es → spot_entry run word r ≡ successor below above h es

-- the entries from a position on, which answer as all do
pub record Onward (low : HeadwordOrder) (below : HeadwordOrder) (above : Bool) (h prev s : List ℕ) (all : List Entry) : Type 0 where
  pub fuel : ℕ
  pub entries : List Entry
  pub read : entries_from low fuel prev s ≡ ok entries
  pub same : successor below above h all ≡ successor below above h entries

-- all entries before a position are passed
pub record Passing (low : HeadwordOrder) (below : HeadwordOrder) (above : Bool) (h run word₀ word : List ℕ) (pos held : ℕ) : Type 0 where
  pub start : 2 ≤ pos
  pub inside : pos ≤ length run
  pub room : 248 ≤ length word
  pub kept : length word ≡ length word₀
  pub short : held ≤ 248
  pub clean : no_zero (take held word) ≡ true
  pub rest : (fuel : ℕ) (es : List Entry) → entries_from low fuel [] (drop 2 run) ≡ ok es → Onward low below above h (take held word) (drop pos run) es

-- at first none is passed
pub passing_start : (low : HeadwordOrder) (below : HeadwordOrder) (above : Bool) (h run word : List ℕ) → 2 ≤ length run → 248 ≤ length word → Passing low below above h run word word 2 0
passing_start low below above h run word p q =
    record {
      start = omega arith;
      inside = p;
      room = q;
      kept = refl;
      short = omega arith;
      clean = none_clean;
      rest = λ fuel es r. record { fuel = fuel; entries = es; read = r; same = refl };
    }

-- an entry that a step found
entry_of_step : (st : Step) (e : EntryPlace) → result_unwrap_or st None ≡ Some e → st ≡ Ok (Some e)
entry_of_step (Err k) e p = clash (cc)
entry_of_step (Ok None) e p = clash (cc)
entry_of_step (Ok (Some d)) e p = ap Ok p

module _ (low : HeadwordOrder) (order : ℕ) (above : Bool) (h run word₀ word : List ℕ) (pos held : ℕ) (v : Passing low (below_of order) above h run word₀ word pos held) (st : Step) (word' : List ℕ)
    (step : step_entry run word' st ≡ read_entry low (take held word) (drop pos run)) where
  -- an entry rule is broken, so that the entries cannot be read, or they end
  pub find_end : result_unwrap_or st None ≡ None → FoundIn low (below_of order) above h run word' None
  unfolding spot_entry
  find_end p fuel es r = go (v.rest fuel es r) st refl
    where
      go : Onward low (below_of order) above h (take held word) (drop pos run) es → (t : Step) → st ≡ t → none ≡ successor (below_of order) above h es
      go o (Err k) q =
          absurd (never_broken low (take held word) (drop pos run) o.entries o.fuel o.read (number_of k)
          (told_broken low (take held word) (drop pos run) run word' st step k q))
      go o (Ok None) q =
          let e : o.entries ≡ [] = ended low (take held word) (drop pos run) o.entries o.fuel o.read (told_end low (take held word) (drop pos run) run word' st step q) in
          sym (o.same ∙ ap (successor (below_of order) above h) e ∙ successor_none (below_of order) above h)
      go o (Ok (Some e)) q =
          let none_there : ◌≡◌ {A = Spot} (Some e) None = rw q at p in
          clash (cc)

  module _ (e : EntryPlace) (p : result_unwrap_or st None ≡ Some e) (b : Bool) (t : TakesTold (below_of order) above h (take e.length word') b) where
    q : st ≡ Ok (Some e)
    q = entry_of_step st e p

    -- the entry of the step
    abbrev found : Entry
    found = record { headword = take e.length word'; body = bytes_at (e.zero + 1) (e.next - (e.zero + 1)) run }

    -- it is the next of the entries
    onward : (fuel : ℕ) (es : List Entry) → entries_from low fuel [] (drop 2 run) ≡ ok es
        → (m : ℕ) × (ds : List Entry) × (entries_from low m (take e.length word') (drop e.next run) ≡ ok ds) × (successor (below_of order) above h es ≡ successor (below_of order) above h (found ∷ ds))
    onward fuel es r =
        let o = v.rest fuel es r in
        let (m, ds, u, e)
        = went_on low (take held word) (drop pos run) o.entries o.fuel o.read found (drop e.next run)
        (told_entry low (take held word) (drop pos run) run word' st step e q) in
        (m, ds, u, o.same ∙ ap (successor (below_of order) above h) e)

    -- the entry is taken
    pub find_entry : b ≡ true → FoundIn low (below_of order) above h run word' (Some e)
    unfolding spot_entry
    find_entry y fuel es r =
        let (m, ds, u, e) = onward fuel es r in
        sym (e ∙ successor_here (below_of order) (order_of order) above h found ds (sym (t found.body) ∙ y))

    -- it is passed
    pub find_turn : b ≡ false → StepSpec.Inside pos run st → length word' ≡ length word → Passing low (below_of order) above h run word₀ word' e.next e.length
    find_turn y inside l =
        let i = inside e q in
        record {
          start = omega (arith, v.start, i.0, i.1);
          inside = i.2;
          room = omega (arith, v.room);
          kept = l ∙ v.kept;
          short = i.5;
          clean = told_no_zero low (take held word) (drop pos run) run word' st step e q;
          rest = λ fuel es r.
              let (m, ds, u, e) = onward fuel es r in
              record { fuel = m; entries = ds; read = u; same = e ∙ successor_later (below_of order) (order_of order) above h found ds (sym (t found.body) ∙ y) };
        }

    -- behind a position it is behind each before it
    pub inside_from : StepSpec.Inside pos run st → StepSpec.Inside 2 run (Ok (Some e))
    inside_from h d s =
        let (a₀, a₁, a₂, a₃, a₄, a₅) = h d (q ∙ s) in
        (omega (arith, v.start), a₁, a₂, a₃, a₄, a₅)

-- ---- find_at
-- what a search in the run of an element finds, where that can be read
abbrev pub FoundAt : HeadwordOrder → HeadwordOrder → Bool → List ℕ → ℕ → List ℕ → Element → List ℕ → Spot → Type 0
FoundAt low below above h D area e word r = (next : Option (List ℕ)) (q : Run) → run_from low D area e next ≡ ok q → spot_entry area word r ≡ successor below above h q.entries

module _ (low : HeadwordOrder) (below : HeadwordOrder) (above : Bool) (h : List ℕ) (D : ℕ) (area : List ℕ) (d : Element) where
  -- row 7: there is no run
  pub at_unplaced : (word : List ℕ) (k : Refusal) → Err k ≡ size_told D area d.block → FoundAt low below above h D area d word None
  at_unplaced word k told next q r = absurd (ok_not_refused q (number_of k) (sym r ∙ broken_seven D area d.block (Err k) told k refl low d next refl))

  module _ (whole : 256 * D ≤ length area) (n : ℕ) (told : Ok n ≡ size_told D area d.block) where
    -- the run is placed as row 7 asks
    placed : (d.block < D) × (n ≡ from_little_endian (bytes_at (256 * d.block) 2 area)) × (1 ≤ n) × (n ≤ 32_767) × (d.block + n ≤ D)
    placed = blocks_told D area d.block (Ok n) told n refl

    -- so many bytes are searched
    slice_bytes : length (run_slice area d.block n) ≡ 256 * n
    slice_bytes = slice_long area d.block n D whole placed.4

    -- its bytes lie inside the data area
    at_area : 256 * d.block + 256 * n ≤ length area
    at_area = omega (arith, placed.4, whole)

    -- the bytes searched are the run's
    same_run : (next : Option (List ℕ)) (q : Run) → run_from low D area d next ≡ ok q → entries_from low (suc (length q.bytes)) [] (drop 2 (run_slice area d.block n)) ≡ ok q.entries
    same_run next q r =
        let t = run_told low D area d next q r in
        let s : q.size ≡ n = t.size ∙ sym placed.1 in
        let e : q.bytes ≡ run_slice area d.block n = t.bytes ∙ rw (t.block, s) (sym (slice_same area d.block n)) in
        rw (← e) t.read

    module _ (word : List ℕ) (p : Spot) (f : FoundIn low below above h (run_slice area d.block n) word p) where
      -- nothing is found
      pub at_end : p ≡ None → FoundAt low below above h D area d word None
      unfolding spot_entry
      at_end y next q r = sym (ap (spot_entry (run_slice area d.block n) word) y) ∙ f (suc (length q.bytes)) q.entries (same_run next q r)

      module _ (i : StepSpec.Inside 2 (run_slice area d.block n) (Ok p)) (e : EntryPlace) (y : p ≡ Some e) where
        -- where an entry that is found stands in its run
        here : (5 ≤ e.zero) × (e.zero + 2 ≤ e.next) × (e.next ≤ 256 * n) × (e.next ≤ e.zero + 3002) × (1 ≤ e.length) × (e.length ≤ 248)
        here =
            let (a₀, a₁, a₂, a₃, a₄, a₅) = i e (ap Ok y) in
            (a₀, a₁, omega (arith, slice_bytes), a₃, a₄, a₅)

        -- it is found
        pub at_entry : FoundAt low below above h D area d word (Some (record { length = e.length; zero = 256 * d.block + e.zero; next = 256 * d.block + e.next }))
        unfolding spot_entry
        at_entry next q r =
            let b : ℕ = d.block in
            let l : 256 * b + e.next - (256 * b + e.zero + 1) ≡ e.next - (e.zero + 1) = omega arith in
            let m : 256 * b + (e.zero + 1) ≡ 256 * b + e.zero + 1 = omega arith in
            let body_same : bytes_at (e.zero + 1) (e.next - (e.zero + 1)) (run_slice area b n) ≡ bytes_at (256 * b + e.zero + 1) (256 * b + e.next - (256 * b + e.zero + 1)) area
            = rw (l, ← m, slice_same area b n) (bytes_at_within (256 * b) (256 * n) (e.zero + 1) (e.next - (e.zero + 1)) area (omega (arith, here))) in
            let u : spot_entry area word (Some (record { length = e.length; zero = 256 * b + e.zero; next = 256 * b + e.next })) ≡ spot_entry (run_slice area b n) word (Some e) = rw body_same in
            u ∙ sym (ap (spot_entry (run_slice area b n) word) y) ∙ f (suc (length q.bytes)) q.entries (same_run next q r)

        -- inside the data area
        pub at_inside : SpotInside area (Some (record { length = e.length; zero = 256 * d.block + e.zero; next = 256 * d.block + e.next }))
        at_inside = (omega (arith, here), omega (arith, here, at_area), omega (arith, here), here.4, here.5)

-- ---- find_next
-- what a search in the first run of elements finds, where their runs can be read
abbrev pub FoundFirst : HeadwordOrder → HeadwordOrder → Bool → List ℕ → ℕ → List ℕ → List Element → List ℕ → Spot → Type 0
FoundFirst low below above h D area es word r = (rs : List Run) → runs_from low D area es ≡ ok rs → spot_entry area word r ≡ successor below above h (first_entries rs)

module _ (low : HeadwordOrder) (below : HeadwordOrder) (above : Bool) (h : List ℕ) (D : ℕ) (area : List ℕ) (es : List Element) (word : List ℕ) where
  -- there is no run
  pub next_none : es ≡ [] → FoundFirst low below above h D area es word None
  unfolding first_entries spot_entry
  next_none z rs r = rw (no_runs low D area rs (rw z at r)) (sym (successor_none below above h))

  -- the run of the next element
  pub next_found : (d : Element) (ds : List Element) → es ≡ d ∷ ds → (a : Spot) → FoundAt low below above h D area d word a → FoundFirst low below above h D area es word a
  unfolding first_entries
  next_found d ds z a f rs r =
      let (q, qs, y, u, k) = runs_first low D area d ds rs (rw z at r) in
      rw y (f (next_headword ds) q u)

-- ---- seek
-- what a search through the runs of elements finds, where they can be read
abbrev pub Sought : HeadwordOrder → HeadwordOrder → Bool → List ℕ → ℕ → List ℕ → List Element → List ℕ → Spot → Type 0
Sought low below above h D area es word r = (rs : List Run) → runs_from low D area es ≡ ok rs → spot_entry area word r ≡ successor below above h (all_entries rs)

-- no elements, no runs
pub seek_none : (low : HeadwordOrder) (below : HeadwordOrder) (above : Bool) (h : List ℕ) (D : ℕ) (area word : List ℕ) (es : List Element) → es ≡ [] → Sought low below above h D area es word None
unfolding Check.all_entries spot_entry
seek_none low below above h D area word es z rs r = rw (no_runs low D area rs (rw z at r)) (sym (successor_none below above h))

-- the first of elements, and the others
first_is : (d e : Element) (ds es : List Element) → d ∷ ds ≡ e ∷ es → (d ≡ e) × (ds ≡ es)
first_is d e ds es h = (cc, cc)

module _ (w : ℕ) where
  module _ (low : HeadwordOrder) (order : IsOrder low) (above : Bool) (h : List ℕ) (D : ℕ) (area index : List ℕ) where
    -- the answer among entries
    abbrev answer : List Entry → Option Entry
    answer = successor low above h

    -- and among those of runs
    abbrev answers : List Run → Option Entry
    answers rs = answer (all_entries rs)

    -- the runs from an element on, which answer as all do
    record Reached (all : List Run) (at left : ℕ) : Type 0 where
      runs : List Run
      read : runs_from low D area (elements_at w index at left) ≡ ok runs
      same : answers all ≡ answers runs

    -- a run is passed where the next headword is not above the given one
    reached_next : (all : List Run) (at n : ℕ) → Reached all at (suc (suc n)) → low h (element_headword w index (element_end w index at + 1)) ≡ false → Reached all (element_end w index at + 1) (suc n)
    unfolding Elements.elements_at Elements.element_at
    reached_next all at n v not_above =
        let next : ℕ = element_end w index at + 1 in
        let others : List Element = elements_at w index (element_end w index next + 1) n in
        let (r, rs, p, u, k) = runs_first low D area (element_at w index at) (elements_at w index next (suc n)) v.runs v.read in
        let (q, qs, p', u', k') = runs_first low D area (element_at w index next) others rs k in
        let t = run_told low D area (element_at w index next) (next_headword others) q u' in
        let e : v.runs ≡ r ∷ q ∷ qs = p ∙ ap (λ (l : List Run). r ∷ l) p' in
        let a : RunsAscend low (r ∷ q ∷ qs) = rw e at (runs_ascend low D area (elements_at w index at (suc (suc n))) v.runs v.read) in
        let s : answers (r ∷ q ∷ qs) ≡ answers (q ∷ qs) = run_passed low order above h r q qs a (rw t.headword not_above) in
        record { runs = rs; read = k; same = v.same ∙ ap answers e ∙ s ∙ ap answers (sym p') }

    -- the first of the runs from an element on, and the others, of which the next may have the answer
    record Divided (rs : List Run) (at left : ℕ) : Type 0 where
      run : Run
      others : List Run
      behind : Option (List ℕ)
      read : run_from low D area (element_at w index at) behind ≡ ok run
      read_others : runs_from low D area (elements_at w index (element_end w index at + 1) (left - 1)) ≡ ok others
      same : answers rs ≡ or_else (answer run.entries) (answer (first_entries others))

    -- an answer, or else none
    or_none : (o : Option Entry) → o ≡ or_else o none
    or_none none = refl
    or_none (some e) = refl

    -- so they are where no headword follows, or one above the given one
    divided : (at left : ℕ) (rs : List Run) → 1 ≤ left → (left ≡ 1) ⊎ (low h (element_headword w index (element_end w index at + 1)) ≡ true)
        → runs_from low D area (elements_at w index at left) ≡ ok rs → Divided rs at left
    unfolding Elements.elements_at Elements.element_at first_entries Lists.first
    divided at zero rs p s k = absurd (omega arith)
    divided at (suc zero) rs p s k =
        let (r, rs', e, u, k') = runs_first low D area (element_at w index at) [] rs k in
        let z : rs' ≡ [] = no_runs low D area rs' k' in
        record {
          run = r;
          others = [];
          behind = next_headword [];
          read = u;
          read_others = rw z at k';
          same = ap answers (e ∙ ap (λ (l : List Run). r ∷ l) z) ∙ run_last low order above h r ∙ or_none (answer r.entries) ∙ ap (or_else (answer r.entries)) (sym (successor_none low above h));
        }
    divided at (suc (suc n)) rs p (inl s) k = absurd (omega arith)
    divided at (suc (suc n)) rs p (inr up) k =
        let next : ℕ = element_end w index at + 1 in
        let others : List Element = elements_at w index (element_end w index next + 1) n in
        let (r, rs₁, e₁, u₁, k₁) = runs_first low D area (element_at w index at) (elements_at w index next (suc n)) rs k in
        let (q, rs₂, e₂, u₂, k₂) = runs_first low D area (element_at w index next) others rs₁ k₁ in
        let t = run_told low D area (element_at w index next) (next_headword others) q u₂ in
        let a : RunsAscend low (q ∷ rs₂) = rw e₂ at (runs_ascend low D area (elements_at w index next (suc n)) rs₁ k₁) in
        let b : low h q.headword ≡ true = rw t.headword up in
        let f : answer (t.first ∷ t.others) ≡ some t.first = successor_here low order above h t.first t.others (walk_stops low order above h t.first (rw t.first_headword b)) in
        let g : answer q.entries ≡ Lists.first q.entries = rw t.entries f in
        let j : suc (suc n) - 1 ≡ suc n = omega arith in
        let s : answers (r ∷ q ∷ rs₂) ≡ or_else (answer r.entries) (answer q.entries) = rw g (run_next low order above h r q rs₂ a b) in
        record {
          run = r;
          others = q ∷ rs₂;
          behind = next_headword (elements_at w index next (suc n));
          read = u₁;
          read_others = rw j (rw e₂ at k₁);
          same = ap answers (e₁ ∙ ap (λ (l : List Run). r ∷ l) e₂) ∙ s;
        }

    module _ (elements : ℕ) (some_elements : elements ≡ 0 → ⊥) (c : Place) (concerned : c ≡ concerned_from w low index h 0 (elements - 1)) (some_left : 1 ≤ c.left) where
      -- the run concerned and those behind it have the answer
      reached : (rs : List Run) → runs_from low D area (elements_at w index 0 elements) ≡ ok rs → Reached rs c.at c.left
      reached rs r =
          let e : suc (elements - 1) ≡ elements = omega arith in
          rw concerned (concerned_rule w low index h 0 (elements - 1) (λ at left. Reached rs at left) (rw e (record { runs = rs; read = r; same = refl })) (λ at k v low. reached_next rs at k v low))

      -- behind it stands none, or one whose headword is above the given one
      stops : (c.left ≡ 1) ⊎ (low h (element_headword w index (element_end w index c.at + 1)) ≡ true)
      stops = rw concerned (concerned_stops w low index h 0 (elements - 1))

      -- so that all are divided there
      concerned_divided : (rs : List Run) → runs_from low D area (elements_at w index 0 elements) ≡ ok rs → Divided rs c.at c.left
      concerned_divided rs r =
          let v = reached rs r in
          let d = divided c.at c.left v.runs some_left stops v.read in
          record { run = d.run; others = d.others; behind = d.behind; read = d.read; read_others = d.read_others; same = v.same ∙ d.same }

      module _ (word : List ℕ) (found : Spot) (f : FoundAt low low above h D area (element_at w index c.at) word found) where
        -- the run concerned has the answer
        sought_here : (e : EntryPlace) → found ≡ Some e → Sought low low above h D area (elements_at w index 0 elements) word (Some e)
        unfolding spot_entry
        sought_here e y rs r =
            let d = concerned_divided rs r in
            let s : spot_entry area word (Some e) ≡ answer d.run.entries = rw y at (f d.behind d.run d.read) in
            sym (d.same ∙ rw (← s))

        -- the next one has it
        sought_next : found ≡ None → (word' : List ℕ) (a : Spot) → FoundFirst low low above h D area (elements_at w index (element_end w index c.at + 1) (c.left - 1)) word' a
            → Sought low low above h D area (elements_at w index 0 elements) word' a
        unfolding spot_entry
        sought_next y word' a g rs r =
            let d = concerned_divided rs r in
            let s : spot_entry area word None ≡ answer d.run.entries = rw y at (f d.behind d.run d.read) in
            g d.others d.read_others ∙ sym (d.same ∙ rw (← s))

  -- where elements are left an iterator gives one
  pub some_given : (index : List ℕ) (at left : ℕ) (from ds : List Element) → from ≡ elements_at w index at left → 1 ≤ left
      → (next : std.Option given.Element) → MatchOption next ((from ≡ []) × (ds ≡ [])) (λ e. from ≡ stored e ∷ ds) → IsSome next
  some_given index at left from ds all some_left None steps =
      let l : length (elements_at w index at left) ≡ 0 = ap length (sym all ∙ steps.0) in
      absurd (omega (arith, l, some_left, elements_count w index at left))
  some_given index at left from ds all some_left (Some e) steps = refl

  module _ (order : ℕ) (above : Bool) (h : List ℕ) (D : ℕ) (area index : List ℕ) (at elements : ℕ) (start : at ≡ 0) (some_elements : elements ≡ 0 → ⊥) (c : Place)
      (concerned : c ≡ concerned_from w (below_of order) index h 0 (elements - 1)) (some_left : 1 ≤ c.left) (from : List Element)
      (given : from ≡ elements_at w index c.at c.left) where
    module _ (d : Element) (ds : List Element) (split : from ≡ d ∷ ds) where
      parts : (d ≡ element_at w index c.at) × (ds ≡ elements_at w index (element_end w index c.at + 1) (c.left - 1))
      parts = first_is _ _ _ _ (sym split ∙ given ∙ elements_next w index c.at c.left some_left)

      -- it has the answer
      pub seek_here : (word : List ℕ) (e : EntryPlace) → FoundAt (below_of order) (below_of order) above h D area d word (Some e)
          → Sought (below_of order) (below_of order) above h D area (elements_at w index at elements) word (Some e)
      seek_here word e f =
          rw start
          (sought_here (below_of order) (order_of order) above h D area index elements some_elements c concerned some_left word (Some e) (rw parts.0 at f) e refl)

      -- the next one has it
      pub seek_next : (word' : List ℕ) (a : Spot) → FoundFirst (below_of order) (below_of order) above h D area ds word' a
          → (word : List ℕ) (found : Spot) → FoundAt (below_of order) (below_of order) above h D area d word found
          → found ≡ None → Sought (below_of order) (below_of order) above h D area (elements_at w index at elements) word' a
      seek_next word' a g word found f y =
          rw start
          (sought_next (below_of order) (order_of order) above h D area index elements some_elements c concerned some_left word found (rw parts.0 at f) y word' a (rw parts.1 at g))
