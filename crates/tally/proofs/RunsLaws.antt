-- What the walk over all runs shows, in the terms of the code.
use Prim.Native.Nat.{ℕ, zero, suc, ◌+◌, ◌-◌, ◌*◌, ◌<◌, ◌≤◌}
use mathlib.Core.Path.{◌≡◌, refl, sym, ap, ◌∙◌}
use mathlib.Core.Bool.{Bool, true, false, not}
use mathlib.Core.List.{List, [], ◌∷◌, ◌++◌, append_assoc, append-nil}
use mathlib.Core.Option.{Option, none, some}
use native.Mathlib.Omega.{arith}
use native.Mathlib.Nat.{add-zero}
use lib.ListN.{length, take, drop, length-append}
use lib.Seq.{length-take-le}
use borrow.Author.Tests.{lt-ltb, le-ltb, ne_eqb}
use Rattle.std.specs.Prelude as std
use Rattle.std.specs.Prelude.{Ok, Err, Some, None, MatchOption}
use Rattle.spec.specs.Outcome.{Outcome, refused, ok, ◌>>=◌, ◌>>◌, refuse◌when◌}
use Rattle.spec.specs.Answers.{number_of}
use Rattle.spec.specs.declared.Refusal.{Refusal}
use Rattle.spec.specs.Bytes.{bytes_at, no_zero, bytes_equal}
use Rattle.spec.specs.Order.{below_of, HeadwordOrder}
use Rattle.spec.specs.Entry.{Entry}
use Rattle.spec.proofs.IndexLaws.{headword_no_zero}
use Rattle.spec.proofs.RunLaws.{head_bounds}
use Rattle.spec.proofs.ReadLaws as Read
use Rattle.spec.proofs.ReadLaws.{entry_told, first_told, same_bytes, ends_last}
use Rattle.spec.specs.Run as RunSpec
use Rattle.spec.specs.Run.{Run, read_entry, entries_from}
use Rattle.spec.specs.Index.{Element}
use Rattle.spec.specs.Blocks as BlocksSpec
use Rattle.spec.specs.Blocks.{run_blocks}
use Rattle.spec.specs.Check as CheckSpec
use Rattle.spec.specs.Check.{first_entry, ends_below, run_from, next_headword, runs_from, all_entries}
use Rattle.runs.specs.Step as StepSpec
use Rattle.runs.specs.Step.{Step, step_entry, Kept}
use Rattle.runs.specs.declared.EntryPlace.{EntryPlace}
use Rattle.runs.proofs.Laws.{told_broken, told_end, told_entry}
use Rattle.runs.specs.Size.{size_told}
use Rattle.runs.proofs.SizeLaws.{broken_seven, blocks_told, run_slice, slice_same, slice_long}
use Rattle.index.specs.Elements as Elements
use Rattle.index.specs.Elements.{element_end, elements_at, Inside}
use Rattle.index.specs.Walk.{stored}
use Rattle.index.specs.declared.walk.Element as given
use Rattle.marks.specs.Marks.{with_range}
use Rattle.tally.specs.Tally.{covered, tally, runs_answer, last_below, Started, waiting}

-- the entries of a run of these bytes, the first of which is to have the headword h
unfoldable pub entries_under : HeadwordOrder → List ℕ → List ℕ → Outcome (List Entry)
entries_under below h run = do
  p ← first_entry below h (drop 2 run)
  es ← entries_from below (length run) p.0.headword p.1
  ok (p.0 ∷ es)

-- they are read, so many, and the last one's headword is the first `held` bytes of word
pub record Entries (below : HeadwordOrder) (h run word : List ℕ) (count held : ℕ) : Type 0 where
  pub few : count ≤ length run
  pub short : held ≤ 248
  pub earlier : List Entry
  pub last : Entry
  pub read : entries_under below h run ≡ ok (earlier ++ last ∷ [])
  pub counted : count ≡ suc (length earlier)
  pub last_word : last.headword ≡ take held word

-- the run of an element by its entries
abbrev closed : HeadwordOrder → Element → Option (List ℕ) → ℕ → List ℕ → List Entry → Outcome Run
closed below e next n bytes es = do
  refuse 8 when not (ends_below below next es)
  ok (record { headword = e.headword; block = e.block; size = n; bytes = bytes; entries = es })

module _ (below : HeadwordOrder) where
  -- whether entries end below the next headword is told by the last
  ends_by_last : (next : Option (List ℕ)) (es : List Entry) (e : Entry) → ends_below below next (es ++ e ∷ []) ≡ last_below below e.headword next
  unfolding last_below
  ends_by_last none es e = Read.ends_none below (es ++ e ∷ [])
  ends_by_last (some k) es e = ends_last below k es e

  -- a run that row 7 lets pass is told by its entries
  placed : (D : ℕ) (area : List ℕ) (e : Element) (next : Option (List ℕ)) (n : ℕ) → Ok n ≡ size_told D area e.block → (bytes : List ℕ) → bytes ≡ bytes_at (256 * e.block) (256 * n) area
      → run_from below D area e next ≡ (entries_under below e.headword bytes >>= closed below e next n bytes)
  unfolding CheckSpec.run_from entries_under
  placed D area e next n told bytes b =
      let (p, count, some_blocks, few, inside) = blocks_told D area e.block (Ok n) told n refl in
      rw (lt-ltb e.block D p, ← count, ne_eqb n 0 (λ z. omega (arith, some_blocks)), le-ltb 32_767 n few, le-ltb D (e.block + n) inside, ← b)
      (go (first_entry below e.headword (drop 2 bytes)))
    where
      others : (p : Entry × List ℕ) (o : Outcome (List Entry)) → (o >>= λ es. closed below e next n bytes (p.0 ∷ es)) ≡ ((o >>= λ es. ok (p.0 ∷ es)) >>= closed below e next n bytes)
      others p (refused k) = refl
      others p (ok es) = refl

      go : (o : Outcome (Entry × List ℕ)) → (o >>= λ p. entries_from below (length bytes) p.0.headword p.1 >>= λ es. closed below e next n bytes (p.0 ∷ es))
          ≡ ((o >>= λ p. entries_from below (length bytes) p.0.headword p.1 >>= λ es. ok (p.0 ∷ es)) >>= closed below e next n bytes)
      go (refused k) = refl
      go (ok p) = others p (entries_from below (length bytes) p.0.headword p.1)

-- entries that are read by one step and the steps behind it
entries_next : (below : HeadwordOrder) (m : ℕ) (prev s rest : List ℕ) (d : Entry) → read_entry below prev s ≡ ok (some (d, rest))
    → entries_from below (suc m) prev s ≡ (entries_from below m d.headword rest >>= λ ds. ok (d ∷ ds))
unfolding RunSpec.entries_from
entries_next below m prev s rest d h = rw h

-- ---- the first entry of a run
module _ (below : HeadwordOrder) (h run word' : List ℕ) (st : Step) (step : step_entry run word' st ≡ read_entry below [] (drop 2 run)) where
  -- an entry rule is broken
  pub started_broken : (r : Refusal) → st ≡ Err r → first_entry below h (drop 2 run) ≡ refused (number_of r)
  unfolding CheckSpec.first_entry
  started_broken r e = rw (told_broken below [] (drop 2 run) run word' st step r e)

  -- a run without entries
  pub started_none : st ≡ Ok None → first_entry below h (drop 2 run) ≡ refused 8
  unfolding CheckSpec.first_entry
  started_none e = rw (told_end below [] (drop 2 run) run word' st step e)

  module _ (d : EntryPlace) (e : st ≡ Ok (Some d)) (b : Bool) (same : b ≡ bytes_equal (take d.length word') h) where
    found : read_entry below [] (drop 2 run) ≡ ok (some (record { headword = take d.length word'; body = bytes_at (d.zero + 1) (d.next - (d.zero + 1)) run }, drop d.next run))
    found = told_entry below [] (drop 2 run) run word' st step d e

    -- it is not the element's
    pub started_other : b ≡ false → first_entry below h (drop 2 run) ≡ refused 8
    unfolding CheckSpec.first_entry
    started_other f = rw (found, ← same, f)

    -- it is the element's
    pub started_same : b ≡ true → StepSpec.Inside 2 run st → 248 ≤ length word' → Started below h run word' (Ok d.next)
    unfolding CheckSpec.first_entry
    started_same t inside room =
        let i = inside d e in
        let v : take d.length word' ≡ h = same_bytes (take d.length word') h (sym same ∙ t) in
        let l : length h ≡ d.length = ap length (sym v) ∙ length-take-le d.length word' (omega (arith, i.5)) in
        (omega (arith, i.0, i.1), i.2, rw l v, bytes_at (d.zero + 1) (d.next - (d.zero + 1)) run, rw (← v) (rw (found, ← same, t)))

-- ---- the entries of a run, the first of which is to have the headword h
-- so many are read, up to pos; the last one's headword is in the buffer
pub record Reading (below : HeadwordOrder) (h run word : List ℕ) (held pos count : ℕ) : Type 0 where
  pub fuel : ℕ
  pub room : length run ≤ pos + fuel
  pub inside : pos ≤ length run
  pub few : count ≤ pos
  pub buffer : 248 ≤ length word
  pub short : held ≤ 248
  pub clean : no_zero (take held word) ≡ true
  pub earlier : List Entry
  pub last : Entry
  pub last_word : last.headword ≡ take held word
  pub counted : count ≡ suc (length earlier)
  pub rest : entries_under below h run ≡ (entries_from below (suc fuel) (take held word) (drop pos run) >>= λ es. ok ((earlier ++ last ∷ []) ++ es))

module _ (below : HeadwordOrder) (h run : List ℕ) where
  -- the first entry is broken or not the element's
  pub first_refused : (r : Refusal) → first_entry below h (drop 2 run) ≡ refused (number_of r) → entries_under below h run ≡ refused (number_of r)
  unfolding entries_under
  first_refused r q = rw q

  -- the first entry is read
  pub reading_start : (word' : List ℕ) (x : ℕ) → Started below h run word' (Ok x) → 248 ≤ length word' → Reading below h run word' (length h) x 1
  unfolding entries_under
  reading_start word' x (two, inside, whole, body, g) room =
      let d : Entry = record { headword = h; body = body } in
      let (r, same) = first_told below h (drop 2 run) (d, drop x run) g in
      let (good, less) = entry_told below [] (drop 2 run) d (drop x run) r in
      let j : suc (length run - 1) ≡ length run = omega arith in
      record {
        fuel = length run - 1;
        room = omega arith;
        inside = inside;
        few = omega arith;
        buffer = room;
        short = (head_bounds h good.0).1;
        clean = rw whole (headword_no_zero h good.0);
        earlier = [];
        last = d;
        last_word = sym whole;
        counted = refl;
        rest = rw (j, whole, g);
      }

module _ (below : HeadwordOrder) (h run word : List ℕ) (held pos count : ℕ) (v : Reading below h run word held pos count) (st : Step)
    (word' : List ℕ) (step : step_entry run word' st ≡ read_entry below (take held word) (drop pos run)) where
  -- an entry rule is broken
  pub reading_broken : (r : Refusal) → st ≡ Err r → entries_under below h run ≡ refused (number_of r)
  unfolding RunSpec.entries_from
  reading_broken r q = v.rest ∙ rw (told_broken below (take held word) (drop pos run) run word' st step r q)

  -- the entries end
  pub reading_end : st ≡ Ok None → Kept word word' st → Entries below h run word' count held
  unfolding RunSpec.entries_from
  reading_end q kept =
      record {
        few = omega (arith, v.few, v.inside);
        short = v.short;
        earlier = v.earlier;
        last = v.last;
        read = v.rest ∙ rw (told_end below (take held word) (drop pos run) run word' st step q, append-nil (v.earlier ++ v.last ∷ []));
        counted = v.counted;
        last_word = rw (kept q) v.last_word;
      }

  -- one entry more
  pub reading_turn : StepSpec.Inside pos run st → (e : EntryPlace) → st ≡ Ok (Some e) → length word' ≡ length word → Reading below h run word' e.length e.next (count + 1)
  reading_turn place e q l =
      let i = place e q in
      let d : Entry = record { headword = take e.length word'; body = bytes_at (e.zero + 1) (e.next - (e.zero + 1)) run } in
      let t : read_entry below (take held word) (drop pos run) ≡ ok (some (d, drop e.next run)) = told_entry below (take held word) (drop pos run) run word' st step e q in
      let (good, less) = entry_told below (take held word) (drop pos run) d (drop e.next run) t in
      let j : suc (v.fuel - 1) ≡ v.fuel = omega (arith, v.room) in
      record {
        fuel = v.fuel - 1;
        room = omega (arith, v.room);
        inside = i.2;
        few = omega (arith, v.few);
        buffer = rw l v.buffer;
        short = i.5;
        clean = headword_no_zero (take e.length word') good.0;
        earlier = v.earlier ++ v.last ∷ [];
        last = d;
        last_word = refl;
        counted = rw length-append (omega (arith, v.counted));
        rest =
            rw j (v.rest
            ∙ rw (entries_next below v.fuel (take held word) (drop pos run) (drop e.next run) d t)
            (joined (v.earlier ++ v.last ∷ []) d (entries_from below v.fuel (take e.length word') (drop e.next run))));
      }
    where
      joined : (es : List Entry) (d : Entry) (o : Outcome (List Entry)) → ((o >>= λ ds. ok (d ∷ ds)) >>= λ ds. ok (es ++ ds)) ≡ (o >>= λ ds. ok ((es ++ d ∷ []) ++ ds))
      joined es d (refused c) = refl
      joined es d (ok ds) = rw (append_assoc es (d ∷ []) ds)

-- ---- all runs
-- a run in front of others, counted
tally_cons : (words blocks : ℕ) (ms : List Bool) (r : Run) (o : Outcome (List Run))
    → tally words blocks ms (o >>= λ rs. ok (r ∷ rs)) ≡ tally (words + length r.entries) (blocks + r.size) (with_range r.block r.size true ms) o
unfolding tally covered CheckSpec.all_entries BlocksSpec.run_blocks
tally_cons words blocks ms r (refused n) = refl
tally_cons words blocks ms r (ok rs) =
    let p : words + length (r.entries ++ all_entries rs) ≡ words + length r.entries + length (all_entries rs) = rw length-append (omega arith) in
    let q : blocks + (r.size + run_blocks rs) ≡ blocks + r.size + run_blocks rs = omega arith in
    rw (p, q)

-- no more elements stand in an index than it has bytes
elements_inside : (w : ℕ) (index : List ℕ) (at left : ℕ) → Inside w index at left → at + length (elements_at w index at left) ≤ length index
unfolding Elements.element_end Elements.elements_at
elements_inside w index at zero p = omega (arith, p)
elements_inside w index at (suc left) (p, q, r) = omega (arith, elements_inside w index (element_end w index at + 1) left r)

-- the element that an iterator gave, and those left then, are those that were left
pub given_wait : (next : std.Option given.Element) (es ds : List Element) → MatchOption next ((es ≡ []) × (ds ≡ [])) (λ e. es ≡ stored e ∷ ds) → waiting next ds ≡ es
unfolding waiting
given_wait None es ds h = sym h.0
given_wait (Some e) es ds h = sym h

-- the next headword is that of the element given
next_waits : (next : std.Option given.Element) (es : List Element) → next_headword (waiting next []) ≡ next_headword (waiting next es)
unfolding waiting CheckSpec.next_headword
next_waits None es = refl
next_waits (Some e) es = refl

-- the next headword decides where there is one
pub ends_given : (below : HeadwordOrder) (last : List ℕ) (next : std.Option given.Element) (e : given.Element) → next ≡ Some e → (t : Bool) → t ≡ below last e.headword.now
    → t ≡ last_below below last (next_headword (waiting next []))
unfolding last_below CheckSpec.next_headword waiting
ends_given below last next e is t h = rw is h

-- where there is none, each run ends in front of it
pub ends_none : (below : HeadwordOrder) (last : List ℕ) (next : std.Option given.Element) → next ≡ None → true ≡ last_below below last (next_headword (waiting next []))
unfolding last_below CheckSpec.next_headword waiting
ends_none below last next is = rw is

-- so many entries and blocks and these marks so far, and the answer is that of the elements that are left
pub record Walking (below : HeadwordOrder) (D : ℕ) (area : List ℕ) (all : List Element) (ms₀ : List Bool) (words blocks : ℕ) (left : List Element) (ms : List Bool) : Type 0 where
  pub few : length all ≤ 8_388_608
  pub fewer : length left ≤ length all
  pub few_words : words ≤ (length all - length left) * 8_388_608
  pub few_blocks : blocks ≤ (length all - length left) * 32_768
  pub rest : tally 0 0 ms₀ (runs_from below D area all) ≡ tally words blocks ms (runs_from below D area left)

-- at first nothing is counted
pub walk_start : (below : HeadwordOrder) (D : ℕ) (area : List ℕ) (w : ℕ) (index : List ℕ) (at n : ℕ) (ms : List Bool) (left : List Element)
    → left ≡ elements_at w index at n → Inside w index at n → length index ≤ 8_388_608
    → Walking below D area (elements_at w index at n) ms 0 0 left ms
walk_start below D area w index at n ms left all p l =
    rw all (record {
      few = omega (arith, elements_inside w index at n p);
      fewer = omega arith;
      few_words = omega arith;
      few_blocks = omega arith;
      rest = refl;
    })

-- the walk at what was taken of the iterator, in the terms of the code
module _ (order D : ℕ) (area : List ℕ) (all : List Element) (ms₀ : List Bool) (words blocks : ℕ) (next : std.Option given.Element) (left : List Element) (ms : List Bool)
    (v : Walking (below_of order) D area all ms₀ words blocks (waiting next left) ms) where
  -- all runs are read
  pub walk_done : next ≡ None → runs_answer (Ok (record { words = words; blocks = blocks })) ms ≡ tally 0 0 ms₀ (runs_from (below_of order) D area all)
  unfolding runs_answer tally covered waiting CheckSpec.runs_from CheckSpec.all_entries BlocksSpec.run_blocks
  walk_done is = sym (v.rest ∙ rw (is, add-zero words, add-zero blocks))

  module _ (el : given.Element) (is : next ≡ Some el) where
    -- an element was taken
    here : waiting next left ≡ stored el ∷ left
    unfolding waiting
    here = rw is

    -- fewer elements are left when the next one was taken
    pub walk_less : (next' : std.Option given.Element) (left' : List Element) → MatchOption next' ((left ≡ []) × (left' ≡ [])) (λ e. left ≡ stored e ∷ left')
        → length (waiting next' left') < length (waiting next left)
    walk_less next' left' steps = omega (arith, ap length (given_wait next' left left' steps), ap length here)

    -- "The walk stops at the first fault it meets."
    walk_refused : (r : Refusal) (ms' : List Bool) → run_from (below_of order) D area (stored el) (next_headword left) ≡ refused (number_of r)
        → runs_answer (Err r) ms' ≡ tally 0 0 ms₀ (runs_from (below_of order) D area all)
    unfolding runs_answer tally CheckSpec.runs_from
    walk_refused r ms' h = sym (v.rest ∙ rw (here, h))

    -- row 7
    pub walk_seven : (r : Refusal) → Err r ≡ size_told D area el.number → (ms' : List Bool) → runs_answer (Err r) ms' ≡ tally 0 0 ms₀ (runs_from (below_of order) D area all)
    walk_seven r told ms' = walk_refused r ms' (broken_seven D area el.number (Err r) told r refl (below_of order) (stored el) (next_headword left) refl)

    module _ (n : ℕ) (told : Ok n ≡ size_told D area el.number) where
      opened : run_from (below_of order) D area (stored el) (next_headword left)
          ≡ (entries_under (below_of order) el.headword.now (run_slice area el.number n) >>= closed (below_of order) (stored el) (next_headword left) n (run_slice area el.number n))
      opened = placed (below_of order) D area (stored el) (next_headword left) n told (run_slice area el.number n) (slice_same area el.number n)

      -- row 8: an entry
      pub walk_eight : (r : Refusal) → entries_under (below_of order) el.headword.now (run_slice area el.number n) ≡ refused (number_of r) → (ms' : List Bool)
          → runs_answer (Err r) ms' ≡ tally 0 0 ms₀ (runs_from (below_of order) D area all)
      walk_eight r q ms' = walk_refused r ms' (opened ∙ rw q)

      -- row 8: an entry behind the first
      pub walk_broken : (word : List ℕ) (held pos count : ℕ) → Reading (below_of order) el.headword.now (run_slice area el.number n) word held pos count → (st : Step)
          (word' : List ℕ) → step_entry (run_slice area el.number n) word' st ≡ read_entry (below_of order) (take held word) (drop pos (run_slice area el.number n))
          → (r : Refusal) → st ≡ Err r → (ms' : List Bool) → runs_answer (Err r) ms' ≡ tally 0 0 ms₀ (runs_from (below_of order) D area all)
      walk_broken word held pos count u st word' step r q ms' =
          walk_eight r (reading_broken (below_of order) el.headword.now (run_slice area el.number n) word held pos count u st word' step r q) ms'

      module _ (word : List ℕ) (count held : ℕ) (es : Entries (below_of order) el.headword.now (run_slice area el.number n) word count held)
          (next' : std.Option given.Element) (left' : List Element) (steps : MatchOption next' ((left ≡ []) × (left' ≡ [])) (λ e. left ≡ stored e ∷ left')) (t : Bool)
          (ends : t ≡ last_below (below_of order) (take held word) (next_headword (waiting next' [])))
        where
          end_told : ends_below (below_of order) (next_headword left) (es.earlier ++ es.last ∷ []) ≡ t
          end_told =
              ends_by_last (below_of order) (next_headword left) es.earlier es.last
              ∙ ap (λ (k : List ℕ). last_below (below_of order) k (next_headword left)) es.last_word
              ∙ sym (rw (next_waits next' left', given_wait next' left left' steps) at ends)

          -- row 8: the last headword
          pub walk_high : t ≡ false → (ms' : List Bool) → runs_answer (Err Refusal.BadRun) ms' ≡ tally 0 0 ms₀ (runs_from (below_of order) D area all)
          unfolding number_of
          walk_high f ms' = walk_refused Refusal.BadRun ms' (opened ∙ rw (es.read, end_told, f))

          -- one run more
          pub walk_on : t ≡ true → 256 * D ≤ length area → (ms' : List Bool) → ms' ≡ with_range el.number n true ms
              → Walking (below_of order) D area all ms₀ (words + count) (blocks + n) (waiting next' left') ms'
          unfolding CheckSpec.runs_from
          walk_on f long ms' m =
              let (p, read, some_blocks, few, inside) = blocks_told D area el.number (Ok n) told n refl in
              let r : Run = record { headword = el.headword.now; block = el.number; size = n; bytes = run_slice area el.number n; entries = es.earlier ++ es.last ∷ [] } in
              let c : length r.entries ≡ count = rw length-append (omega (arith, es.counted)) in
              let one : length (waiting next left) ≡ suc (length left) = ap length here in
              let small : count ≤ 8_388_608 = omega (arith, es.few, few, slice_long area el.number n D long inside) in
              let others : Outcome (List Run) = runs_from (below_of order) D area left in
              let cut : runs_from (below_of order) D area (waiting next left) ≡ others >>= λ rs. ok (r ∷ rs) = rw here (rw (opened, es.read, end_told, f)) in
              rw (given_wait next' left left' steps) (record {
                few = v.few;
                fewer = omega (arith, v.fewer, one);
                few_words = omega (arith, v.fewer, v.few_words, one, small);
                few_blocks = omega (arith, v.fewer, v.few_blocks, one, few);
                rest = v.rest ∙ ap (tally words blocks ms) cut ∙ tally_cons words blocks ms r others ∙ rw (c, m);
              })
