-- What the functions show, in the terms of the code.
use Prim.Native.Nat.{ℕ, suc, ◌+◌, ◌-◌, ◌<◌, ◌≤◌}
use mathlib.Core.Path.{◌≡◌, refl, sym, ap, ◌∙◌}
use mathlib.Core.Logic.{◌⊎◌, inl, inr}
use mathlib.Core.Bool.{Bool, true, false}
use mathlib.Core.List.{List, [], ◌∷◌, ◌++◌, append_assoc}
use native.Mathlib.Omega.{arith}
use Rattle.std.specs.Prelude.{Option, Some, None, Ok, Err}
use Rattle.std.specs.Result.{result_unwrap_or}
use lib.ListN.{length, take, drop, length-append, length-take, length-drop}
use lib.Seq.{take_at, take_all, take-length, length-take-le}
use lib.Dec.{eqb}
use borrow.Author.Tests.{eq-eqb, ne_eqb, le-leb, lt-leb}
use Rattle.spec.specs.Lists.{all, All}
use Rattle.spec.specs.Bytes.{to_little_endian, write, bytes_at, no_zero}
use Rattle.spec.specs.Order.{below_of, HeadwordOrder}
use Rattle.spec.specs.Entry.{Entry, headword_ok, headword_suffix, field_bytes, entry_bytes}
use Rattle.spec.specs.Run.{read_entry, entries_bytes}
use Rattle.spec.proofs.ListsLaws.{all_map, clash, one, or_right}
use Rattle.spec.proofs.PairsLaws.{front_none}
use Rattle.spec.proofs.RunLaws.{body_short, headword_by}
use Rattle.spec.proofs.WriteLaws.{bytes_at_take}
use Rattle.std.specs.declared.cmp.Ordering.{Ordering}
use Rattle.std.specs.declared.cmp.Ordering.TheVariants.{Less, Equal, Greater}
use Rattle.scans.specs.Compare.{comparison}
use Rattle.scans.specs.Scan.{zero_offset}
use Rattle.scans.proofs.Laws.{zero_offset_append, zero_offset_zero}
use Rattle.spec.specs.Answers.{number_of}
use Rattle.runs.specs.Step.{Step, step_entry, Inside}
use Rattle.runs.specs.declared.EntryPlace.{EntryPlace}
use Rattle.runs.proofs.Laws.{told_broken, told_end, told_entry, told_no_zero}
use Rattle.parts.specs.declared.Cursor.{Cursor}
use Rattle.parts.specs.declared.Turn.{Turn}
use Rattle.parts.specs.Merge.{entries_left, merge, own_ahead, ahead, todo, changed_entries, turn_at, turn_of, Placed, CursorOk}
use Rattle.parts.specs.Part.{has_room, Appended}
use Rattle.parts.specs.Room.{largest_limit}
use Rattle.encoder.specs.Limits.{longest_headword, longest_body, longest_entry}
use Rattle.parts.proofs.MergeLaws.{
  left_refused,
  left_none,
  left_some,
  left_ok,
  left_few,
  merge_few,
  merge_all,
  ahead_some,
  taken,
  todo_done,
  todo_skip,
  todo_old,
  todo_new,
  turn_skip,
  turn_old,
  turn_new,
}
use Rattle.parts.proofs.MeasureLaws.{parts_in, bytes_in, blocks_in, parts_few, bytes_few, blocks_few, Counting, counting_start}
use Rattle.parts.proofs.PartLaws.{Short, copied_front, Filling, Filled, filling_end, filling_full, filling_more}

-- the first bytes of a list are so many
pub first_bytes : (s : List ℕ) (n : ℕ) → n ≤ length s → n ≡ length (take n s)
first_bytes s n h = sym (length-take-le n s h)

-- ---- advance: the cursor at what a step read; a broken entry ends the run
read_own : (st : Step) (e : EntryPlace) → result_unwrap_or st None ≡ Some e → st ≡ Ok (Some e)
read_own (Err r) e q = clash (cc)
read_own (Ok o) e q = ap Ok q

module _ (order : ℕ) (run word word' : List ℕ) (at held : ℕ) where
  step_ahead : (st : Step) → step_entry run word' st ≡ read_entry (below_of order) (take held word) (drop at run)
      → own_ahead order run word' (result_unwrap_or st None) ≡ entries_left (below_of order) (take held word) (drop at run)
  unfolding own_ahead
  step_ahead (Err r) told = sym (left_refused (below_of order) (take held word) (drop at run) (number_of r) (told_broken (below_of order) (take held word) (drop at run) run word' (Err r) told r refl))
  step_ahead (Ok None) told = sym (left_none (below_of order) (take held word) (drop at run) (told_end (below_of order) (take held word) (drop at run) run word' (Ok None) told refl))
  step_ahead (Ok (Some e)) told =
      sym (left_some (below_of order) (take held word) (drop at run) _ _ (told_entry (below_of order) (take held word) (drop at run) run word' (Ok (Some e)) told e refl))

  module _ (fresh : Bool) (st : Step) (own : Option EntryPlace) (q : own ≡ result_unwrap_or st None) (told : step_entry run word' st ≡ read_entry (below_of order) (take held word) (drop at run)) where
    -- the entries ahead
    pub read_ahead : ahead order run word' (record { own = own; fresh = fresh }) ≡ entries_left (below_of order) (take held word) (drop at run)
    unfolding ahead
    read_ahead = ap (own_ahead order run word') q ∙ step_ahead st told

    -- and the cursor stands at the next of them
    pub read_cursor : Inside at run st → length word' ≡ length word → longest_headword ≤ length word → CursorOk run word' (record { own = own; fresh = fresh })
    read_cursor inside l r =
        record {
          room = omega arith;
          placed = λ e p.
              let z : st ≡ Ok (Some e) = read_own st e (sym q ∙ p) in
              let i = inside e z in
              record {
                some = i.4;
                short = i.5;
                clean = told_no_zero (below_of order) (take held word) (drop at run) run word' st told e z;
                inside = i.2;
                body = i.1;
                body_short = omega (arith, i.3);
              };
        }

-- ---- next_turn
module _ (below : HeadwordOrder) (h word : List ℕ) (own : Option EntryPlace) (fresh : Bool) where
  -- no old entry is left: the new one comes, if it is still to come
  pub last_new : own ≡ None → fresh ≡ true → Turn.New ≡ turn_of below h word own fresh
  unfolding turn_of
  last_new p f = rw (p, f)

  -- else nothing
  pub last_done : own ≡ None → fresh ≡ false → Turn.Done ≡ turn_of below h word own fresh
  unfolding turn_of
  last_done p f = rw (p, f)

  module _ (e : EntryPlace) (p : own ≡ Some e) (k : Ordering) (q : k ≡ comparison below (take e.length word) h) where
    by_entry : turn_at e fresh k ≡ turn_of below h word own fresh
    unfolding turn_of
    by_entry = rw (p, q)

    -- an old entry below the new one is kept
    pub below_old : k ≡ Less → Turn.Old e ≡ turn_of below h word own fresh
    unfolding turn_at
    below_old z = rw z at by_entry

    -- one with its headword is dropped
    pub same_skip : k ≡ Equal → Turn.Skip e ≡ turn_of below h word own fresh
    unfolding turn_at
    same_skip z = rw z at by_entry

    -- before one above it the new one enters
    pub above_new : k ≡ Greater → fresh ≡ true → Turn.New ≡ turn_of below h word own fresh
    unfolding turn_at
    above_new z f = ap (λ (b : Bool). turn_at e b Greater) (sym f) ∙ ap (turn_at e fresh) (sym z) ∙ by_entry

    -- or the old one is kept, if the new one is not to come
    pub above_old : k ≡ Greater → fresh ≡ false → Turn.Old e ≡ turn_of below h word own fresh
    unfolding turn_at
    above_old z f = ap (λ (b : Bool). turn_at e b Greater) (sym f) ∙ ap (turn_at e fresh) (sym z) ∙ by_entry

-- ---- append
module _ (limit used size : ℕ) (prev h b part part' last' : List ℕ) (long : size ≡ length (entry_bytes prev (record { headword = h; body = b }))) where
  -- no room
  pub append_full : 0 < used → limit < used + size + 4 → Appended limit used prev (record { headword = h; body = b }) part part last' None
  unfolding has_room
  append_full p q =
      (λ z. (rw (ne_eqb used 0 (λ w. omega arith), lt-leb (4 + (used + length (entry_bytes prev (record { headword = h; body = b })))) limit (omega arith)), refl), λ u z. clash (cc))

  room_by : (used ≡ 0) ⊎ (used + size + 4 ≤ limit) → has_room limit used prev (record { headword = h; body = b }) ≡ true
  unfolding has_room
  room_by (inl z) = rw (eq-eqb used 0 z)
  room_by (inr k) = rw (le-leb (4 + (used + length (entry_bytes prev (record { headword = h; body = b })))) limit (omega arith)) (or_right (eqb used 0) true refl)

  -- the entry behind those that stand there
  pub append_done : (used ≡ 0) ⊎ (used + size + 4 ≤ limit) → used + size ≤ longest_entry → part' ≡ write used (entry_bytes prev (record { headword = h; body = b })) part → take (length h) last' ≡ h
      → Appended limit used prev (record { headword = h; body = b }) part part' last' (Some (used + size))
  append_done c p w k = (
    λ z. clash (cc),
    λ u z.
        let e : used + size ≡ u = cc in
        (room_by c, sym e ∙ ap (λ (x : ℕ). used + x) long, w, k, omega arith),
  )

-- a headword that was copied to the front of a buffer is there
pub last_renewed : (h last last' : List ℕ) → last' ≡ write 0 (bytes_at 0 (length h) h) last → take (length h) last' ≡ h
last_renewed h last last' l = copied_front h last last' (length h) l (omega arith) ∙ take-length h

-- ---- encode_part
-- how much is to do: the old entries, and the new one
abbrev pub work : ℕ → List ℕ → List ℕ → Cursor → ℕ
work order run word c = length (ahead order run word c) + one c.fresh

-- what is to do behind an old entry
todo_behind : (order : ℕ) (run word h body : List ℕ) (c : Cursor) (fresh : Bool) (es : List Entry) → ahead order run word c ≡ es → c.fresh ≡ fresh
    → todo order run word h body c ≡ merge (below_of order) (record { headword = h; body = body }) fresh es
unfolding todo
todo_behind order run word h body c fresh es p f = rw (p, f)

module _ (order limit : ℕ) (es₀ : List Entry) (part₀ run word h body part prev : List ℕ) (used : ℕ) (c : Cursor) (t : Turn)
    (told : t ≡ turn_of (below_of order) h word c.own c.fresh) (filling : Filling limit es₀ part₀ (todo order run word h body c) part prev used) where
  -- nothing is left
  pub part_done : t ≡ Turn.Done → Filled limit es₀ part₀ (todo order run word h body c) part used
  part_done q =
      let e : todo order run word h body c ≡ [] = todo_done order run word h body c (sym told ∙ q) in
      rw e (filling_end limit es₀ part₀ part prev used (rw e at filling))

  module _ (d : EntryPlace) where
    -- an old entry is dropped
    pub part_skips : (word' : List ℕ) (c' : Cursor) → t ≡ Turn.Skip d → ahead order run word' c' ≡ entries_left (below_of order) (take d.length word) (drop d.next run) → c'.fresh ≡ c.fresh
        → Filling limit es₀ part₀ (todo order run word' h body c') part prev used
    part_skips word' c' q p f =
        let e = todo_skip order run word h body c d (sym told ∙ q) in
        rw (todo_behind order run word' h body c' c.fresh _ p f) (rw e at filling)

    module _ (part' last' : List ℕ) (r : Option ℕ)
        (a : Appended limit used prev (record { headword = take d.length word; body = take (d.next - (d.zero + 1)) (drop (d.zero + 1) run) }) part part' last' r) where
      -- an old entry has no room
      pub part_full_old : t ≡ Turn.Old d → r ≡ None → Filled limit es₀ part₀ (todo order run word h body c) part' used
      unfolding bytes_at
      part_full_old q z =
          let e = todo_old order run word h body c d (sym told ∙ q) in
          let (full, s) = a.0 z in
          rw (s, e) (filling_full limit es₀ part₀ part prev used _ _ (rw e at filling) full)

      -- it is kept
      pub part_keeps : (word' : List ℕ) (c' : Cursor) → t ≡ Turn.Old d → (u : ℕ) → r ≡ Some u → used ≤ length part → d.length ≤ length word
          → ahead order run word' c' ≡ entries_left (below_of order) (take d.length word) (drop d.next run) → c'.fresh ≡ c.fresh
          → Filling limit es₀ part₀ (todo order run word' h body c') part' (take d.length last') u
      unfolding bytes_at
      part_keeps word' c' q u z l m p f =
          let e = todo_old order run word h body c d (sym told ∙ q) in
          let (room, long, w, k, b) = a.1 u z in
          let n : length (take d.length word) ≡ d.length = length-take-le d.length word m in
          let k' : take d.length last' ≡ take d.length word = ap (λ (x : ℕ). take x last') (sym n) ∙ k in
          rw (todo_behind order run word' h body c' c.fresh _ p f, k') (filling_more limit es₀ part₀ part prev used _ _ (rw e at filling) part' u room long w l)

  module _ (part' last' : List ℕ) (r : Option ℕ) where
    -- the new entry has no room
    pub part_full_new : t ≡ Turn.New → Appended limit used prev (record { headword = h; body = body }) part part' last' r → r ≡ None
        → Filled limit es₀ part₀ (todo order run word h body c) part' used
    part_full_new q a z =
        let e = todo_new order run word h body c (sym told ∙ q) in
        let (full, s) = a.0 z in
        rw (s, e) (filling_full limit es₀ part₀ part prev used _ _ (rw e at filling) full)

    -- it enters
    pub part_enters : t ≡ Turn.New → Appended limit used prev (record { headword = h; body = body }) part part' last' r → (u : ℕ) → r ≡ Some u → used ≤ length part
        → Filling limit es₀ part₀ (todo order run word h body (taken c)) part' (take (length h) last') u
    part_enters q a u z l =
        let e = todo_new order run word h body c (sym told ∙ q) in
        let (room, long, w, k, b) = a.1 u z in
        rw k (filling_more limit es₀ part₀ part prev used _ _ (rw e at filling) part' u room long w l)

-- ---- the turns take work away
module _ (order : ℕ) (run word h : List ℕ) (c : Cursor) (t : Turn) (told : t ≡ turn_of (below_of order) h word c.own c.fresh) where
  module _ (d : EntryPlace) (word' : List ℕ) (c' : Cursor) (p : ahead order run word' c' ≡ entries_left (below_of order) (take d.length word) (drop d.next run)) (f : c'.fresh ≡ c.fresh) where
    -- an old entry dropped
    pub skip_less : t ≡ Turn.Skip d → work order run word' c' < work order run word c
    skip_less q = rw (ahead_some order run word c d (turn_skip (below_of order) h word d c.own c.fresh (sym told ∙ q)).0, p, f) (omega arith)

    -- an old entry kept
    pub old_less : t ≡ Turn.Old d → work order run word' c' < work order run word c
    old_less q = rw (ahead_some order run word c d (turn_old (below_of order) h word d c.own c.fresh (sym told ∙ q)).0, p, f) (omega arith)

  -- the new entry
  pub new_less : t ≡ Turn.New → work order run word (taken c) < work order run word c
  unfolding ahead
  new_less q = omega (arith, ap one (turn_new (below_of order) h word c.own c.fresh (sym told ∙ q)).0)

  -- where the old entry of a turn stands
  module _ (k : CursorOk run word c) (d : EntryPlace) where
    pub skip_placed : t ≡ Turn.Skip d → Placed run word d
    skip_placed q = k.placed d (turn_skip (below_of order) h word d c.own c.fresh (sym told ∙ q)).0

    pub old_placed : t ≡ Turn.Old d → Placed run word d
    old_placed q = k.placed d (turn_old (below_of order) h word d c.own c.fresh (sym told ∙ q)).0

-- ---- the entries to do keep the bounds of their lengths
-- the body of an old entry is not too long
pub body_few : (run : List ℕ) (z e : ℕ) → e ≤ z + 1 + longest_body → length (take (e - (z + 1)) (drop (z + 1) run)) ≤ longest_body
body_few run z e h = omega (arith, length-take (e - (z + 1)) (drop (z + 1) run))

own_short : (order : ℕ) (run word : List ℕ) (own : Option EntryPlace) → longest_headword ≤ length word
    → ((e : EntryPlace) → own ≡ Some e → Placed run word e) → All Short (own_ahead order run word own)
unfolding own_ahead bytes_at
own_short order run word None room k = tt
own_short order run word (Some e) room k =
    let p = k e refl in
    let n : length (take e.length word) ≡ e.length = length-take-le e.length word (omega (arith, p.short)) in (
      (headword_by (take e.length word) (omega (arith, n, p.some)) (omega (arith, n, p.short)) p.clean, body_few run e.zero e.next p.body_short),
      all_map _ _ (λ d w. (w.0, body_short d.body w.1)) (entries_left (below_of order) (take e.length word) (drop e.next run))
          (left_ok (below_of order) (take e.length word) (drop e.next run)),
    )

-- all of them
pub todo_short : (order : ℕ) (run word h body : List ℕ) (c : Cursor) → CursorOk run word c → headword_ok h ≡ true → length body ≤ longest_body → All Short (todo order run word h body c)
unfolding todo ahead
todo_short order run word h body c k p q =
    merge_all (below_of order) (record { headword = h; body = body }) Short (p, q) c.fresh (ahead order run word c) (own_short order run word c.own k.room k.placed)

-- the entries of a changed run are no more than its bytes and one
pub changed_few : (order : ℕ) (run h body : List ℕ) (fresh : Bool) → length (changed_entries order run h body fresh) ≤ length run + 1
unfolding changed_entries
changed_few order run h body fresh = omega (arith, merge_few (below_of order) (record { headword = h; body = body }) fresh (entries_left (below_of order) [] run), left_few (below_of order) [] run)

-- ---- the headword of a part's first entry
-- what stands behind its field length and its shared front
entry_front : (e : Entry) (es : List Entry) → drop 3 (entries_bytes [] (e ∷ es)) ≡ e.headword ++ 0 ∷ (e.body ++ entries_bytes e.headword es)
unfolding entries_bytes entry_bytes field_bytes headword_suffix to_little_endian
entry_front e es = rw (front_none e.headword) (append_assoc e.headword (0 ∷ e.body) (entries_bytes e.headword es))

module _ (part : List ℕ) (used : ℕ) (e : Entry) (es : List Entry) (stands : take used part ≡ entries_bytes [] (e ∷ es)) where
  front_long : 3 + length e.headword ≤ used
  front_long =
      let a : length (drop 3 (entries_bytes [] (e ∷ es))) ≡ length e.headword + suc (length (e.body ++ entries_bytes e.headword es))
      = ap length (entry_front e es) ∙ length-append e.headword (0 ∷ (e.body ++ entries_bytes e.headword es)) in
      omega (arith, length-drop 3 (entries_bytes [] (e ∷ es)), ap length stands, length-take used part)

  -- it is found there
  pub headword_at : bytes_at 3 (length e.headword) part ≡ e.headword
  unfolding bytes_at
  headword_at =
      sym (bytes_at_take 3 (length e.headword) used part front_long)
      ∙ ap (λ (x : List ℕ). take (length e.headword) (drop 3 x)) stands
      ∙ ap (take (length e.headword)) (entry_front e es)
      ∙ take_at e.headword (0 ∷ (e.body ++ entries_bytes e.headword es)) (length e.headword) refl

  -- and ends at the first zero byte
  pub head_measured : (r : ℕ) → r ≡ 3 + zero_offset (bytes_at 3 (used - 3) part) → no_zero e.headword ≡ true → r - 3 ≡ length e.headword
  unfolding bytes_at
  head_measured r q clear =
      let tail : List ℕ = e.body ++ entries_bytes e.headword es in
      let l : length (drop 3 (entries_bytes [] (e ∷ es))) ≤ used - 3 = omega (arith, length-drop 3 (entries_bytes [] (e ∷ es)), ap length stands, length-take used part) in
      let a : take (used - 3) (drop 3 part) ≡ e.headword ++ 0 ∷ tail =
      sym (bytes_at_take 3 (used - 3) used part (omega (arith, front_long)))
      ∙ ap (λ (x : List ℕ). take (used - 3) (drop 3 x)) stands
      ∙ take_all (used - 3) (drop 3 (entries_bytes [] (e ∷ es))) l
      ∙ entry_front e es in
      let z : zero_offset (take (used - 3) (drop 3 part)) ≡ length e.headword + zero_offset (0 ∷ tail) = ap zero_offset a ∙ zero_offset_append e.headword (0 ∷ tail) clear in
      omega (arith, zero_offset_zero tail)

-- ---- what appending asks of an old entry, and of a cursor
-- its headword has a byte, and no more than the longest
pub word_few : (word : List ℕ) (held : ℕ) → longest_headword ≤ length word → 1 ≤ held → held ≤ longest_headword → (1 ≤ length (take held word)) × (length (take held word) ≤ longest_headword)
word_few word held h p q = (omega (arith, length-take-le held word (omega arith)), omega (arith, length-take-le held word (omega arith)))

-- a cursor whose new entry was taken
pub cursor_taken : (run word : List ℕ) (c : Cursor) → CursorOk run word c → CursorOk run word (taken c)
cursor_taken run word c k = record { room = k.room; placed = k.placed }

-- ---- measure
-- no byte, none zero
pub none_zero : no_zero [] ≡ true
unfolding no_zero all
none_zero = refl

module _ (order : ℕ) (run word h body : List ℕ) (fresh : Bool) (c : Cursor) (begun : ahead order run word c ≡ entries_left (below_of order) [] run) (same : c.fresh ≡ fresh) where
  -- at first all entries of the changed run are to do
  pub begun_todo : todo order run word h body c ≡ changed_entries order run h body fresh
  unfolding todo changed_entries
  begun_todo = rw (begun, same)

  module _ (width limit : ℕ) where
    -- and nothing is counted
    pub measure_start : Counting width limit (changed_entries order run h body fresh) (todo order run word h body c) 0 0 0
    measure_start = rw begun_todo (counting_start width limit (changed_entries order run h body fresh))

    -- the numbers of all parts are small
    pub measure_bounds : width ≤ 4 → limit ≤ largest_limit → CursorOk run word c → headword_ok h ≡ true → length body ≤ longest_body → length run ≤ 8388608
        → (parts_in limit (changed_entries order run h body fresh) ≤ 8388609) × (bytes_in width limit (changed_entries order run h body fresh) ≤ 2122318077)
        × (blocks_in limit (changed_entries order run h body fresh) ≤ 109051917)
    measure_bounds narrow small k p q r =
        let es : List Entry = changed_entries order run h body fresh in
        let s : All Short es = rw begun_todo at (todo_short order run word h body c k p q) in
        let l : length es ≤ length run + 1 = changed_few order run h body fresh in
        (omega (arith, parts_few width limit narrow small es s), omega (arith, bytes_few width limit narrow small es s), omega (arith, blocks_few width limit narrow small es s))
