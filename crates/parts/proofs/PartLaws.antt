-- One part of a cut at a time: what it takes, what is behind it, and how it is filled.
use Prim.Native.Nat.{ℕ, suc, ◌+◌, ◌<◌, ◌≤◌}
use mathlib.Core.Path.{◌≡◌, refl, sym, ap, ◌∙◌}
use mathlib.Core.Bool.{Bool, true, false, ◌||◌}
use mathlib.Core.List.{List, [], ◌∷◌, ◌++◌}
use native.Mathlib.Omega.{arith}
use native.Mathlib.Nat.{zero-add}
use lib.ListN.{length, take, length-append}
use lib.Seq.{length-take-le}
use lib.Dec.{leb, eqb}
use borrow.Author.Tests.{leb-true, eqb-true}
use Rattle.spec.specs.Bytes.{write, bytes_at, blocks_for}
use Rattle.spec.specs.Entry.{Entry, headword_ok, entry_bytes}
use Rattle.spec.specs.Run.{entries_bytes, encoded_size, run_size}
use Rattle.spec.specs.Place.{into_first, cut_after, cut, first_headword}
use Rattle.spec.specs.Lists.{All}
use Rattle.spec.proofs.ListsLaws.{or_cases}
use Rattle.spec.proofs.RunLaws.{head_bounds}
use Rattle.spec.proofs.WriteLaws.{written_front, written_behind, write_none}
use Rattle.encoder.specs.Limits.{longest_body, longest_entry}
use Rattle.encoder.proofs.Laws.{length_entry}
use Rattle.parts.specs.Part.{has_room, part_of, past_part}
use Rattle.parts.specs.Room.{largest_limit}

-- ---- the front of a slice
-- bytes written from the front on stand there
pub front_stored : (x s s' : List ℕ) (n : ℕ) → s' ≡ write 0 x s → n ≡ length x → take n s' ≡ x
front_stored x s s' n w q = ap (take n) w ∙ written_front x s n (sym q)

-- so do bytes copied there
pub copied_front : (s w w' : List ℕ) (n : ℕ) → w' ≡ write 0 (bytes_at 0 n s) w → n ≤ length s → take n w' ≡ take n s
unfolding bytes_at
copied_front s w w' n e p = front_stored (take n s) w w' n e (sym (length-take-le n s p))

-- ---- the next entry
module _ (limit used : ℕ) (prev : List ℕ) (e : Entry) (es : List Entry) where
  -- it enters the part
  pub part_takes : has_room limit used prev e ≡ true → part_of limit used prev (e ∷ es) ≡ e ∷ part_of limit (used + length (entry_bytes prev e)) e.headword es
  unfolding part_of
  part_takes q = rw (q, part_of)

  -- and is not behind it
  pub past_takes : has_room limit used prev e ≡ true → past_part limit used prev (e ∷ es) ≡ past_part limit (used + length (entry_bytes prev e)) e.headword es
  unfolding past_part
  past_takes q = rw (q, past_part)

  -- it ends the part
  pub part_full : has_room limit used prev e ≡ false → part_of limit used prev (e ∷ es) ≡ []
  unfolding part_of
  part_full q = rw (q, part_of)

  -- and is behind it
  pub past_full : has_room limit used prev e ≡ false → past_part limit used prev (e ∷ es) ≡ e ∷ es
  unfolding past_part
  past_full q = rw (q, past_part)

-- a first entry always has room
pub room_first : (limit : ℕ) (prev : List ℕ) (e : Entry) → has_room limit 0 prev e ≡ true
unfolding has_room
room_first limit prev e = refl

-- a part's first entry is the first of all
pub part_first : (limit : ℕ) (prev : List ℕ) (e : Entry) (es : List Entry) → part_of limit 0 prev (e ∷ es) ≡ e ∷ part_of limit (length (entry_bytes prev e)) e.headword es
part_first limit prev e es = part_takes limit 0 prev e es (room_first limit prev e) ∙ ap (λ (m : ℕ). e ∷ part_of limit m e.headword es) (zero-add (length (entry_bytes prev e)))

-- and not behind it
pub past_first : (limit : ℕ) (prev : List ℕ) (e : Entry) (es : List Entry) → past_part limit 0 prev (e ∷ es) ≡ past_part limit (length (entry_bytes prev e)) e.headword es
past_first limit prev e es = past_takes limit 0 prev e es (room_first limit prev e) ∙ ap (λ (m : ℕ). past_part limit m e.headword es) (zero-add (length (entry_bytes prev e)))

-- an entry takes four bytes or more
pub entry_some : (prev : List ℕ) (e : Entry) → 4 ≤ length (entry_bytes prev e)
entry_some prev e = omega (arith, length_entry prev e)

-- and no more than its headword and body with these four
pub entry_most : (prev : List ℕ) (e : Entry) → length (entry_bytes prev e) ≤ 4 + length e.headword + length e.body
entry_most prev e = omega (arith, length_entry prev e)

-- whether a part with entries has room, by one test
has_room_more : (limit used : ℕ) (prev : List ℕ) (e : Entry) → 0 < used → has_room limit used prev e ≡ leb (4 + (used + length (entry_bytes prev e))) limit
unfolding has_room
has_room_more limit used prev e h = go (eqb used 0) refl
  where
    go : (t : Bool) → eqb used 0 ≡ t → (eqb used 0 || leb (4 + (used + length (entry_bytes prev e))) limit) ≡ leb (4 + (used + length (entry_bytes prev e))) limit
    go true q = absurd (omega (arith, eqb-true used 0 q))
    go false q = rw q

-- ---- a cut by its first part
module _ (limit m : ℕ) (prev : List ℕ) (e : Entry) (es : List Entry) where
  after_takes : leb (m + length (entry_bytes prev e)) limit ≡ true → cut_after limit m prev (e ∷ es) ≡ into_first e (cut_after limit (m + length (entry_bytes prev e)) e.headword es)
  unfolding cut_after
  after_takes q = rw (q, cut_after)

  after_full : leb (m + length (entry_bytes prev e)) limit ≡ false → cut_after limit m prev (e ∷ es) ≡ [] ∷ into_first e (cut_after limit (4 + length (entry_bytes [] e)) e.headword es)
  unfolding cut_after
  after_full q = rw (q, cut_after)

-- where the part has entries already
cut_rest : (limit used : ℕ) (prev : List ℕ) (es : List Entry) → 0 < used → cut_after limit (4 + used) prev es ≡ part_of limit used prev es ∷ cut limit (past_part limit used prev es)
unfolding cut_after part_of past_part cut into_first
cut_rest limit used prev [] h = refl
cut_rest limit used prev (e ∷ es) h = go (cut_rest limit (used + length (entry_bytes prev e)) e.headword es (omega arith)) (leb (4 + (used + length (entry_bytes prev e))) limit) refl
  where
    room : has_room limit used prev e ≡ leb (4 + (used + length (entry_bytes prev e))) limit
    room = has_room_more limit used prev e h

    sum : 4 + used + length (entry_bytes prev e) ≡ 4 + (used + length (entry_bytes prev e))
    sum = omega arith

    go : cut_after limit (4 + (used + length (entry_bytes prev e))) e.headword es
        ≡ part_of limit (used + length (entry_bytes prev e)) e.headword es ∷ cut limit (past_part limit (used + length (entry_bytes prev e)) e.headword es)
        → (t : Bool) → leb (4 + (used + length (entry_bytes prev e))) limit ≡ t
        → cut_after limit (4 + used) prev (e ∷ es) ≡ part_of limit used prev (e ∷ es) ∷ cut limit (past_part limit used prev (e ∷ es))
    go ih true q =
        after_takes limit (4 + used) prev e es (ap (λ (m : ℕ). leb m limit) sum ∙ q)
        ∙ ap (λ (m : ℕ). into_first e (cut_after limit m e.headword es)) sum
        ∙ ap (into_first e) ih
        ∙ sym (rw (part_takes limit used prev e es (room ∙ q), past_takes limit used prev e es (room ∙ q)))
    go ih false q =
        after_full limit (4 + used) prev e es (ap (λ (m : ℕ). leb m limit) sum ∙ q)
        ∙ sym (rw (part_full limit used prev e es (room ∙ q), past_full limit used prev e es (room ∙ q)))

-- an empty list gives no part
pub cut_none : (limit : ℕ) → cut limit [] ≡ []
unfolding cut
cut_none limit = refl

-- the first part, then the parts of what is behind it
pub cut_parts : (limit : ℕ) (e : Entry) (es : List Entry) → cut limit (e ∷ es) ≡ part_of limit 0 [] (e ∷ es) ∷ cut limit (past_part limit 0 [] (e ∷ es))
unfolding cut into_first
cut_parts limit e es =
    let first : ℕ = length (entry_bytes [] e) in
    let q : cut_after limit (4 + first) e.headword es ≡ part_of limit first e.headword es ∷ cut limit (past_part limit first e.headword es)
    = cut_rest limit first e.headword es (omega (arith, entry_some [] e)) in
    ap (into_first e) q ∙ sym (rw (part_first limit [] e es, past_first limit [] e es))

-- ---- facts of all entries
-- are facts of those behind a part
pub past_all : (P : Entry → Type 0) (limit used : ℕ) (prev : List ℕ) (es : List Entry) → All P es → All P (past_part limit used prev es)
unfolding past_part
past_all P limit used prev [] h = tt
past_all P limit used prev (e ∷ es) (h, hs) = go (past_all P limit (used + length (entry_bytes prev e)) e.headword es hs) (has_room limit used prev e) refl
  where
    go : All P (past_part limit (used + length (entry_bytes prev e)) e.headword es) → (t : Bool) → has_room limit used prev e ≡ t → All P (past_part limit used prev (e ∷ es))
    go ih true q = rw (past_takes limit used prev e es q) ih
    go ih false q = rw (past_full limit used prev e es q) (h, hs)

past_few : (limit used : ℕ) (prev : List ℕ) (es : List Entry) → length (past_part limit used prev es) ≤ length es
unfolding past_part
past_few limit used prev [] = omega arith
past_few limit used prev (e ∷ es) = go (past_few limit (used + length (entry_bytes prev e)) e.headword es) (has_room limit used prev e) refl
  where
    go : length (past_part limit (used + length (entry_bytes prev e)) e.headword es) ≤ length es → (t : Bool) → has_room limit used prev e ≡ t
        → length (past_part limit used prev (e ∷ es)) ≤ suc (length es)
    go ih true q = rw (past_takes limit used prev e es q) (omega arith)
    go ih false q = rw (past_full limit used prev e es q) (omega arith)

-- a part takes an entry at least
pub past_fewer : (limit : ℕ) (prev : List ℕ) (e : Entry) (es : List Entry) → length (past_part limit 0 prev (e ∷ es)) < length (e ∷ es)
past_fewer limit prev e es = rw (past_first limit prev e es) (omega (arith, past_few limit (length (entry_bytes prev e)) e.headword es))

-- ---- the bytes of a part
-- an entry that fits its run: of a headword and a body that are not too long
abbrev pub Short : Entry → Type 0
Short e = (headword_ok e.headword ≡ true) × (length e.body ≤ longest_body)

-- where an entry has room, a part does not get longer than the longest entry
room_within : (limit used : ℕ) (prev : List ℕ) (e : Entry) → limit ≤ largest_limit → Short e → has_room limit used prev e ≡ true → used + length (entry_bytes prev e) ≤ longest_entry
unfolding has_room
room_within limit used prev e small (hok, bok) q = or_cases (eqb used 0) (leb (4 + (used + length (entry_bytes prev e))) limit)
    (λ a. omega (arith, eqb-true used 0 a, entry_most prev e, head_bounds e.headword hok)) (λ b. omega (arith, leb-true (4 + (used + length (entry_bytes prev e))) limit b)) q

part_within : (limit used : ℕ) (prev : List ℕ) (es : List Entry) → limit ≤ largest_limit → All Short es → used ≤ longest_entry
    → used + length (entries_bytes prev (part_of limit used prev es)) ≤ longest_entry
unfolding part_of entries_bytes
part_within limit used prev [] small h k = omega arith
part_within limit used prev (e ∷ es) small ((hok, bok), hs) k = go (λ m. part_within limit (used + length (entry_bytes prev e)) e.headword es small hs m) (has_room limit used prev e) refl
  where
    go : (used + length (entry_bytes prev e) ≤ longest_entry
        → used + length (entry_bytes prev e) + length (entries_bytes e.headword (part_of limit (used + length (entry_bytes prev e)) e.headword es)) ≤ longest_entry)
        → (t : Bool) → has_room limit used prev e ≡ t → used + length (entries_bytes prev (part_of limit used prev (e ∷ es))) ≤ longest_entry
    go ih true q = rw (part_takes limit used prev e es q, length-append) (omega (arith, ih (room_within limit used prev e small (hok, bok) q)))
    go ih false q = rw (part_full limit used prev e es q) (omega arith)

-- a part is no longer than one entry may be
pub part_short : (limit : ℕ) (es : List Entry) → limit ≤ largest_limit → All Short es → length (entries_bytes [] (part_of limit 0 [] es)) ≤ longest_entry
part_short limit es small h = omega (arith, part_within limit 0 [] es small h (omega arith))

-- a part of some entries has bytes
pub part_some : (limit : ℕ) (e : Entry) (es : List Entry) → 4 ≤ length (entries_bytes [] (part_of limit 0 [] (e ∷ es)))
unfolding entries_bytes
part_some limit e es = rw (part_first limit [] e es, length-append) (omega (arith, entry_some [] e))

-- a part of no bytes is that of no entries
pub part_empty : (limit : ℕ) (es : List Entry) → length (entries_bytes [] (part_of limit 0 [] es)) ≡ 0 → es ≡ []
part_empty limit [] h = refl
part_empty limit (e ∷ es) h = absurd (omega (arith, part_some limit e es))

-- the next part of entries, by its bytes
module _ (limit : ℕ) (es : List Entry) (used : ℕ) (size : used ≡ length (entries_bytes [] (part_of limit 0 [] es))) where
  -- no byte: no entry is left
  pub none_left : used ≡ 0 → es ≡ []
  none_left z = part_empty limit es (sym size ∙ z)

  -- else some are
  pub some_left : (used ≡ 0 → ⊥) → (e : Entry) × (ds : List Entry) × (es ≡ e ∷ ds)
  unfolding part_of entries_bytes
  some_left z = go es size
    where
      go : (xs : List Entry) → used ≡ length (entries_bytes [] (part_of limit 0 [] xs)) → (e : Entry) × (ds : List Entry) × (xs ≡ e ∷ ds)
      go [] p = absurd (z p)
      go (e ∷ ds) p = (e, ds, refl)

  module _ (some : used ≡ 0 → ⊥) where
    -- it takes four bytes or more
    pub used_some : 4 ≤ used
    used_some =
        let (e, ds, p) = some_left some in
        rw (size, p) (part_some limit e ds)

    module _ (Q : List Entry) (behind : Q ≡ past_part limit 0 [] es) where
      -- fewer entries are behind it
      pub fewer_left : length Q < length es
      fewer_left =
          let (e, ds, p) = some_left some in
          rw (behind, p) (past_fewer limit [] e ds)

      -- the parts: this one, then those of what is behind it
      pub cut_next : cut limit es ≡ part_of limit 0 [] es ∷ cut limit Q
      cut_next =
          let (e, ds, p) = some_left some in
          rw (behind, p) (cut_parts limit e ds)

-- its run has the headword of its first entry
pub part_headword : (limit : ℕ) (e : Entry) (es : List Entry) → first_headword (part_of limit 0 [] (e ∷ es)) ≡ e.headword
unfolding first_headword
part_headword limit e es = rw (part_first limit [] e es)

-- the blocks of a part
pub part_size : (es : List Entry) → run_size es ≡ blocks_for (2 + length (entries_bytes [] es) + 2)
unfolding run_size encoded_size
part_size es = refl

-- ---- a part that is filled: what is still to come, written behind what is there, makes the whole
pub record Filling (limit : ℕ) (es₀ : List Entry) (part₀ : List ℕ) (es : List Entry) (part prev : List ℕ) (used : ℕ) : Type 0 where
  pub whole : write used (entries_bytes prev (part_of limit used prev es)) part ≡ write 0 (entries_bytes [] (part_of limit 0 [] es₀)) part₀
  pub behind : past_part limit used prev es ≡ past_part limit 0 [] es₀
  pub size : used + length (entries_bytes prev (part_of limit used prev es)) ≡ length (entries_bytes [] (part_of limit 0 [] es₀))

-- a part that is done
pub record Filled (limit : ℕ) (es₀ : List Entry) (part₀ : List ℕ) (es : List Entry) (part : List ℕ) (used : ℕ) : Type 0 where
  pub whole : part ≡ write 0 (entries_bytes [] (part_of limit 0 [] es₀)) part₀
  pub behind : es ≡ past_part limit 0 [] es₀
  pub size : used ≡ length (entries_bytes [] (part_of limit 0 [] es₀))

module _ (limit : ℕ) (es₀ : List Entry) (part₀ part prev : List ℕ) (used : ℕ) where
  -- no entry is left
  pub filling_end : Filling limit es₀ part₀ [] part prev used → Filled limit es₀ part₀ [] part used
  unfolding part_of past_part entries_bytes
  filling_end f = record { whole = sym (write_none part used) ∙ f.whole; behind = f.behind; size = omega (arith, f.size) }

  module _ (e : Entry) (es : List Entry) (f : Filling limit es₀ part₀ (e ∷ es) part prev used) where
    -- the next entry has no room
    pub filling_full : has_room limit used prev e ≡ false → Filled limit es₀ part₀ (e ∷ es) part used
    unfolding entries_bytes
    filling_full q =
        let p : part_of limit used prev (e ∷ es) ≡ [] = part_full limit used prev e es q in
        let w : write used [] part ≡ write 0 (entries_bytes [] (part_of limit 0 [] es₀)) part₀ = rw p at f.whole in
        let s : used + 0 ≡ length (entries_bytes [] (part_of limit 0 [] es₀)) = rw p at f.size in
        record { whole = sym (write_none part used) ∙ w; behind = sym (past_full limit used prev e es q) ∙ f.behind; size = omega arith }

    -- it is appended
    pub filling_more : (part' : List ℕ) (used' : ℕ) → has_room limit used prev e ≡ true → used' ≡ used + length (entry_bytes prev e) → part' ≡ write used (entry_bytes prev e) part → used ≤ length part
        → Filling limit es₀ part₀ es part' e.headword used'
    unfolding entries_bytes
    filling_more part' used' q u w l =
        let next : ℕ = used + length (entry_bytes prev e) in
        let more : List ℕ = entries_bytes e.headword (part_of limit next e.headword es) in
        let p : part_of limit used prev (e ∷ es) ≡ e ∷ part_of limit next e.headword es = part_takes limit used prev e es q in
        let W : write used (entry_bytes prev e ++ more) part ≡ write 0 (entries_bytes [] (part_of limit 0 [] es₀)) part₀ = rw p at f.whole in
        let S : used + length (entry_bytes prev e ++ more) ≡ length (entries_bytes [] (part_of limit 0 [] es₀)) = rw p at f.size in
        rw u (
        record {
          whole = written_behind part part' (write next more part') (entry_bytes prev e) more used next l refl w refl ∙ W;
          behind = sym (past_takes limit used prev e es q) ∙ f.behind;
          size = omega (arith, S, length-append (entry_bytes prev e) more);
        }
        )
