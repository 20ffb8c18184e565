-- Whether the run has an entry with the headword of the change: found on the way, or still ahead.
use Prim.Native.Nat.{ℕ}
use mathlib.Core.Path.{◌≡◌, refl, sym, ap, ◌∙◌}
use mathlib.Core.Bool.{Bool, true, false, ◌||◌, true≢false}
use mathlib.Core.List.{List, [], ◌∷◌}
use mathlib.Core.Option.{Option}
use lib.ListN.{take, drop}
use Rattle.std.specs.Prelude as std
use borrow.Author.Tests.{eq-eqb}
use Rattle.spec.specs.Lists.{filter, first}
use Rattle.spec.specs.Bytes.{bytes_equal}
use Rattle.spec.specs.Order.{below_of}
use Rattle.spec.specs.Entry.{Entry}
use Rattle.spec.specs.SortedList.{has_headword, lookup}
use Rattle.spec.specs.Claim.{is_there}
use Rattle.spec.proofs.ListsLaws.{or_right, filter_yes, filter_no}
use Rattle.runs.specs.declared.EntryPlace.{EntryPlace}
use Rattle.parts.specs.declared.Cursor.{Cursor}
use Rattle.parts.specs.declared.Turn.{Turn}
use Rattle.parts.specs.Merge.{entries_left, ahead, turn_of, Met}
use Rattle.parts.specs.Part.{has_room, Appended}
use Rattle.parts.proofs.MergeLaws.{ahead_some, taken, turn_skip, turn_old, done_ahead, skip_same, old_other}

module _ (h : List ℕ) (e : Entry) (es : List Entry) where
  -- the first entry has the headword
  found_here : bytes_equal e.headword h ≡ true → is_there (lookup h (e ∷ es)) ≡ true
  unfolding lookup has_headword first is_there
  found_here q = rw (filter_yes (has_headword h) e es q)

  -- or it has another
  found_later : bytes_equal e.headword h ≡ false → lookup h (e ∷ es) ≡ lookup h es
  unfolding lookup has_headword
  found_later q = ap first (filter_no (has_headword h) e es q)

-- ---- encode_part
-- nothing is found at first
pub met_start : (h : List ℕ) (es : List Entry) → Met h es false es
met_start h es = record { told = refl }

module _ (order : ℕ) (run word h : List ℕ) (c : Cursor) (t : Turn) (told : t ≡ turn_of (below_of order) h word c.own c.fresh) where
  module _ (es₀ : List Entry) (found : Bool) (met : Met h es₀ found (ahead order run word c)) (d : EntryPlace) (word' : List ℕ) (c' : Cursor)
      (p : ahead order run word' c' ≡ entries_left (below_of order) (take d.length word) (drop d.next run)) where
    -- an old entry that is dropped is found
    pub met_skip : t ≡ Turn.Skip d → Met h es₀ true (ahead order run word' c')
    met_skip q =
        let e = ahead_some order run word c d (turn_skip (below_of order) h word d c.own c.fresh (sym told ∙ q)).0 in
        let k = ap (λ (es : List Entry). is_there (lookup h es)) e ∙ found_here h _ _ (skip_same order run word h [] c d (sym told ∙ q)) in
        record { told = sym (or_right found _ k) ∙ met.told }

    -- one that is kept has another headword
    pub met_old : t ≡ Turn.Old d → Met h es₀ found (ahead order run word' c')
    met_old q =
        let e = ahead_some order run word c d (turn_old (below_of order) h word d c.own c.fresh (sym told ∙ q)).0 in
        let k = ap (lookup h) e ∙ found_later h _ _ (old_other order run word h [] c d (sym told ∙ q)) ∙ ap (lookup h) (sym p) in
        record { told = ap (λ (o : Option Entry). found || is_there o) (sym k) ∙ met.told }

  -- where nothing comes next, nothing is ahead
  pub met_done : t ≡ Turn.Done → ahead order run word c ≡ []
  met_done q = done_ahead order run word h [] c (sym told ∙ q)

-- the new entry is none of those ahead
pub met_new : (order : ℕ) (run word h : List ℕ) (c : Cursor) (es₀ : List Entry) (found : Bool) → Met h es₀ found (ahead order run word c) → Met h es₀ found (ahead order run word (taken c))
unfolding ahead
met_new order run word h c es₀ found met = record { told = met.told }

-- a part that has no room for an entry has entries
pub full_some : (limit used : ℕ) (prev : List ℕ) (e : Entry) (part part' last : List ℕ) (r : std.Option ℕ) → Appended limit used prev e part part' last r → r ≡ std.None → used ≡ 0 → ⊥
unfolding has_room
full_some limit used prev e part part' last r a z q = true≢false (sym (rw (eq-eqb used 0 q)) ∙ (a.0 z).0)

-- ---- measure
-- nothing is found where reading begins
pub met_begun : (order : ℕ) (h run word : List ℕ) (c : Cursor) → ahead order run word c ≡ entries_left (below_of order) [] run
    → Met h (entries_left (below_of order) [] run) false (ahead order run word c)
met_begun order h run word c p = rw p (met_start h (entries_left (below_of order) [] run))

-- one part more
pub met_part : (h : List ℕ) (es₀ es₁ es₂ : List Entry) (a b : Bool) → Met h es₀ a es₁ → Met h es₁ b es₂ → Met h es₀ (a || b) es₂
met_part h es₀ es₁ es₂ true b p q = record { told = p.told }
met_part h es₀ es₁ es₂ false b p q = record { told = q.told ∙ p.told }

-- nothing is ahead: what was found is all
pub met_all : (h : List ℕ) (es₀ es : List Entry) (found : Bool) → Met h es₀ found es → es ≡ [] → found ≡ is_there (lookup h es₀)
unfolding lookup filter first is_there
met_all h es₀ es true p q = p.told
met_all h es₀ es false p q = sym (ap (λ (l : List Entry). is_there (lookup h l)) q) ∙ p.told
