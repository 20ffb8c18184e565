-- The entries left in a run, the change merged into them, and what each turn takes of them.
use Prim.Native.Nat.{ℕ, zero, suc, ◌+◌, ◌-◌, ◌<◌, ◌≤◌}
use mathlib.Core.Path.{◌≡◌, refl, sym, ap, subst, ◌∙◌}
use mathlib.Core.Logic.{◌⊎◌, inl, inr, ⊎_elim}
use mathlib.Core.Bool.{Bool, true, false, not}
use mathlib.Core.List.{List, [], ◌∷◌, ◌++◌, map}
use mathlib.Core.Option.{Option, none, some}
use native.Mathlib.Omega.{arith}
use Rattle.std.specs.Prelude as std
use lib.ListN.{length, take, drop}
use Rattle.spec.specs.Outcome.{Outcome, refused, ok}
use Rattle.spec.specs.Lists.{all, filter, All}
use Rattle.spec.specs.Bytes.{bytes_at, bytes_equal}
use Rattle.spec.specs.Order.{IsOrder, Ascend, below_of, HeadwordOrder}
use Rattle.spec.specs.Entry.{Entry, headword_ok, body_ok}
use Rattle.spec.specs.Run.{read_entry, entries_from}
use Rattle.spec.specs.SortedList.{Sorted, has_headword, replace, remove}
use Rattle.spec.proofs.ListsLaws.{all_map, clash, and_left, and_right, filter_yes, filter_no, filter_every, filter_nothing}
use Rattle.spec.proofs.OutcomeLaws.{ok_not_refused, same_value, bind_ok}
use Rattle.spec.proofs.OrderLaws.{one_way, order_of}
use Rattle.spec.proofs.ReadLaws.{entry_told, after_step, bytes_self}
use Rattle.spec.proofs.SearchLaws.{other, other_way}
use Rattle.std.specs.declared.cmp.Ordering.{Ordering}
use Rattle.std.specs.declared.cmp.Ordering.TheVariants.{Less, Equal, Greater}
use Rattle.scans.specs.Compare.{comparison}
use Rattle.scans.proofs.Laws.{comparison_below, comparison_above, comparison_above_not, comparison_same, comparison_below_not}
use Rattle.runs.specs.declared.EntryPlace.{EntryPlace}
use Rattle.parts.specs.declared.Cursor.{Cursor}
use Rattle.parts.specs.declared.Turn.{Turn}
use Rattle.parts.specs.Merge.{entries_until, entries_left, merge, own_ahead, ahead, todo, turn_at, turn_of}

-- ---- the entries left
-- by what stands at the front
module _ (below : HeadwordOrder) (n : ℕ) (prev s : List ℕ) where
  until_refused : (k : ℕ) → read_entry below prev s ≡ refused k → entries_until below (suc n) prev s ≡ []
  unfolding entries_until
  until_refused k q = rw (q, entries_until)

  until_none : read_entry below prev s ≡ ok none → entries_until below (suc n) prev s ≡ []
  unfolding entries_until
  until_none q = rw (q, entries_until)

  until_some : (p : Entry × List ℕ) → read_entry below prev s ≡ ok (some p) → entries_until below (suc n) prev s ≡ p.0 ∷ entries_until below n p.0.headword p.1
  unfolding entries_until
  until_some p q = rw (q, entries_until)

-- a bound that is not reached does not count
until_enough : (below : HeadwordOrder) (n m : ℕ) (prev s : List ℕ) → length s < n → length s < m → entries_until below n prev s ≡ entries_until below m prev s
until_enough below zero m prev s p q = absurd (omega arith)
until_enough below (suc n) zero prev s p q = absurd (omega arith)
until_enough below (suc n) (suc m) prev s p q = go (λ w t a b. until_enough below n m w t a b) (read_entry below prev s) refl
  where
    go : ((w t : List ℕ) → length t < n → length t < m → entries_until below n w t ≡ entries_until below m w t) → (o : Outcome (Option (Entry × List ℕ))) → read_entry below prev s ≡ o
        → entries_until below (suc n) prev s ≡ entries_until below (suc m) prev s
    go ih (refused k) e = until_refused below n prev s k e ∙ sym (until_refused below m prev s k e)
    go ih (ok none) e = until_none below n prev s e ∙ sym (until_none below m prev s e)
    go ih (ok (some x)) e =
        let l : length x.1 < length s = (entry_told below prev s x.0 x.1 e).1 in
        until_some below n prev s x e ∙ ap (λ (es : List Entry). x.0 ∷ es) (ih x.0.headword x.1 (omega arith) (omega arith)) ∙ sym (until_some below m prev s x e)

module _ (below : HeadwordOrder) (prev s : List ℕ) where
  -- none at a broken rule
  pub left_refused : (k : ℕ) → read_entry below prev s ≡ refused k → entries_left below prev s ≡ []
  unfolding entries_left
  left_refused k q = until_refused below (length s) prev s k q

  -- none at the end marks
  pub left_none : read_entry below prev s ≡ ok none → entries_left below prev s ≡ []
  unfolding entries_left
  left_none q = until_none below (length s) prev s q

  -- an entry, and those behind it
  pub left_some : (e : Entry) (rest : List ℕ) → read_entry below prev s ≡ ok (some (e, rest)) → entries_left below prev s ≡ e ∷ entries_left below e.headword rest
  unfolding entries_left
  left_some e rest q =
      let l : length rest < length s = (entry_told below prev s e rest q).1 in
      until_some below (length s) prev s (e, rest) q ∙ ap (λ (es : List Entry). e ∷ es) (until_enough below (length s) (suc (length rest)) e.headword rest l (omega arith))

-- entries that were read are those left
pub entries_left_read : (below : HeadwordOrder) (n : ℕ) (prev s : List ℕ) (es : List Entry) → entries_from below n prev s ≡ ok es → entries_left below prev s ≡ es
unfolding entries_from
entries_left_read below zero prev s es h = absurd (ok_not_refused es 8 (sym h))
entries_left_read below (suc n) prev s es h =
    let (r, p, q) = bind_ok (read_entry below prev s) (after_step below n) es h in
    go (λ w t ds k. entries_left_read below n w t ds k) r p q
  where
    go : ((w t : List ℕ) (ds : List Entry) → entries_from below n w t ≡ ok ds → entries_left below w t ≡ ds) → (r : Option (Entry × List ℕ)) → read_entry below prev s ≡ ok r
        → after_step below n r ≡ ok es → entries_left below prev s ≡ es
    go ih none p q = left_none below prev s p ∙ same_value [] es q
    go ih (some x) p q =
        let (ds, u, v) = bind_ok (entries_from below n x.0.headword x.1) (λ ds. ok (x.0 ∷ ds)) es q in
        left_some below prev s x.0 x.1 p ∙ ap (λ (l : List Entry). x.0 ∷ l) (ih x.0.headword x.1 ds u) ∙ same_value (x.0 ∷ ds) es v

-- an entry that keeps its rules
abbrev pub Ruled : Entry → Type 0
Ruled e = (headword_ok e.headword ≡ true) × (body_ok e.body ≡ true)

until_ok : (below : HeadwordOrder) (n : ℕ) (prev s : List ℕ) → All Ruled (entries_until below n prev s)
unfolding entries_until
until_ok below zero prev s = tt
until_ok below (suc n) prev s = go (λ w t. until_ok below n w t) (read_entry below prev s) refl
  where
    go : ((w t : List ℕ) → All Ruled (entries_until below n w t)) → (o : Outcome (Option (Entry × List ℕ))) → read_entry below prev s ≡ o → All Ruled (entries_until below (suc n) prev s)
    go ih (refused k) e = rw (until_refused below n prev s k e) tt
    go ih (ok none) e = rw (until_none below n prev s e) tt
    go ih (ok (some x)) e =
        let t = (entry_told below prev s x.0 x.1 e).0 in
        rw (until_some below n prev s x e) ((t.0, t.1), ih x.0.headword x.1)

-- all entries left keep their rules
pub left_ok : (below : HeadwordOrder) (prev s : List ℕ) → All Ruled (entries_left below prev s)
unfolding entries_left
left_ok below prev s = until_ok below (suc (length s)) prev s

until_few : (below : HeadwordOrder) (n : ℕ) (prev s : List ℕ) → length (entries_until below n prev s) ≤ length s
unfolding entries_until
until_few below zero prev s = omega arith
until_few below (suc n) prev s = go (λ w t. until_few below n w t) (read_entry below prev s) refl
  where
    go : ((w t : List ℕ) → length (entries_until below n w t) ≤ length t) → (o : Outcome (Option (Entry × List ℕ))) → read_entry below prev s ≡ o
        → length (entries_until below (suc n) prev s) ≤ length s
    go ih (refused k) e = rw (until_refused below n prev s k e) (omega arith)
    go ih (ok none) e = rw (until_none below n prev s e) (omega arith)
    go ih (ok (some x)) e =
        let l : length x.1 < length s = (entry_told below prev s x.0 x.1 e).1 in
        rw (until_some below n prev s x e) (omega (arith, ih x.0.headword x.1))

-- they are no more than the bytes
pub left_few : (below : HeadwordOrder) (prev s : List ℕ) → length (entries_left below prev s) ≤ length s
unfolding entries_left
left_few below prev s = until_few below (suc (length s)) prev s

-- ---- the change merged in
module _ (below : HeadwordOrder) (a : Entry) where
  -- an entry below the new one stays in front
  pub merge_below : (fresh : Bool) (e : Entry) (es : List Entry) → comparison below e.headword a.headword ≡ Less → merge below a fresh (e ∷ es) ≡ e ∷ merge below a fresh es
  unfolding merge
  merge_below true e es q = rw (q, merge)
  merge_below false e es q = rw (q, merge)

  -- one with its headword goes
  pub merge_same : (fresh : Bool) (e : Entry) (es : List Entry) → comparison below e.headword a.headword ≡ Equal → merge below a fresh (e ∷ es) ≡ merge below a fresh es
  unfolding merge
  merge_same true e es q = rw (q, merge)
  merge_same false e es q = rw (q, merge)

  -- before one above it the new one enters
  pub merge_enters : (e : Entry) (es : List Entry) → comparison below e.headword a.headword ≡ Greater → merge below a true (e ∷ es) ≡ a ∷ e ∷ merge below a false es
  unfolding merge
  merge_enters e es q = rw (q, merge)

  -- or it stays, where nothing is to come
  pub merge_above : (e : Entry) (es : List Entry) → comparison below e.headword a.headword ≡ Greater → merge below a false (e ∷ es) ≡ e ∷ merge below a false es
  unfolding merge
  merge_above e es q = rw (q, merge)

  -- without a new entry there are none more
  pub merge_old : (es : List Entry) → length (merge below a false es) ≤ length es
  unfolding merge
  merge_old [] = omega arith
  merge_old (e ∷ es) = go (merge_old es) (comparison below e.headword a.headword) refl
    where
      go : length (merge below a false es) ≤ length es → (k : Ordering) → comparison below e.headword a.headword ≡ k → length (merge below a false (e ∷ es)) ≤ suc (length es)
      go ih Less q = rw (merge_below false e es q) (omega arith)
      go ih Equal q = rw (merge_same false e es q) (omega arith)
      go ih Greater q = rw (merge_above e es q) (omega arith)

  -- no more than one entry is new
  pub merge_few : (fresh : Bool) (es : List Entry) → length (merge below a fresh es) ≤ length es + 1
  unfolding merge
  merge_few true [] = omega arith
  merge_few false [] = omega arith
  merge_few fresh (e ∷ es) = go fresh (λ t. merge_few t es) (comparison below e.headword a.headword) refl
    where
      go : (t : Bool) → ((u : Bool) → length (merge below a u es) ≤ length es + 1) → (k : Ordering) → comparison below e.headword a.headword ≡ k
          → length (merge below a t (e ∷ es)) ≤ suc (length es) + 1
      go t ih Less q = rw (merge_below t e es q) (omega (arith, ih t))
      go t ih Equal q = rw (merge_same t e es q) (omega (arith, ih t))
      go true ih Greater q = rw (merge_enters e es q) (omega (arith, merge_old es))
      go false ih Greater q = rw (merge_above e es q) (omega (arith, ih false))

  -- a fact of the new entry and of all others
  pub merge_all : (P : Entry → Type 0) → P a → (fresh : Bool) (es : List Entry) → All P es → All P (merge below a fresh es)
  unfolding merge
  merge_all P p true [] h = (p, tt)
  merge_all P p false [] h = tt
  merge_all P p fresh (e ∷ es) (h, hs) = go fresh (λ t. merge_all P p t es hs) (comparison below e.headword a.headword) refl
    where
      go : (t : Bool) → ((u : Bool) → All P (merge below a u es)) → (k : Ordering) → comparison below e.headword a.headword ≡ k → All P (merge below a t (e ∷ es))
      go t ih Less q = rw (merge_below t e es q) (h, ih t)
      go t ih Equal q = rw (merge_same t e es q) (ih t)
      go true ih Greater q = rw (merge_enters e es q) (p, (h, ih false))
      go false ih Greater q = rw (merge_above e es q) (h, ih false)

  module _ (order : IsOrder below) where
    -- an entry that is not to come again: the entry with its headword goes
    pub merge_remove : (es : List Entry) → merge below a false es ≡ remove a.headword es
    unfolding merge remove filter has_headword
    merge_remove [] = refl
    merge_remove (e ∷ es) = go (merge_remove es) (comparison below e.headword a.headword) refl
      where
        go : merge below a false es ≡ remove a.headword es → (k : Ordering) → comparison below e.headword a.headword ≡ k → merge below a false (e ∷ es) ≡ remove a.headword (e ∷ es)
        go ih Less q = merge_below false e es q ∙ ap (λ (l : List Entry). e ∷ l) ih
            ∙ sym (filter_yes (λ d. not (bytes_equal d.headword a.headword)) e es (ap not (other below order e.headword a.headword (comparison_below below e.headword a.headword q))))
        go ih Equal q = merge_same false e es q ∙ ih
            ∙ sym (filter_no (λ d. not (bytes_equal d.headword a.headword)) e es (rw (comparison_same below e.headword a.headword order q, bytes_self a.headword)))
        go ih Greater q = merge_above e es q ∙ ap (λ (l : List Entry). e ∷ l) ih
            ∙ sym (filter_yes (λ d. not (bytes_equal d.headword a.headword)) e es
            (ap not (other_way below order a.headword e.headword (comparison_above below e.headword a.headword q))))

    -- entries above the new one stay as they are
    merge_stays : (es : List Entry) → All (λ d. below a.headword d.headword ≡ true) es → merge below a false es ≡ es
    unfolding remove has_headword
    merge_stays es h = merge_remove es ∙ filter_every (λ d. not (bytes_equal d.headword a.headword)) es (all_map _ _ (λ d q. ap not (other_way below order a.headword d.headword q)) es h)

    headwords_above : (k : List ℕ) (es : List Entry) → all (below k) (map (λ d. d.headword) es) ≡ true → All (λ d. below k d.headword ≡ true) es
    unfolding all
    headwords_above k [] h = tt
    headwords_above k (e ∷ es) h = (and_left (below k e.headword) _ h, headwords_above k es (and_right (below k e.headword) _ h))

    -- a new entry takes its place among those that ascend
    pub merge_replace : (es : List Entry) → Sorted below es → merge below a true es ≡ replace below a es
    unfolding merge replace filter Sorted Ascend
    merge_replace [] h = refl
    merge_replace (e ∷ es) (h, hs) = go (merge_replace es hs) (comparison below e.headword a.headword) refl
      where
        lower : Entry → Bool
        lower d = below d.headword a.headword

        upper : Entry → Bool
        upper d = below a.headword d.headword

        go : merge below a true es ≡ replace below a es → (k : Ordering) → comparison below e.headword a.headword ≡ k
            → merge below a true (e ∷ es) ≡ filter lower (e ∷ es) ++ a ∷ filter upper (e ∷ es)
        go ih Less q =
            merge_below true e es q
            ∙ rw (
              filter_yes lower e es (comparison_below below e.headword a.headword q),
              filter_no upper e es (comparison_below_not below e.headword a.headword order q),
            ) (ap (λ (l : List Entry). e ∷ l) ih)
        go ih Equal q =
            let s : e.headword ≡ a.headword = comparison_same below e.headword a.headword order q in
            let i : below a.headword a.headword ≡ false = order.irreflexive a.headword in
            merge_same true e es q ∙ rw (filter_no lower e es (rw s i), filter_no upper e es (rw s i)) ih
        go ih Greater q =
            let up : below a.headword e.headword ≡ true = comparison_above below e.headword a.headword q in
            let every : All (λ d. below a.headword d.headword ≡ true) es
            = all_map _ _ (λ d r. order.transitive a.headword e.headword d.headword up r) es (headwords_above e.headword es h) in
            let none_lower : filter lower es ≡ [] = filter_nothing lower es (all_map _ _ (λ d r. one_way below order a.headword d.headword r) es every) in
            merge_enters e es q
            ∙ rw (filter_no lower e es (comparison_above_not below e.headword a.headword q), filter_yes upper e es up, none_lower, filter_every upper es every, merge_stays es every)

-- a new entry that comes next, alone or before one above it
module _ (below : HeadwordOrder) (a : Entry) (es : List Entry) where
  new_alone : es ≡ [] → merge below a true es ≡ a ∷ merge below a false es
  unfolding merge
  new_alone q = rw q

  new_before : (e : Entry) (rest : List Entry) → es ≡ e ∷ rest → comparison below e.headword a.headword ≡ Greater → merge below a true es ≡ a ∷ merge below a false es
  new_before e rest q k = rw q (merge_enters below a e rest k ∙ ap (λ (l : List Entry). a ∷ l) (sym (merge_above below a e rest k)))

-- ---- where reading stands
module _ (order : ℕ) (run word : List ℕ) (c : Cursor) where
  -- no entry is left
  pub ahead_none : c.own ≡ std.None → ahead order run word c ≡ []
  unfolding ahead own_ahead
  ahead_none q = ap (own_ahead order run word) q

  -- an entry, and those behind it
  pub ahead_some : (e : EntryPlace) → c.own ≡ std.Some e
      → ahead order run word c ≡ record { headword = take e.length word; body = bytes_at (e.zero + 1) (e.next - (e.zero + 1)) run }
      ∷ entries_left (below_of order) (take e.length word) (drop e.next run)
  unfolding ahead own_ahead
  ahead_some e q = ap (own_ahead order run word) q

-- what a turn tells where an old entry is left
at_skip : (d e : EntryPlace) (f : Bool) (k : Ordering) → turn_at d f k ≡ Turn.Skip e → (d ≡ e) × (k ≡ Equal)
unfolding turn_at
at_skip d e f Less h = clash (cc)
at_skip d e f Equal h = (cc, refl)
at_skip d e true Greater h = clash (cc)
at_skip d e false Greater h = clash (cc)

at_old : (d e : EntryPlace) (f : Bool) (k : Ordering) → turn_at d f k ≡ Turn.Old e → (d ≡ e) × ((k ≡ Less) ⊎ ((k ≡ Greater) × (f ≡ false)))
unfolding turn_at
at_old d e f Less h = (cc, inl refl)
at_old d e f Equal h = clash (cc)
at_old d e true Greater h = clash (cc)
at_old d e false Greater h = (cc, inr (refl, refl))

at_new : (d : EntryPlace) (f : Bool) (k : Ordering) → turn_at d f k ≡ Turn.New → (f ≡ true) × (k ≡ Greater)
unfolding turn_at
at_new d f Less h = clash (cc)
at_new d f Equal h = clash (cc)
at_new d true Greater h = (refl, refl)
at_new d false Greater h = clash (cc)

at_done : (d : EntryPlace) (f : Bool) (k : Ordering) → turn_at d f k ≡ Turn.Done → ⊥
unfolding turn_at
at_done d f Less h = clash (cc)
at_done d f Equal h = clash (cc)
at_done d true Greater h = clash (cc)
at_done d false Greater h = clash (cc)

-- what a turn tells of where reading stands
module _ (below : HeadwordOrder) (h word : List ℕ) where
  -- nothing comes: no old entry is left, and no new one is to come
  pub turn_done : (own : std.Option EntryPlace) (f : Bool) → turn_of below h word own f ≡ Turn.Done → (own ≡ std.None) × (f ≡ false)
  unfolding turn_of
  turn_done std.None true q = clash (cc)
  turn_done std.None false q = (refl, refl)
  turn_done (std.Some d) f q = absurd (at_done d f (comparison below (take d.length word) h) q)

  -- an old entry is dropped: it has the headword of the new one
  pub turn_skip : (e : EntryPlace) (own : std.Option EntryPlace) (f : Bool) → turn_of below h word own f ≡ Turn.Skip e
      → (own ≡ std.Some e) × (comparison below (take e.length word) h ≡ Equal)
  unfolding turn_of
  turn_skip e std.None true q = clash (cc)
  turn_skip e std.None false q = clash (cc)
  turn_skip e (std.Some d) f q =
      let (p, k) = at_skip d e f (comparison below (take d.length word) h) q in
      (ap std.Some p, ap (λ (x : EntryPlace). comparison below (take x.length word) h) (sym p) ∙ k)

  -- it is kept: it is below the new one, or above it and the new one is not to come
  pub turn_old : (e : EntryPlace) (own : std.Option EntryPlace) (f : Bool) → turn_of below h word own f ≡ Turn.Old e
      → (own ≡ std.Some e) × ((comparison below (take e.length word) h ≡ Less) ⊎ ((comparison below (take e.length word) h ≡ Greater) × (f ≡ false)))
  unfolding turn_of
  turn_old e std.None true q = clash (cc)
  turn_old e std.None false q = clash (cc)
  turn_old e (std.Some d) f q =
      let (p, k) = at_old d e f (comparison below (take d.length word) h) q in (
        ap std.Some p,
        subst (λ (x : EntryPlace). (comparison below (take x.length word) h ≡ Less) ⊎ ((comparison below (take x.length word) h ≡ Greater) × (f ≡ false))) p k,
      )

  -- the new one enters: it was to come, and no old one is left or the next is above it
  pub turn_new : (own : std.Option EntryPlace) (f : Bool) → turn_of below h word own f ≡ Turn.New
      → (f ≡ true) × ((own ≡ std.None) ⊎ ((e : EntryPlace) × (own ≡ std.Some e) × (comparison below (take e.length word) h ≡ Greater)))
  unfolding turn_of
  turn_new std.None true q = (refl, inl refl)
  turn_new std.None false q = clash (cc)
  turn_new (std.Some d) f q =
      let (p, k) = at_new d f (comparison below (take d.length word) h) q in
      (p, inr (d, refl, k))

-- the same cursor, the new entry no more to come
abbrev pub taken : Cursor → Cursor
taken c = record { own = c.own; fresh = false }

-- what each turn takes of the entries to do
module _ (order : ℕ) (run word h body : List ℕ) (c : Cursor) where
  -- nothing
  pub todo_done : turn_of (below_of order) h word c.own c.fresh ≡ Turn.Done → todo order run word h body c ≡ []
  unfolding todo merge
  todo_done q =
      let (b, f) = turn_done (below_of order) h word c.own c.fresh q in
      rw (ahead_none order run word c b, f)

  -- what is ahead then: nothing
  pub done_ahead : turn_of (below_of order) h word c.own c.fresh ≡ Turn.Done → ahead order run word c ≡ []
  done_ahead q = ahead_none order run word c (turn_done (below_of order) h word c.own c.fresh q).0

  -- the new entry
  pub todo_new : turn_of (below_of order) h word c.own c.fresh ≡ Turn.New → todo order run word h body c ≡ record { headword = h; body = body } ∷ todo order run word h body (taken c)
  unfolding todo ahead
  todo_new q =
      let a : Entry = record { headword = h; body = body } in
      let (f, k) = turn_new (below_of order) h word c.own c.fresh q in
      ap (λ (t : Bool). merge (below_of order) a t (ahead order run word c)) f
      ∙ ⊎_elim (λ b. new_alone (below_of order) a (ahead order run word c) (ahead_none order run word c b))
      (λ (e, b, w). new_before (below_of order) a (ahead order run word c) _ _ (ahead_some order run word c e b) w) k

  module _ (e : EntryPlace) where
    -- the old entry, which the change drops
    pub todo_skip : turn_of (below_of order) h word c.own c.fresh ≡ Turn.Skip e
        → todo order run word h body c ≡ merge (below_of order) (record { headword = h; body = body }) c.fresh (entries_left (below_of order) (take e.length word) (drop e.next run))
    unfolding todo
    todo_skip q =
        let (b, k) = turn_skip (below_of order) h word e c.own c.fresh q in
        rw (ahead_some order run word c e b) (merge_same (below_of order) (record { headword = h; body = body }) c.fresh _ _ k)

    -- it has the headword
    pub skip_same : turn_of (below_of order) h word c.own c.fresh ≡ Turn.Skip e → bytes_equal (take e.length word) h ≡ true
    skip_same q =
        let (b, k) = turn_skip (below_of order) h word e c.own c.fresh q in
        rw (comparison_same (below_of order) (take e.length word) h (order_of order) k) (bytes_self h)

    -- the old entry, which it keeps
    pub todo_old : turn_of (below_of order) h word c.own c.fresh ≡ Turn.Old e
        → todo order run word h body c ≡ record { headword = take e.length word; body = bytes_at (e.zero + 1) (e.next - (e.zero + 1)) run }
        ∷ merge (below_of order) (record { headword = h; body = body }) c.fresh (entries_left (below_of order) (take e.length word) (drop e.next run))
    unfolding todo
    todo_old q =
        let (b, k) = turn_old (below_of order) h word e c.own c.fresh q in
        rw (ahead_some order run word c e b) (
        ⊎_elim (λ p. merge_below (below_of order) (record { headword = h; body = body }) c.fresh _ _ p)
        (λ (p, f). rw f (merge_above (below_of order) (record { headword = h; body = body }) _ _ p)) k
        )

    -- it has another headword
    pub old_other : turn_of (below_of order) h word c.own c.fresh ≡ Turn.Old e → bytes_equal (take e.length word) h ≡ false
    old_other q =
        let (b, k) = turn_old (below_of order) h word e c.own c.fresh q in
        ⊎_elim (λ p. other (below_of order) (order_of order) (take e.length word) h (comparison_below (below_of order) (take e.length word) h p))
        (λ (p, f). other_way (below_of order) (order_of order) h (take e.length word) (comparison_above (below_of order) (take e.length word) h p)) k
