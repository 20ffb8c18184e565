-- A part list is read exactly as the parts of which it is made up; what the step call answers, and that nothing else is left open; how long a list is. Document 02, F-5.
use Prim.Native.Nat.{ℕ, ◌+◌, ◌≤◌}
use mathlib.Core.Path.{◌≡◌, refl, sym, ap, ap₂, ◌∙◌}
use mathlib.Core.Logic.{◌⊎◌, inl, inr, ⊎_elim}
use mathlib.Core.Bool.{Bool, true, false, not, ◌&&◌, false≢true}
use mathlib.Core.List.{List, [], ◌∷◌, ◌++◌, append_assoc, append-nil}
use mathlib.Core.Option.{Option, none, some}
use native.Mathlib.Omega.{arith}
use lib.ListN.{length, take, drop, length-append}
use lib.Seq.{take_at, drop-append-add}
use lib.Dec.{leb, eqb}
use borrow.Author.Tests.{eqb-true, eqb-false, eq-eqb, ne_eqb, leb-true, le-leb, not-false}
use Rattle.spec.specs.Outcome.{Outcome, refused, ok, ◌>>=◌, ◌>>◌, refuse◌when◌, accepted}
use Rattle.spec.specs.Lists.{filter, count}
use Rattle.spec.specs.Bytes.{bytes_at, bytes_equal, split_zero}
use Rattle.spec.specs.PartList.{EntryPart, PartAt, kind_takes, part_bytes, parts_bytes, list_bytes, part_by, part_from, list_ends, same_kind, second_from, parts_from, part_found, step_among, part_step}
use Rattle.spec.specs.PartListForm.{KindTakes, IsEntryPart, IsPartList, PartListsRead, PartListsRefused, StepsThroughParts, StepIsStep, OneStep, StepGivesBytes}
use Rattle.spec.proofs.ListsLaws.{and_left, and_right, or_cases, count_cons, one, one_most}
use Rattle.spec.proofs.BytesLaws.{split_zero_at, split_zero_told, split_zero_clear}
use Rattle.spec.proofs.OutcomeLaws.{ok_not_refused, not_both, same_value, bind_ok, when_ok, Only, only_refused, only_ok, only_when, only_bind, accepted_answer}

-- ---- one part
-- the rule of a kind, as it is computed and as it is worded
pub takes_told : (k n : ℕ) → kind_takes k n ≡ true → KindTakes k n
unfolding kind_takes
takes_told k n h =
    or_cases (eqb k 0x01 && leb n 20_000) (eqb k 0x02 && leb n 1_000)
    (λ e. inl (eqb-true k 0x01 (and_left (eqb k 0x01) (leb n 20_000) e), leb-true n 20_000 (and_right (eqb k 0x01) (leb n 20_000) e)))
    (λ e. inr (eqb-true k 0x02 (and_left (eqb k 0x02) (leb n 1_000) e), leb-true n 1_000 (and_right (eqb k 0x02) (leb n 1_000) e)))
    h

-- the other way round
pub takes_by : (k n : ℕ) → KindTakes k n → kind_takes k n ≡ true
unfolding kind_takes
takes_by k n (inl (e, l)) = rw (e, le-leb n 20_000 l)
takes_by k n (inr (e, l)) = rw (e, le-leb n 1_000 l)

-- a part that is read is one by its rules, and stands there
part_told : (s : List ℕ) (x : EntryPart × List ℕ) → part_from s ≡ ok x → IsEntryPart x.0 × (s ≡ part_bytes x.0 ++ x.1)
unfolding part_from part_by part_bytes
part_told [] x h = absurd (ok_not_refused x 16 (sym h))
part_told (k ∷ s) x h = go (split_zero s) refl h
  where
    go : (o : Option (List ℕ × List ℕ)) → split_zero s ≡ o → elim o [ none ↦ refused 16 | some p ↦ part_by k p.0 p.1 ] ≡ ok x
        → IsEntryPart x.0 × (◌≡◌ {A = List ℕ} (k ∷ s) (part_bytes x.0 ++ x.1))
    go none e h = absurd (ok_not_refused x 16 (sym h))
    go (some p) e h =
        let (t, g) = when_ok 16 (not (kind_takes k (length p.0))) (ok (record { kind = k; bytes = p.0 }, p.1)) x h in
        let d : (record { kind = k; bytes = p.0 }, p.1) ≡ x = same_value _ x g in
        let r : kind_takes k (length p.0) ≡ true = not-false (kind_takes k (length p.0)) t in
        let there : s ≡ (p.0 ++ 0 ∷ []) ++ p.1 = split_zero_told s p e ∙ sym (append_assoc p.0 (0 ∷ []) p.1) in
        rw (sym d) (record { kind_rule = takes_told k (length p.0) r; zero_rule = split_zero_clear s p e }, ap (λ (l : List ℕ). k ∷ l) there)

-- a part by its rules is read where it stands
part_back : (p : EntryPart) (rest : List ℕ) → IsEntryPart p → part_from (part_bytes p ++ rest) ≡ ok (p, rest)
unfolding part_from part_bytes part_by
part_back p rest r =
    let a : (p.bytes ++ 0 ∷ []) ++ rest ≡ p.bytes ++ 0 ∷ rest = append_assoc p.bytes (0 ∷ []) rest in
    rw (a, split_zero_at p.bytes rest r.zero_rule, part_from, takes_by p.kind (length p.bytes) r.kind_rule)

-- ---- the end
-- a list's end is 0x80 and nothing more
pub ends_told : (s : List ℕ) → list_ends s ≡ true → s ≡ 0x80 ∷ []
unfolding list_ends bytes_equal
ends_told [] h = absurd (false≢true h)
ends_told (b ∷ s) h = go (eqb b 0x80) refl s h
  where
    go : (t : Bool) → eqb b 0x80 ≡ t → (s : List ℕ) → elim t [ true ↦ bytes_equal s [] | false ↦ false ] ≡ true → ◌≡◌ {A = List ℕ} (b ∷ s) (0x80 ∷ [])
    go true e [] h = ap (λ (x : ℕ). x ∷ []) (eqb-true b 0x80 e)
    go true e (c ∷ s) h = absurd (false≢true h)
    go false e s h = absurd (false≢true h)

-- another byte does not begin the end
ends_not : (k : ℕ) (s : List ℕ) → (k ≡ 0x80 → ⊥) → list_ends (k ∷ s) ≡ false
unfolding list_ends bytes_equal
ends_not k s d = rw (ne_eqb k 0x80 d, bytes_equal)

-- no part begins with the end's byte
part_not_end : (p : EntryPart) (rest : List ℕ) → IsEntryPart p → list_ends (part_bytes p ++ rest) ≡ false
unfolding part_bytes
part_not_end p rest r = ends_not p.kind ((p.bytes ++ 0 ∷ []) ++ rest) (λ e. ⊎_elim (λ (a, b). omega arith) (λ (a, b). omega arith) r.kind_rule)

-- 0x80 is the end
end_ends : list_ends (0x80 ∷ []) ≡ true
unfolding list_ends bytes_equal
end_ends = refl

-- ---- each kind at most once
-- two parts that pass the test have two kinds
pub kinds_apart : (p q : EntryPart) → same_kind p q ≡ false → q.kind ≡ p.kind → ⊥
unfolding same_kind
kinds_apart p q d = eqb-false q.kind p.kind d

-- two of two kinds pass it
pub kinds_pass : (p q : EntryPart) → (q.kind ≡ p.kind → ⊥) → same_kind p q ≡ false
unfolding same_kind
kinds_pass p q d = ne_eqb q.kind p.kind d

-- two of one kind do not
pub kinds_meet : (p q : EntryPart) → q.kind ≡ p.kind → same_kind p q ≡ true
unfolding same_kind
kinds_meet p q e = eq-eqb q.kind p.kind e

-- how often a kind occurs in a list of one part
count_one : (f : EntryPart → Bool) (p : EntryPart) → count f (p ∷ []) ≡ one (f p)
unfolding count filter
count_one f p = omega (arith, count_cons f p [])

-- and of two
count_two : (f : EntryPart → Bool) (p q : EntryPart) → count f (p ∷ q ∷ []) ≡ one (f p) + one (f q)
count_two f p q = omega (arith, count_cons f p (q ∷ []), count_one f q)

-- in a list of one part each kind stands at most once
pub kind_once : (p : EntryPart) (k : ℕ) → count (λ r. eqb r.kind k) (p ∷ []) ≤ 1
kind_once p k = rw (count_one (λ r. eqb r.kind k) p) (one_most (eqb p.kind k))

-- and in one of two that have two kinds
pub kinds_once : (p q : EntryPart) → (q.kind ≡ p.kind → ⊥) → (k : ℕ) → count (λ r. eqb r.kind k) (p ∷ q ∷ []) ≤ 1
kinds_once p q d k = rw (count_two (λ r. eqb r.kind k) p q) (go (eqb p.kind k) (eqb q.kind k) refl refl)
  where
    go : (s t : Bool) → eqb p.kind k ≡ s → eqb q.kind k ≡ t → one s + one t ≤ 1
    go true true e f = absurd (d (eqb-true q.kind k f ∙ sym (eqb-true p.kind k e)))
    go true false e f = omega arith
    go false t e f = omega (arith, one_most t)

-- where each kind stands at most once, two parts have two kinds
pub kinds_differ : (p q : EntryPart) → ((k : ℕ) → count (λ r. eqb r.kind k) (p ∷ q ∷ []) ≤ 1) → q.kind ≡ p.kind → ⊥
kinds_differ p q h e =
    let c : one (eqb p.kind p.kind) + one (eqb q.kind p.kind) ≤ 1 = rw (count_two (λ r. eqb r.kind p.kind) p q) at (h p.kind) in
    let d : 1 + 1 ≤ 1 = rw (eq-eqb p.kind p.kind refl, eq-eqb q.kind p.kind e) at c in
    omega arith

-- ---- a list
-- the bytes of a list of one part
list_one : (p : EntryPart) → list_bytes (p ∷ []) ≡ part_bytes p ++ 0x80 ∷ []
unfolding list_bytes parts_bytes
list_one p = rw (append-nil (part_bytes p))

-- and of two
list_two : (p q : EntryPart) → list_bytes (p ∷ q ∷ []) ≡ part_bytes p ++ (part_bytes q ++ 0x80 ∷ [])
unfolding list_bytes parts_bytes
list_two p q = rw (append-nil (part_bytes q), append_assoc (part_bytes p) (part_bytes q) (0x80 ∷ []))

-- a list that is read behind its first part is one by its rules, and stands there
behind_told : (p : EntryPart) (s : List ℕ) (ps : List EntryPart) → IsEntryPart p → (t : Bool) → list_ends s ≡ t → elim t [ true ↦ ok (p ∷ []) | false ↦ second_from p s ] ≡ ok ps
    → IsPartList ps × (part_bytes p ++ s ≡ list_bytes ps)
unfolding second_from
behind_told p s ps r true e h =
    let d : p ∷ [] ≡ ps = same_value (p ∷ []) ps h in
    rw (sym d, ends_told s e) (record { one_or_two = (omega arith, omega arith); are_parts = (r, tt); each_kind_once = kind_once p }, sym (list_one p))
behind_told p s ps r false e h =
    let (x, a, b) = bind_ok (part_from s) (λ q. refuse 16 when same_kind p q.0 >> (refuse 16 when not (list_ends q.1) >> ok (p ∷ q.0 ∷ []))) ps h in
    let (g, u) = part_told s x a in
    let (k, c) = when_ok 16 (same_kind p x.0) (refuse 16 when not (list_ends x.1) >> ok (p ∷ x.0 ∷ [])) ps b in
    let (n, v) = when_ok 16 (not (list_ends x.1)) (ok (p ∷ x.0 ∷ [])) ps c in
    let d : p ∷ x.0 ∷ [] ≡ ps = same_value (p ∷ x.0 ∷ []) ps v in
    let z : x.1 ≡ 0x80 ∷ [] = ends_told x.1 (not-false (list_ends x.1) n) in
    let m : part_bytes p ++ s ≡ list_bytes (p ∷ x.0 ∷ [])
    = ap (λ (l : List ℕ). part_bytes p ++ l) (u ∙ ap (λ (l : List ℕ). part_bytes x.0 ++ l) z) ∙ sym (list_two p x.0) in
    rw (sym d) (record { one_or_two = (omega arith, omega arith); are_parts = (r, (g, tt)); each_kind_once = kinds_once p x.0 (kinds_apart p x.0 k) }, m)

-- a list that is read is one by its rules, and stands there
parts_told : (s : List ℕ) (ps : List EntryPart) → parts_from s ≡ ok ps → IsPartList ps × (s ≡ list_bytes ps)
unfolding parts_from
parts_told s ps h =
    let (x, a, b) = bind_ok (part_from s) (λ p. elim (list_ends p.1) [ true ↦ ok (p.0 ∷ []) | false ↦ second_from p.0 p.1 ]) ps h in
    let (r, u) = part_told s x a in
    let (l, v) = behind_told x.0 x.1 ps r (list_ends x.1) refl b in
    (l, u ∙ v)

-- what follows a list's first part
abbrev behind : EntryPart × List ℕ → Outcome (List EntryPart)
behind p = elim (list_ends p.1) [ true ↦ ok (p.0 ∷ []) | false ↦ second_from p.0 p.1 ]

-- the steps of reading a list, in the form in which code knows them
module _ (s : List ℕ) (x : EntryPart × List ℕ) (e : part_from s ≡ ok x) where
  -- one part, and the end
  pub parts_one : list_ends x.1 ≡ true → parts_from s ≡ ok (x.0 ∷ [])
  unfolding parts_from
  parts_one f = ap (λ o. o >>= behind) e ∙ ap (λ (t : Bool). elim t [ true ↦ ok (x.0 ∷ []) | false ↦ second_from x.0 x.1 ]) f

  -- a part, and more
  pub parts_more : list_ends x.1 ≡ false → parts_from s ≡ second_from x.0 x.1
  unfolding parts_from
  parts_more f = ap (λ o. o >>= behind) e ∙ ap (λ (t : Bool). elim t [ true ↦ ok (x.0 ∷ []) | false ↦ second_from x.0 x.1 ]) f

  -- the second part, and the end
  pub second_by : (p : EntryPart) → (x.0.kind ≡ p.kind → ⊥) → list_ends x.1 ≡ true → second_from p s ≡ ok (p ∷ x.0 ∷ [])
  unfolding second_from
  second_by p f g = rw (e, kinds_pass p x.0 f, g)

  -- the first part's kind once more
  pub second_same : (p : EntryPart) → x.0.kind ≡ p.kind → second_from p s ≡ refused 16
  unfolding second_from
  second_same p f = rw (e, kinds_meet p x.0 f)

  -- two parts, and no end
  pub second_open : (p : EntryPart) → (x.0.kind ≡ p.kind → ⊥) → list_ends x.1 ≡ false → second_from p s ≡ refused 16
  unfolding second_from
  second_open p f g = rw (e, kinds_pass p x.0 f, g)

-- no part in front
pub parts_none : (s : List ℕ) → part_from s ≡ refused 16 → parts_from s ≡ refused 16
unfolding parts_from
parts_none s e = rw e

-- neither the end nor a second part behind the first
pub second_none : (p : EntryPart) (s : List ℕ) → part_from s ≡ refused 16 → second_from p s ≡ refused 16
unfolding second_from
second_none p s e = rw e

-- a list by its rules is read
pub parts_back : (ps : List EntryPart) → IsPartList ps → parts_from (list_bytes ps) ≡ ok ps
parts_back [] l = absurd (omega (arith, l.one_or_two.0))
parts_back (p ∷ []) l = rw (list_one p) (parts_one _ (p, 0x80 ∷ []) (part_back p (0x80 ∷ []) l.are_parts.0) end_ends)
parts_back (p ∷ q ∷ []) l =
    rw (list_two p q) (
    parts_more _ (p, part_bytes q ++ 0x80 ∷ []) (part_back p (part_bytes q ++ 0x80 ∷ []) l.are_parts.0) (part_not_end q (0x80 ∷ []) l.are_parts.1.0)
    ∙ second_by _ (q, 0x80 ∷ []) (part_back q (0x80 ∷ []) l.are_parts.1.0) p (kinds_differ p q l.each_kind_once) end_ends
    )
parts_back (p ∷ q ∷ r ∷ ps) l = absurd (omega (arith, l.one_or_two.1))

-- THE THEOREM: a list is read exactly as the parts of which it is made up
pub part_lists_read : PartListsRead
unfolding PartListsRead
part_lists_read s ps = (parts_told s ps, λ (l, e). rw e (parts_back ps l))

-- ---- every refusal is 16
-- of one part
part_only : (s : List ℕ) → Only 16 (part_from s)
unfolding part_from part_by
part_only [] = only_refused 16
part_only (k ∷ s) = go (split_zero s)
  where
    go : (o : Option (List ℕ × List ℕ)) → Only {A = EntryPart × List ℕ} 16 (elim o [ none ↦ refused 16 | some p ↦ part_by k p.0 p.1 ])
    go none = only_refused 16
    go (some p) = only_when 16 (not (kind_takes k (length p.0))) (ok (record { kind = k; bytes = p.0 }, p.1)) (only_ok 16 (record { kind = k; bytes = p.0 }, p.1))

-- of what stands behind the first
second_only : (p : EntryPart) (s : List ℕ) → Only 16 (second_from p s)
unfolding second_from
second_only p s =
    only_bind 16 (part_from s) (λ q. refuse 16 when same_kind p q.0 >> (refuse 16 when not (list_ends q.1) >> ok (p ∷ q.0 ∷ []))) (part_only s)
    (λ q.
    only_when 16 (same_kind p q.0) (refuse 16 when not (list_ends q.1) >> ok (p ∷ q.0 ∷ []))
    (only_when 16 (not (list_ends q.1)) (ok (p ∷ q.0 ∷ [])) (only_ok 16 (p ∷ q.0 ∷ []))))

-- of a list
pub parts_only : (s : List ℕ) → Only 16 (parts_from s)
unfolding parts_from
parts_only s = only_bind 16 (part_from s) behind (part_only s) (λ x. go x (list_ends x.1))
  where
    go : (x : EntryPart × List ℕ) (t : Bool) → Only {A = List EntryPart} 16 (elim t [ true ↦ ok (x.0 ∷ []) | false ↦ second_from x.0 x.1 ])
    go x true = only_ok 16 (x.0 ∷ [])
    go x false = second_only x.0 x.1

-- THE THEOREM: every other slice is refused by 16
pub part_lists_refused : PartListsRefused
unfolding PartListsRefused
part_lists_refused s other = go (parts_from s) refl
  where
    go : (o : Outcome (List EntryPart)) → parts_from s ≡ o → parts_from s ≡ refused 16
    go (refused n) e = e ∙ ap refused (parts_only s n e)
    go (ok ps) e = let (l, there) = parts_told s ps e in absurd (other ps l there)

-- ---- the step call
-- the length of a part
pub length_part : (p : EntryPart) → length (part_bytes p) ≡ length p.bytes + 2
unfolding part_bytes
length_part p = omega (arith, length-append p.bytes (0 ∷ []))

-- the length of parts one behind the other
length_parts : (p : EntryPart) (ps : List EntryPart) → length (parts_bytes (p ∷ ps)) ≡ length p.bytes + 2 + length (parts_bytes ps)
unfolding parts_bytes
length_parts p ps = omega (arith, length-append (part_bytes p) (parts_bytes ps), length_part p)

-- parts one behind the other, in two lists
pub parts_append : (ps qs : List EntryPart) → parts_bytes (ps ++ qs) ≡ parts_bytes ps ++ parts_bytes qs
unfolding parts_bytes
parts_append [] qs = refl
parts_append (p ∷ ps) qs = ap (λ (l : List ℕ). part_bytes p ++ l) (parts_append ps qs) ∙ sym (append_assoc (part_bytes p) (parts_bytes ps) (parts_bytes qs))

-- the step at a part
pub step_at : (p : EntryPart) (ps : List EntryPart) (at offset : ℕ) → offset ≡ at → step_among at (p ∷ ps) offset ≡ ok (some (part_found at p))
unfolding step_among
step_at p ps at offset e = rw (eq-eqb offset at e, step_among)

-- the step past a part
pub step_past : (p : EntryPart) (ps : List EntryPart) (at offset : ℕ) → (offset ≡ at → ⊥) → step_among at (p ∷ ps) offset ≡ step_among (at + (length p.bytes + 2)) ps offset
unfolding step_among
step_past p ps at offset e = rw (ne_eqb offset at e, step_among)

-- the step at the end
pub step_end : (at offset : ℕ) → offset ≡ at → step_among at [] offset ≡ ok none
unfolding step_among
step_end at offset e = rw (eq-eqb offset at e)

-- the step past the end
pub step_nowhere : (at offset : ℕ) → (offset ≡ at → ⊥) → step_among at [] offset ≡ refused 16
unfolding step_among
step_nowhere at offset e = rw (ne_eqb offset at e)

-- the step where a part begins, by the parts in front of it
step_here : (before : List EntryPart) (p : EntryPart) (after : List EntryPart) (at offset : ℕ) → offset ≡ at + length (parts_bytes before)
    → step_among at (before ++ p ∷ after) offset ≡ ok (some (part_found offset p))
unfolding parts_bytes
step_here [] p after at offset e =
    let d : offset ≡ at = omega arith in
    step_at p after at offset d ∙ ap (λ (n : ℕ). ok (some (part_found n p))) (sym d)
step_here (x ∷ before) p after at offset e =
    step_past x (before ++ p ∷ after) at offset (λ w. omega (arith, length_parts x before))
    ∙ step_here before p after (at + (length x.bytes + 2)) offset (omega (arith, length_parts x before))

-- the step where the end begins, by all parts
step_done : (ps : List EntryPart) (at offset : ℕ) → offset ≡ at + length (parts_bytes ps) → step_among at ps offset ≡ ok none
unfolding parts_bytes
step_done [] at offset e = step_end at offset (omega arith)
step_done (x ∷ ps) at offset e =
    step_past x ps at offset (λ w. omega (arith, length_parts x ps)) ∙ step_done ps (at + (length x.bytes + 2)) offset (omega (arith, length_parts x ps))

-- a part of ps that begins at an offset, the first of them beginning at `at`
record Begins (ps : List EntryPart) (at offset : ℕ) : Type 0 where
  before : List EntryPart
  part : EntryPart
  after : List EntryPart
  made_up : ps ≡ before ++ part ∷ after
  begins : offset ≡ at + length (parts_bytes before)

-- one part more in front
begins_later : (p : EntryPart) (ps : List EntryPart) (at offset : ℕ) → Begins ps (at + (length p.bytes + 2)) offset → Begins (p ∷ ps) at offset
begins_later p ps at offset b =
    record {
      before = p ∷ b.before;
      part = b.part;
      after = b.after;
      made_up = ap (λ (l : List EntryPart). p ∷ l) b.made_up;
      begins = omega (arith, b.begins, length_parts p b.before);
    }

-- at every offset a part begins, or the end, or the step is refused
where_stands : (ps : List EntryPart) (at offset : ℕ) → Begins ps at offset ⊎ ((offset ≡ at + length (parts_bytes ps)) ⊎ (step_among at ps offset ≡ refused 16))
unfolding parts_bytes
where_stands [] at offset = go (eqb offset at) refl
  where
    go : (t : Bool) → eqb offset at ≡ t → Begins [] at offset ⊎ ((offset ≡ at + length (parts_bytes [])) ⊎ (step_among at [] offset ≡ refused 16))
    go true e = inr (inl (omega (arith, eqb-true offset at e)))
    go false e = inr (inr (step_nowhere at offset (eqb-false offset at e)))
where_stands (p ∷ ps) at offset = go (where_stands ps (at + (length p.bytes + 2)) offset) (eqb offset at) refl
  where
    go : Begins ps (at + (length p.bytes + 2)) offset
        ⊎ ((offset ≡ at + (length p.bytes + 2) + length (parts_bytes ps)) ⊎ (step_among (at + (length p.bytes + 2)) ps offset ≡ refused 16))
        → (t : Bool) → eqb offset at ≡ t
        → Begins (p ∷ ps) at offset ⊎ ((offset ≡ at + length (parts_bytes (p ∷ ps))) ⊎ (step_among at (p ∷ ps) offset ≡ refused 16))
    go r true e = inl (record { before = []; part = p; after = ps; made_up = refl; begins = omega (arith, eqb-true offset at e) })
    go (inl b) false e = inl (begins_later p ps at offset b)
    go (inr (inl d)) false e = inr (inl (omega (arith, length_parts p ps)))
    go (inr (inr k)) false e = inr (inr (step_past p ps at offset (eqb-false offset at e) ∙ k))

-- a step in a list of these parts
pub step_by : (s : List ℕ) (ps : List EntryPart) (offset : ℕ) → parts_from s ≡ ok ps → part_step s offset ≡ step_among 0 ps offset
unfolding part_step
step_by s ps offset e = rw e

-- a step in no list
pub step_refused : (s : List ℕ) (offset : ℕ) → parts_from s ≡ refused 16 → part_step s offset ≡ refused 16
unfolding part_step
step_refused s offset e = rw e

-- THE THEOREM: the step call answers as document 02 words it
pub step_is_step : StepIsStep
unfolding StepIsStep PartListsRefused part_found
step_is_step =
    record {
      at_part = λ before p after l.
          let n : ℕ = length (parts_bytes before) in
          let d : n + (length p.bytes + 2) ≡ n + length (part_bytes p) = omega (arith, length_part p) in
          step_by _ (before ++ p ∷ after) n (parts_back (before ++ p ∷ after) l) ∙ step_here before p after 0 n (omega arith)
          ∙ ap (λ (m : ℕ). ok (some (record { kind = p.kind; place = n + 1; part_length = length p.bytes; next = m }))) d;
      at_end = λ ps l. step_by _ ps (length (parts_bytes ps)) (parts_back ps l) ∙ step_done ps 0 (length (parts_bytes ps)) (omega arith);
      elsewhere = λ ps l offset no_part no_end.
          step_by _ ps offset (parts_back ps l)
          ∙ ⊎_elim (λ b. absurd (no_part b.before b.part b.after b.made_up (omega (arith, b.begins))))
          (λ r. ⊎_elim (λ e. absurd (no_end (omega arith))) (λ k. k) r) (where_stands ps 0 offset);
      no_list = λ s other offset. step_refused s offset (part_lists_refused s other);
    }

-- a call that answers in a list as worded answers as the step call does, wherever it stands
one_in_list : (step : List ℕ → ℕ → Outcome (Option PartAt)) → StepsThroughParts step → (ps : List EntryPart) → IsPartList ps → (offset : ℕ)
    → step (list_bytes ps) offset ≡ part_step (list_bytes ps) offset
unfolding StepIsStep
one_in_list step w ps l offset = ⊎_elim at_part (λ r. ⊎_elim at_end elsewhere r) (where_stands ps 0 offset)
  where
    here : part_step (list_bytes ps) offset ≡ step_among 0 ps offset
    here = step_by _ ps offset (parts_back ps l)

    at_part : Begins ps 0 offset → step (list_bytes ps) offset ≡ part_step (list_bytes ps) offset
    at_part b =
        let d : offset ≡ length (parts_bytes b.before) = omega (arith, b.begins) in
        let m : IsPartList (b.before ++ b.part ∷ b.after) = rw b.made_up at l in
        rw (b.made_up, d) (w.at_part b.before b.part b.after m ∙ sym (step_is_step.at_part b.before b.part b.after m))

    at_end : offset ≡ 0 + length (parts_bytes ps) → step (list_bytes ps) offset ≡ part_step (list_bytes ps) offset
    at_end e =
        let d : offset ≡ length (parts_bytes ps) = omega arith in
        rw d (w.at_end ps l ∙ sym (step_is_step.at_end ps l))

    elsewhere : step_among 0 ps offset ≡ refused 16 → step (list_bytes ps) offset ≡ part_step (list_bytes ps) offset
    elsewhere k =
        w.elsewhere ps l offset
        (λ before p after m e. not_both (step_among 0 ps offset) (some (part_found offset p)) 16 (rw m (step_here before p after 0 offset (omega arith))) k)
        (λ e. not_both (step_among 0 ps offset) none 16 (step_done ps 0 offset (omega arith)) k)
        ∙ sym (here ∙ k)

-- THE THEOREM: there is no other such call
pub one_step : OneStep
unfolding OneStep PartListsRefused
one_step step w s offset = go (parts_from s) refl
  where
    go : (o : Outcome (List EntryPart)) → parts_from s ≡ o → step s offset ≡ part_step s offset
    go (refused n) e =
        let other : (ps : List EntryPart) → IsPartList ps → s ≡ list_bytes ps → ⊥ = λ ps l there. not_both (parts_from s) ps n (rw there (parts_back ps l)) e in
        w.no_list s other offset ∙ sym (step_refused s offset (part_lists_refused s other))
    go (ok ps) e = let (l, there) = parts_told s ps e in rw there (one_in_list step w ps l offset)

-- the bytes of a part by the parts in front of it
bytes_there : (before : List EntryPart) (p : EntryPart) (after : List EntryPart)
    → bytes_at (length (parts_bytes before) + 1) (length p.bytes) (list_bytes (before ++ p ∷ after)) ≡ p.bytes
unfolding bytes_at list_bytes parts_bytes part_bytes
bytes_there [] p after =
    let a : ((p.bytes ++ 0 ∷ []) ++ parts_bytes after) ++ 0x80 ∷ [] ≡ p.bytes ++ (0 ∷ (parts_bytes after ++ 0x80 ∷ []))
    = ap (λ (l : List ℕ). l ++ 0x80 ∷ []) (append_assoc p.bytes (0 ∷ []) (parts_bytes after)) ∙ append_assoc p.bytes (0 ∷ parts_bytes after) (0x80 ∷ []) in
    ap (take (length p.bytes)) a ∙ take_at p.bytes (0 ∷ (parts_bytes after ++ 0x80 ∷ [])) (length p.bytes) refl
bytes_there (x ∷ before) p after =
    let n : length (parts_bytes (x ∷ before)) + 1 ≡ length (part_bytes x) + (length (parts_bytes before) + 1) = omega (arith, length_parts x before, length_part x) in
    let rest : List ℕ = list_bytes (before ++ p ∷ after) in
    let a : list_bytes (x ∷ (before ++ p ∷ after)) ≡ part_bytes x ++ rest = append_assoc (part_bytes x) (parts_bytes (before ++ p ∷ after)) (0x80 ∷ []) in
    let d : drop (length (part_bytes x) + (length (parts_bytes before) + 1)) (part_bytes x ++ rest) ≡ drop (length (parts_bytes before) + 1) rest
    = drop-append-add (part_bytes x) rest (length (parts_bytes before) + 1) in
    ap₂ (λ (i : ℕ) (l : List ℕ). take (length p.bytes) (drop i l)) n a ∙ ap (take (length p.bytes)) d ∙ bytes_there before p after

-- THE THEOREM: place and length that a step answers are those of the part's bytes
pub step_gives_bytes : StepGivesBytes
unfolding StepGivesBytes
step_gives_bytes = bytes_there

-- ---- how long a list is
-- the length of a list's bytes
pub length_list : (ps : List EntryPart) → length (list_bytes ps) ≡ length (parts_bytes ps) + 1
unfolding list_bytes
length_list ps = length-append (parts_bytes ps) (0x80 ∷ [])

-- an example and a pronunciation, each at its longest, and the end
pub list_short : (ps : List EntryPart) → IsPartList ps → length (list_bytes ps) ≤ 21_005
unfolding parts_bytes
list_short [] l = absurd (omega (arith, l.one_or_two.0))
list_short (p ∷ []) l = go l.are_parts.0.kind_rule
  where
    go : KindTakes p.kind (length p.bytes) → length (list_bytes (p ∷ [])) ≤ 21_005
    go (inl (a, b)) = omega (arith, length_list (p ∷ []), length_parts p [])
    go (inr (a, b)) = omega (arith, length_list (p ∷ []), length_parts p [])
list_short (p ∷ q ∷ []) l = go (kinds_differ p q l.each_kind_once) l.are_parts.0.kind_rule l.are_parts.1.0.kind_rule
  where
    go : (q.kind ≡ p.kind → ⊥) → KindTakes p.kind (length p.bytes) → KindTakes q.kind (length q.bytes) → length (list_bytes (p ∷ q ∷ [])) ≤ 21_005
    go d (inl (a, b)) (inl (e, f)) = absurd (d (omega arith))
    go d (inl (a, b)) (inr (e, f)) = omega (arith, length_list (p ∷ q ∷ []), length_parts p (q ∷ []), length_parts q [])
    go d (inr (a, b)) (inl (e, f)) = omega (arith, length_list (p ∷ q ∷ []), length_parts p (q ∷ []), length_parts q [])
    go d (inr (a, b)) (inr (e, f)) = absurd (d (omega arith))
list_short (p ∷ q ∷ r ∷ ps) l = absurd (omega (arith, l.one_or_two.1))

-- the same of a slice that is read as a list
pub slice_short : (s : List ℕ) → accepted (parts_from s) ≡ true → length s ≤ 21_005
slice_short s h =
    let a = accepted_answer (parts_from s) h in
    let (l, there) = parts_told s a.value a.is in
    rw there (list_short a.value l)
