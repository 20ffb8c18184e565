-- Pairs are read as document 02 words it, and fronts that end inside none. F-4.
use Prim.Native.Nat.{ℕ, zero, suc, ◌+◌, ◌-◌, ◌<◌, ◌≤◌}
use mathlib.Core.Path.{◌≡◌, refl, sym, ap, ◌∙◌}
use mathlib.Core.Logic.{inl, inr}
use mathlib.Core.Bool.{Bool, true, false, ◌&&◌, and-false, false≢true}
use mathlib.Core.List.{List, [], ◌∷◌, ◌++◌}
use native.Mathlib.Omega.{arith}
use lib.ListN.{length, get_or, take, length-append}
use lib.Seq.{take-suc, take-append-add}
use lib.Dec.{leb, ltb}
use borrow.Author.Tests.{leb-true, le-leb, ltb-true, lt-ltb}
use Rattle.spec.specs.Order.{common_prefix}
use Rattle.spec.specs.Pairs.{is_lead, second_next, second_behind, ends_inside, whole_front}
use Rattle.spec.specs.Entry.{shared_front}
use Rattle.spec.specs.FrontForm.{BeginsPair, Characters, EndsInside, PairsRead}
use Rattle.spec.proofs.ListsLaws.{and_left, and_right, or_cases, or_right}

-- ---- bytes that begin a pair
-- the paper's are lead bytes
begins_lead : (b : ℕ) → BeginsPair b → is_lead b ≡ true
unfolding is_lead BeginsPair
begins_lead b (inl (p, q)) = rw (le-leb 0x81 b p, le-leb b 0x9F q)
begins_lead b (inr (p, q)) = or_right (leb 0x81 b && leb b 0x9F) (leb 0xE0 b && leb b 0xFC) (rw (le-leb 0xE0 b p, le-leb b 0xFC q))

-- bytes of a range, by its tests
in_range : (a b c : ℕ) → leb a b && leb b c ≡ true → (a ≤ b) × (b ≤ c)
in_range a b c e = (leb-true a b (and_left (leb a b) (leb b c) e), leb-true b c (and_right (leb a b) (leb b c) e))

-- and lead bytes are the paper's
lead_begins : (b : ℕ) → is_lead b ≡ true → BeginsPair b
unfolding is_lead BeginsPair
lead_begins b h = or_cases (leb 0x81 b && leb b 0x9F) (leb 0xE0 b && leb b 0xFC) (λ e. inl (in_range 0x81 b 0x9F e)) (λ e. inr (in_range 0xE0 b 0xFC e)) h

-- another byte begins no pair
no_lead : (b : ℕ) → is_lead b ≡ false → BeginsPair b → ⊥
no_lead b e p = false≢true (sym e ∙ begins_lead b p)

-- and one that begins none is another
lead_no : (b : ℕ) → (BeginsPair b → ⊥) → is_lead b ≡ false
lead_no b p = go (is_lead b) refl
  where
    go : (t : Bool) → is_lead b ≡ t → is_lead b ≡ false
    go true e = absurd (p (lead_begins b e))
    go false e = e

-- ---- whether a byte is the second of a pair, from byte to byte
-- behind bytes and more bytes
second_append : (t : Bool) (p q : List ℕ) → second_behind t (p ++ q) ≡ second_behind (second_behind t p) q
unfolding second_behind
second_append t [] q = refl
second_append t (x ∷ p) q = second_append (second_next t x) p q

-- behind one byte more of a headword
pub second_step : (h : List ℕ) (n : ℕ) → n < length h → second_behind false (take (suc n) h) ≡ second_next (second_behind false (take n h)) (get_or h n 0)
unfolding second_behind
second_step h n l = ap (second_behind false) (take-suc h n 0 l) ∙ second_append false (take n h) (get_or h n 0 ∷ [])

-- ---- pairs are read from the start
-- behind a byte that stands alone the scan begins again
behind_alone : (b : ℕ) (l : List ℕ) → is_lead b ≡ false → second_behind false (b ∷ l) ≡ second_behind false l
unfolding second_behind second_next
behind_alone b l e = ap (λ (t : Bool). second_behind t l) e

-- and behind a pair
behind_pair : (b c : ℕ) (l : List ℕ) → is_lead b ≡ true → second_behind false (b ∷ c ∷ l) ≡ second_behind false l
unfolding second_behind second_next
behind_pair b c l e = ap (λ (t : Bool). second_behind (second_next t c) l) e

-- behind whole characters there is no second byte
characters_end : (p : List ℕ) → Characters p → second_behind false p ≡ false
unfolding second_behind Characters
characters_end [] c = refl
characters_end (b ∷ []) c = behind_alone b [] (lead_no b c)
characters_end (b ∷ d ∷ p) (inl (l, c)) = behind_pair b d p (begins_lead b l) ∙ characters_end p c
characters_end (b ∷ d ∷ p) (inr (n, c)) = behind_alone b (d ∷ p) (lead_no b n) ∙ characters_end (d ∷ p) c

-- a byte that begins no pair in front of whole characters
characters_more : (b : ℕ) (p : List ℕ) → (BeginsPair b → ⊥) → Characters p → Characters (b ∷ p)
unfolding Characters
characters_more b [] n c = n
characters_more b (d ∷ p) n c = inr (n, c)

-- a pair that ends behind n, with a byte more in front that stands alone
inside_alone : (b : ℕ) (h : List ℕ) (n : ℕ) → (BeginsPair b → ⊥) → EndsInside h n → EndsInside (b ∷ h) (suc n)
inside_alone b h n p f = record {
  before = b ∷ f.before;
  lead = f.lead;
  second = f.second;
  rest = f.rest;
  made_up = ap (λ (x : List ℕ). b ∷ x) f.made_up;
  characters = characters_more b f.before p f.characters;
  begins = f.begins;
  cut = omega (arith, f.cut);
}

-- and with a pair more in front
inside_pair : (b c : ℕ) (h : List ℕ) (n : ℕ) → BeginsPair b → EndsInside h n → EndsInside (b ∷ c ∷ h) (suc (suc n))
unfolding Characters
inside_pair b c h n p f = record {
  before = b ∷ c ∷ f.before;
  lead = f.lead;
  second = f.second;
  rest = f.rest;
  made_up = ap (λ (x : List ℕ). b ∷ c ∷ x) f.made_up;
  characters = inl (p, f.characters);
  begins = f.begins;
  cut = omega (arith, f.cut);
}

-- the pair that the scan finds
found : (h : List ℕ) (n : ℕ) → n < length h → second_behind false (take n h) ≡ true → EndsInside h n
unfolding second_behind second_next Characters
found h zero l e = absurd (false≢true e)
found [] (suc n) l e = absurd (omega arith)
found (b ∷ []) (suc n) l e = absurd (omega arith)
found (b ∷ c ∷ h) (suc zero) l e = record { before = []; lead = b; second = c; rest = h; made_up = refl; characters = tt; begins = lead_begins b e; cut = refl }
found (b ∷ c ∷ h) (suc (suc n)) l e = go (found h n (omega arith)) (found (c ∷ h) (suc n) (omega arith)) (is_lead b) refl
  where
    go : (second_behind false (take n h) ≡ true → EndsInside h n) → (second_behind false (take (suc n) (c ∷ h)) ≡ true → EndsInside (c ∷ h) (suc n))
        → (t : Bool) → is_lead b ≡ t → EndsInside (b ∷ c ∷ h) (suc (suc n))
    go two one true q = inside_pair b c h n (lead_begins b q) (two (sym (behind_pair b c (take n h) q) ∙ e))
    go two one false q = inside_alone b (c ∷ h) (suc n) (no_lead b q) (one (sym (behind_alone b (take (suc n) (c ∷ h)) q) ∙ e))

-- what it finds is such a pair
told : (h : List ℕ) (n : ℕ) → ends_inside h n ≡ true → EndsInside h n
unfolding ends_inside
told h n e =
    let second : Bool = second_behind false (take n h) in
    found h n (ltb-true n (length h) (and_left (ltb n (length h)) second e)) (and_right (ltb n (length h)) second e)

-- where there is such a pair, the scan finds it
pub seen : (h : List ℕ) (n : ℕ) → EndsInside h n → ends_inside h n ≡ true
unfolding ends_inside second_behind second_next
seen h n f =
    let whole : List ℕ = f.before ++ f.lead ∷ f.second ∷ f.rest in
    let long : length whole ≡ length f.before + (2 + length f.rest) = length-append f.before (f.lead ∷ f.second ∷ f.rest) ∙ omega arith in
    let front : take n whole ≡ f.before ++ f.lead ∷ [] = ap (λ (k : ℕ). take k whole) f.cut ∙ take-append-add f.before (f.lead ∷ f.second ∷ f.rest) 1 in
    let at_lead : second_behind false (take n whole) ≡ true
    = ap (second_behind false) front ∙ second_append false f.before (f.lead ∷ []) ∙ ap (λ (t : Bool). second_next t f.lead) (characters_end f.before f.characters)
    ∙ begins_lead f.lead f.begins in
    rw (f.made_up, at_lead, lt-ltb n (length whole) (omega (arith, f.cut, long)))

-- THE LAW: the scan reads pairs as document 02 words them
pub pairs_read : PairsRead
unfolding PairsRead
pairs_read h n = (told h n, seen h n)

-- ---- fronts that end inside no pair
-- a front of no byte ends inside none
inside_none : (h : List ℕ) → ends_inside h 0 ≡ false
unfolding ends_inside second_behind
inside_none h = and-false (ltb 0 (length h))

-- a front that ends inside a pair and is a byte shorter ends before the pair
inside_shorter : (h : List ℕ) (n : ℕ) → ends_inside h (suc n) ≡ true → ends_inside h n ≡ false
unfolding ends_inside second_next
inside_shorter h n e = go (second_behind false (take n h)) refl
  where
    long : suc n < length h
    long = ltb-true (suc n) (length h) (and_left (ltb (suc n) (length h)) (second_behind false (take (suc n) h)) e)

    go : (t : Bool) → second_behind false (take n h) ≡ t → ltb n (length h) && second_behind false (take n h) ≡ false
    go true q =
        absurd
        (false≢true
        (sym (second_step h n (omega (arith, long)) ∙ ap (λ (t : Bool). second_next t (get_or h n 0)) q) ∙ and_right (ltb (suc n) (length h)) (second_behind false (take (suc n) h)) e))
    go false q = rw (q, lt-ltb n (length h) (omega (arith, long)))

-- the front of up to n bytes, by whether n bytes end inside a pair
front_by : (h : List ℕ) (n : ℕ) (t : Bool) → ends_inside h n ≡ t → whole_front h n ≡ elim t [ true ↦ n - 1 | false ↦ n ]
unfolding whole_front
front_by h n t e = rw (e, whole_front)

-- one byte less
pub front_cut : (h : List ℕ) (n : ℕ) → ends_inside h n ≡ true → whole_front h n ≡ n - 1
front_cut h n e = front_by h n true e

-- or all
pub front_kept : (h : List ℕ) (n : ℕ) → ends_inside h n ≡ false → whole_front h n ≡ n
front_kept h n e = front_by h n false e

-- it has at most n bytes
pub front_most : (h : List ℕ) (n : ℕ) → whole_front h n ≤ n
front_most h n = go (ends_inside h n) refl
  where
    go : (t : Bool) → ends_inside h n ≡ t → whole_front h n ≤ n
    go true e = rw (front_cut h n e) (omega arith)
    go false e = rw (front_kept h n e) (omega arith)

-- it ends inside no pair
pub front_whole : (h : List ℕ) (n : ℕ) → ends_inside h (whole_front h n) ≡ false
front_whole h n = go n (ends_inside h n) refl
  where
    go : (m : ℕ) (t : Bool) → ends_inside h m ≡ t → ends_inside h (whole_front h m) ≡ false
    go m false e = rw (front_kept h m e) e
    go zero true e = absurd (false≢true (sym (inside_none h) ∙ e))
    go (suc m) true e =
        let less : suc m - 1 ≡ m = omega arith in
        rw (front_cut h (suc m) e, less) (inside_shorter h m e)

-- and no longer one up to n does
pub front_largest : (h : List ℕ) (n m : ℕ) → m ≤ n → ends_inside h m ≡ false → m ≤ whole_front h n
front_largest h n m p q = go (ends_inside h n) refl
  where
    go : (t : Bool) → ends_inside h n ≡ t → m ≤ whole_front h n
    go false e = rw (front_kept h n e) p
    go true e =
        let other : m ≡ n → ⊥ = λ w. false≢true (sym q ∙ ap (ends_inside h) w ∙ e) in
        rw (front_cut h n e) (omega arith)

-- a front that ends inside no pair of the paper ends inside none by the scan
pub not_inside : (h : List ℕ) (n : ℕ) → (EndsInside h n → ⊥) → ends_inside h n ≡ false
not_inside h n p = go (ends_inside h n) refl
  where
    go : (t : Bool) → ends_inside h n ≡ t → ends_inside h n ≡ false
    go false e = e
    go true e = absurd (p (told h n e))

-- of a run's first entry the front that is written is 0
pub front_none : (h : List ℕ) → shared_front [] h ≡ 0
unfolding shared_front common_prefix
front_none h = omega (arith, front_most)
