-- The calls of a script one after the other, as the code meets them.
use Prim.Native.Nat.{ℕ, zero, suc, ◌+◌, ◌-◌, ◌<◌, ◌≤◌}
use mathlib.Core.Path.{◌≡◌, refl, sym, ap, ◌∙◌, subst}
use mathlib.Core.Bool.{Bool, true, false, ◌&&◌}
use mathlib.Core.List.{List, [], ◌∷◌}
use mathlib.Core.Option.{Option, none, some}
use native.Mathlib.Omega.{arith}
use lib.ListN.{length, get_or, get_elem?, take, drop, set, length-drop}
use lib.Seq.{take-length, drop-drop}
use lib.Dec.{leb}
use borrow.Author.Tests.{le-leb, lt-leb}
use Rattle.spec.specs.Bytes.{from_little_endian, bytes_at}
use Rattle.spec.specs.Claim.{Call}
use Rattle.script.specs.Script.{headword_size, text_size, call_size, kinds, call_of, front_call, FrontOf, calls_from, calls_of, told, Played, played_from, played}
use Rattle.std.specs.Prelude as std
use Rattle.std.specs.Prelude.{Some, None}

-- nothing stands past the end
none_past : (l : List Call) (i : ℕ) → length l ≤ i → get_elem? l i ≡ none
none_past [] i p = refl
none_past (c ∷ l) zero p = absurd (omega arith)
none_past (c ∷ l) (suc i) p = none_past l i (omega arith)

-- there are six kinds
six_kinds : (w : ℕ) (h : List ℕ) (a : ℕ) (t : List ℕ) → length (kinds w h a t) ≡ 6
unfolding kinds
six_kinds w h a t = refl

-- another kind is no call
kind_past : (w : ℕ) (s : List ℕ) → 5 < get_or s 0 0 → call_of w s ≡ none
unfolding call_of
kind_past w s p =
    let l : List Call = kinds w (bytes_at 5 (headword_size s) s) (get_or s 4 0) (bytes_at (5 + headword_size s) (text_size s) s) in
    none_past l (get_or s 0 0) (omega (arith, six_kinds w (bytes_at 5 (headword_size s) s) (get_or s 4 0) (bytes_at (5 + headword_size s) (text_size s) s)))

-- a script that holds its first call whole
front_whole : (w : ℕ) (s : List ℕ) → call_size s ≤ length s → front_call w s ≡ call_of w s
unfolding front_call
front_whole w s p = rw (le-leb 5 (length s) (omega arith), le-leb (call_size s) (length s) p, front_call)

-- and one that does not
front_broken : (w : ℕ) (s : List ℕ) → length s < call_size s → front_call w s ≡ none
unfolding front_call
front_broken w s p = rw (lt-leb (call_size s) (length s) p, front_call) (go (leb 5 (length s)))
  where
    go : (t : Bool) → ◌≡◌ {A = Option Call} (elim (t && false) [ true ↦ call_of w s | false ↦ none ]) none
    go true = refl
    go false = refl

-- The size of the first call.
-- a script too short for the front of a call
pub size_short : (s : List ℕ) → length s < 5 → FrontOf s None
size_short s p w = front_broken w s (omega arith)

-- another kind
pub size_kind : (s : List ℕ) → 5 < get_or s 0 0 → FrontOf s None
unfolding front_call
size_kind s p w = go w (leb 5 (length s) && leb (call_size s) (length s))
  where
    go : (w : ℕ) (t : Bool) → ◌≡◌ {A = Option Call} (elim t [ true ↦ call_of w s | false ↦ none ]) none
    go w true = kind_past w s p
    go w false = refl

-- a call that does not fit
pub size_past : (s : List ℕ) (a b : ℕ) → a ≡ get_or s 1 0 → b ≡ from_little_endian (bytes_at 2 2 s) → length s < 5 + a + b → FrontOf s None
size_past s a b e f p w = front_broken w s (omega arith)

-- a call
pub size_whole : (s : List ℕ) (a b : ℕ) → a ≡ get_or s 1 0 → b ≡ from_little_endian (bytes_at 2 2 s) → 5 + a + b ≤ length s → get_or s 0 0 ≤ 5 → FrontOf s (Some (5 + a + b))
size_whole s a b e f p k = (rw (e, f), p, k)

-- where the script ends it has no calls
calls_none : (w n : ℕ) (s : List ℕ) → front_call w s ≡ none → calls_from w n s ≡ []
unfolding calls_from
calls_none w zero s e = refl
calls_none w (suc n) s e = rw (e, calls_from)

-- one call and the rest
calls_some : (w n : ℕ) (s : List ℕ) (c : Call) → front_call w s ≡ some c → calls_from w (suc n) s ≡ c ∷ calls_from w n (drop (call_size s) s)
unfolding calls_from
calls_some w n s c e = rw (e, calls_from)

-- an empty script
calls_short : (w n : ℕ) (s : List ℕ) → length s ≤ 0 → calls_from w n s ≡ []
calls_short w n s p = calls_none w n s (front_broken w s (omega arith))

-- as many turns as the script has bytes are enough
calls_enough : (w n m : ℕ) (s : List ℕ) → length s ≤ n → length s ≤ m → calls_from w n s ≡ calls_from w m s
calls_enough w zero m s p q = calls_short w zero s p ∙ sym (calls_short w m s p)
calls_enough w (suc n) zero s p q = calls_short w (suc n) s q ∙ sym (calls_short w zero s q)
calls_enough w (suc n) (suc m) s p q = go (front_call w s) refl (calls_enough w n m (drop (call_size s) s) (omega (arith, length-drop (call_size s) s)) (omega (arith, length-drop (call_size s) s)))
  where
    go : (o : Option Call) → front_call w s ≡ o → calls_from w n (drop (call_size s) s) ≡ calls_from w m (drop (call_size s) s) → calls_from w (suc n) s ≡ calls_from w (suc m) s
    go none e ih = calls_none w (suc n) s e ∙ sym (calls_none w (suc m) s e)
    go (some c) e ih = calls_some w n s c e ∙ ap (λ (cs : List Call). c ∷ cs) ih ∙ sym (calls_some w m s c e)

-- the first call and the rest
calls_first : (w : ℕ) (s : List ℕ) (c : Call) → call_size s ≤ length s → call_of w s ≡ some c → calls_of w s ≡ c ∷ calls_of w (drop (call_size s) s)
unfolding calls_of
calls_first w s c p e =
    let n : ℕ = length s - 1 in
    let k : length s ≡ suc n = omega arith in
    let rest : List ℕ = drop (call_size s) s in
    let r : calls_from w n rest ≡ calls_from w (length rest) rest = calls_enough w n (length rest) rest (omega (arith, length-drop (call_size s) s)) (omega arith) in
    calls_enough w (length s) (suc n) s (omega arith) (omega arith) ∙ calls_some w n s c (front_whole w s p ∙ e) ∙ ap (λ (cs : List Call). c ∷ cs) r

-- what stands at a place is something
some_at : (l : List Call) (i : ℕ) → i < length l → (c : Call) × (get_elem? l i ≡ some c)
some_at [] i p = absurd (omega arith)
some_at (c ∷ l) zero p = (c, refl)
some_at (c ∷ l) (suc i) p = some_at l i (omega arith)

-- a kind up to 5 is a call
pub call_there : (w : ℕ) (s : List ℕ) → get_or s 0 0 ≤ 5 → (c : Call) × (call_of w s ≡ some c)
unfolding call_of
call_there w s p =
    let l : List Call = kinds w (bytes_at 5 (headword_size s) s) (get_or s 4 0) (bytes_at (5 + headword_size s) (text_size s) s) in
    some_at l (get_or s 0 0) (omega (arith, six_kinds w (bytes_at 5 (headword_size s) s) (get_or s 4 0) (bytes_at (5 + headword_size s) (text_size s) s)))

-- the first call performed, then the rest
played_call : (n : ℕ) (c : Call) (cs : List Call) (s : List ℕ) (L : ℕ) (work codes : List ℕ) (code : ℕ) (s' : List ℕ) (L' : ℕ) (work' : List ℕ)
    → record { code = code; image = s'; length_after = L'; work = work' } ≡ told s L work c
    → (codes' : List ℕ) → codes' ≡ set codes n code → played_from n (c ∷ cs) s L work codes ≡ played_from (n + 1) cs s' L' work' codes'
unfolding played_from
played_call n c cs s L work codes code s' L' work' u codes' k = rw (k, ← u)

-- at the start
pub played_start : (w : ℕ) (script s : List ℕ) (L : ℕ) (work codes : List ℕ) → played_from 0 (calls_of w (drop 0 script)) s L work codes ≡ played (calls_of w script) s L work codes
unfolding played
played_start w script s L work codes = refl

-- the rest of a script as a part
rest_is : (script : List ℕ) (at : ℕ) → take (length script - at) (drop at script) ≡ drop at script
rest_is script at = rw (← length-drop at script, take-length (drop at script))

-- a call at the front: its size, and that the script holds it whole
front_told : (s : List ℕ) (r : std.Option ℕ) → FrontOf s r → (size : ℕ) → r ≡ Some size → (size ≡ call_size s) × (size ≤ length s) × (get_or s 0 0 ≤ 5)
front_told s r known size q = subst (FrontOf s) q known

-- a call that has a size is there
pub size_told : (s : List ℕ) (r : std.Option ℕ) → FrontOf s r → (size : ℕ) → r ≡ Some size → (call_size s ≤ length s) × (get_or s 0 0 ≤ 5)
size_told s r known size q = let (a, b, d) = front_told s r known size q in (omega arith, d)

-- it ends inside the script, behind where it starts
pub size_inside : (script : List ℕ) (at : ℕ) (r : std.Option ℕ) → FrontOf (take (length script - at) (drop at script)) r → at ≤ length script → (size : ℕ) → r ≡ Some size
    → (1 ≤ size) × (at + size ≤ length script)
size_inside script at r known p size q =
    let (a, b, d) = front_told (take (length script - at) (drop at script)) r known size q in
    let l : length (take (length script - at) (drop at script)) ≡ length script - at = ap length (rest_is script at) ∙ length-drop at script in
    (omega arith, omega arith)

-- The loop. X is what is to come of the whole script.
module _ (w : ℕ) (script : List ℕ) (at n L : ℕ) (s work codes : List ℕ) (X : Played) (inv : played_from n (calls_of w (drop at script)) s L work codes ≡ X) (r : std.Option ℕ)
    (known : FrontOf (take (length script - at) (drop at script)) r) where
  -- the end
  pub played_end : r ≡ None → record { image = s; length_after = L; work = work; codes = codes } ≡ X
  unfolding calls_of played_from
  played_end e =
      let none_left : calls_of w (drop at script) ≡ [] = calls_none w (length (drop at script)) (drop at script)
      (rw (rest_is script at) at (subst (FrontOf (take (length script - at) (drop at script))) e known w)) in
      sym (ap (λ (cs : List Call). played_from n cs s L work codes) none_left) ∙ inv

  -- a turn
  pub played_turn : (size : ℕ) → r ≡ Some size → length work ≡ w → (code : ℕ) (s' : List ℕ) (L' : ℕ) (work' : List ℕ)
      → ((c : Call) → call_of (length work) (take (length script - at) (drop at script)) ≡ some c → record { code = code; image = s'; length_after = L'; work = work' } ≡ told s L work c)
      → (codes' : List ℕ) → codes' ≡ set codes n code
      → played_from (n + 1) (calls_of w (drop (at + size) script)) s' L' work' codes' ≡ X
  played_turn size q g code s' L' work' t codes' k = go (front_told rest r (subst (λ (x : List ℕ). FrontOf x r) (rest_is script at) known) size q)
    where
      rest : List ℕ
      rest = drop at script

      go : (size ≡ call_size rest) × (size ≤ length rest) × (get_or rest 0 0 ≤ 5) → played_from (n + 1) (calls_of w (drop (at + size) script)) s' L' work' codes' ≡ X
      go (a, b, d) =
          let (c, e) = call_there w rest d in
          let cs : List Call = calls_of w (drop (call_size rest) rest) in
          let f : drop (at + size) script ≡ drop (call_size rest) rest = sym (drop-drop size at script) ∙ ap (λ (x : ℕ). drop x rest) a in
          let first : calls_of w rest ≡ c ∷ cs = calls_first w rest c (omega arith) e in
          rw f (sym (played_call n c cs s L work codes code s' L' work' (t c (rw (g, rest_is script at) e)) codes' k) ∙ ap (λ (l : List Call). played_from n l s L work codes) (sym first) ∙ inv)
