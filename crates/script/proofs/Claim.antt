-- The sorted-list claim of a script: what play leaves.
use Prim.Native.Nat.{ℕ, zero, suc, ◌+◌, ◌<◌}
use mathlib.Core.Path.{◌≡◌, refl}
use mathlib.Core.Bool.{Bool, true, false, ◌&&◌}
use mathlib.Core.List.{List, [], ◌∷◌}
use mathlib.Core.Option.{Option, none, some, none-ne-some, some-injective}
use native.Mathlib.Omega.{arith}
use lib.ListN.{length, get_or, get_elem?, drop, set}
use lib.Dec.{T, leb, ltb, lt→ltb}
use lib.Pow.{are_bytes}
use Rattle.spec.specs.Order.{HeadwordOrder}
use Rattle.spec.specs.Lists.{all}
use Rattle.spec.specs.Bytes.{bytes_at, zeros}
use Rattle.spec.specs.Entry.{Entry}
use Rattle.spec.specs.Check.{entries_of}
use Rattle.spec.specs.Claim.{Call, perform, is_refused, list_step, Matches, History, call_bytes, SortedListClaim}
use Rattle.spec.proofs.ListsLaws.{hold_both}
use Rattle.spec.proofs.BytesLaws.{Small, all_bytes, small_of, bytes_of, small_drop, small_at}
use Rattle.spec.proofs.ClaimLaws.{sorted_list_claim}
use Rattle.script.specs.Script.{headword_size, text_size, call_size, kinds, call_of, front_call, calls_from, calls_of, Told, told, Played, played_from, played, fed, Claimed}

-- after the last call the image is accepted and its entries are the sorted list's
last_matches : (below : HeadwordOrder) (n : ℕ) (cs : List Call) (s : List ℕ) (L : ℕ) (es : List Entry) (work codes : List ℕ) → History below s L es cs
    → Matches below (played_from n cs s L work codes).image (played_from n cs s L work codes).length_after (fed below cs s L es)
unfolding History played_from told fed
last_matches below n [] s L es work codes h = h
last_matches below n (c ∷ cs) s L es work codes h =
    let r : Told = told s L work c in
    last_matches below (n + 1) cs r.image r.length_after (list_step below (is_refused (perform s L c).observed) c es) r.work (set codes n r.code) h.2

-- every call of a list is of bytes
AllBytes : List Call → Type 0
AllBytes l = (i : ℕ) (c : Call) → get_elem? l i ≡ some c → T (call_bytes c)

-- of none
bytes_nil : AllBytes []
unfolding AllBytes
bytes_nil i c e = absurd (none-ne-some c e)

-- of one and the others
bytes_cons : (c : Call) (l : List Call) → T (call_bytes c) → AllBytes l → AllBytes (c ∷ l)
unfolding AllBytes
bytes_cons c l p q zero d e = rw (← some-injective c d e) p
bytes_cons c l p q (suc i) d e = q i d e

-- zeros are bytes
zeros_bytes : (n : ℕ) → T (are_bytes (zeros n))
unfolding zeros
zeros_bytes zero = tt
zeros_bytes (suc n) = zeros_bytes n

-- a byte of bytes
small_get : (s : List ℕ) (k : ℕ) → Small s → get_or s k 0 < 256
small_get [] k h = omega arith
small_get (b ∷ s) zero h = h.0
small_get (b ∷ s) (suc k) h = small_get s k h.1

-- every kind with arguments of bytes is a call of bytes
kinds_bytes : (w : ℕ) (h : List ℕ) (a : ℕ) (t : List ℕ) → T (are_bytes h) → T (ltb a 256) → T (are_bytes t) → AllBytes (kinds w h a t)
unfolding kinds call_bytes
kinds_bytes w h a t p q r =
    let o : T (are_bytes (zeros 3000)) = zeros_bytes 3000 in
    let x : T (are_bytes (zeros w) && are_bytes h) = hold_both (are_bytes (zeros w)) (are_bytes h) (zeros_bytes w) p in
    let y : T (are_bytes h && are_bytes (zeros 248)) = hold_both (are_bytes h) (are_bytes (zeros 248)) p (zeros_bytes 248) in
    let z : T (are_bytes h && are_bytes (zeros 248) && are_bytes (zeros 3000)) = hold_both (are_bytes h && are_bytes (zeros 248)) (are_bytes (zeros 3000)) y o in
    bytes_cons _ _ (hold_both (are_bytes h) (are_bytes (zeros 3000)) p o)
    (bytes_cons _ _ z
    (bytes_cons _ _ z
    (bytes_cons _ _ (hold_both (are_bytes (zeros w) && are_bytes h && ltb a 256) (are_bytes t) (hold_both (are_bytes (zeros w) && are_bytes h) (ltb a 256) x q) r)
    (bytes_cons _ _ x
    (bytes_cons _ _ (zeros_bytes w) bytes_nil)))))

-- the call at the front of a script of bytes
call_of_bytes : (w : ℕ) (s : List ℕ) → Small s → (c : Call) → call_of w s ≡ some c → T (call_bytes c)
unfolding call_of AllBytes
call_of_bytes w s h c e =
    let x : List ℕ = bytes_at 5 (headword_size s) s in
    let y : List ℕ = bytes_at (5 + headword_size s) (text_size s) s in
    let p : T (are_bytes x) = bytes_of x (small_at 5 (headword_size s) s h) in
    let q : T (are_bytes y) = bytes_of y (small_at (5 + headword_size s) (text_size s) s h) in
    kinds_bytes w x (get_or s 4 0) y p (lt→ltb (get_or s 4 0) 256 (small_get s 4 h)) q (get_or s 0 0) c e

-- the same where it must be whole
front_bytes : (w : ℕ) (s : List ℕ) → Small s → (c : Call) → front_call w s ≡ some c → T (call_bytes c)
unfolding front_call
front_bytes w s h c e = go (leb 5 (length s) && leb (call_size s) (length s)) e
  where
    go : (t : Bool) → ◌≡◌ {A = Option Call} (elim t [ true ↦ call_of w s | false ↦ none ]) (some c) → T (call_bytes c)
    go true q = call_of_bytes w s h c q
    go false q = absurd (none-ne-some c q)

-- all calls of a script of bytes
calls_from_bytes : (w n : ℕ) (s : List ℕ) → Small s → T (all call_bytes (calls_from w n s))
unfolding calls_from all
calls_from_bytes w zero s h = tt
calls_from_bytes w (suc n) s h = go (front_call w s) refl (calls_from_bytes w n (drop (call_size s) s) (small_drop (call_size s) s h))
  where
    go : (o : Option Call) → front_call w s ≡ o → T (all call_bytes (calls_from w n (drop (call_size s) s)))
        → T (all call_bytes (elim o [ none ↦ [] | some c ↦ c ∷ calls_from w n (drop (call_size s) s) ]))
    go none e ih = tt
    go (some c) e ih = hold_both (call_bytes c) (all call_bytes (calls_from w n (drop (call_size s) s))) (front_bytes w s h c e) ih

-- THE CLAIM of every script on every slice: what play leaves, by its contract, is what the sorted-list claim says of the script's calls
pub script_claim : (s : List ℕ) → T (are_bytes s) → (L : ℕ) (script : List ℕ) → T (are_bytes script) → (w : ℕ) (work codes : List ℕ) (left : Played)
    → left ≡ played (calls_of w script) s L work codes → Claimed (calls_of w script) s L left.image left.length_after
unfolding SortedListClaim calls_of played Claimed
script_claim s small L script bytes w work codes left e i got =
    let cs : List Call = calls_of w script in
    let h : History i.frame.format.below s L (entries_of i) cs = sorted_list_claim s L i small got cs (calls_from_bytes w (length script) script (small_of script bytes)) in
    (h, rw e (last_matches i.frame.format.below 0 cs s L (entries_of i) work codes h))

-- as the code knows it
pub script_claimed : (s : List ℕ) → ((k : ℕ) → get_or s k 0 < 256) → (L : ℕ) (script : List ℕ) → ((k : ℕ) → get_or script k 0 < 256) → (w : ℕ) (work codes : List ℕ) (left : Played)
    → left ≡ played (calls_of w script) s L work codes → Claimed (calls_of w script) s L left.image left.length_after
script_claimed s p L script q w work codes left e = script_claim s (all_bytes s p) L script (all_bytes script q) w work codes left e
