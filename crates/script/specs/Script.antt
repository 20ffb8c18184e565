-- A script: calls written in bytes, one after the other, and what comes of them.
-- A call: kind (1) | headword length (1) | text length (2, low byte first) | attribute (1) | headword | text.
use Rattle.std.specs.Prelude.{ℕ, zero, suc, ◌+◌, ◌≤◌, ◌≡◌, true, false, ◌&&◌, List, [], ◌∷◌, length, get_or, drop, set, leb}
use Rattle.std.proofs.Math.Option.{Option, none, some}
use Rattle.std.proofs.Math.ListN.{get_elem?}
use Rattle.spec.specs.Order.{HeadwordOrder}
use Rattle.spec.specs.Outcome.{Outcome, refused, ok}
use Rattle.spec.specs.Bytes.{from_little_endian, bytes_at, zeros}
use Rattle.spec.specs.Entry.{Entry}
use Rattle.spec.specs.Check.{Image, image_in, entries_of}
use Rattle.spec.specs.Calls.{work_after}
use Rattle.spec.specs.Claim.{Call, look_up_call, walk_call, insert_call, delete_call, optimise_call, perform, is_refused, list_step, Matches, History}
use Rattle.spec.specs.Claim.{Observed, absent, text_found, entry_found, done, removed}
use Rattle.std.specs.Prelude as std
use Rattle.std.specs.Prelude.{Result, Ok, Err, Some, None}
use Rattle.spec.specs.Answers.{number_of}
use Rattle.spec.specs.declared.Refusal.{Refusal}

-- the length of the headword of the call at the front of s
abbrev pub headword_size : List ℕ → ℕ
headword_size s = get_or s 1 0

-- the length of its text
abbrev pub text_size : List ℕ → ℕ
text_size s = from_little_endian (bytes_at 2 2 s)

-- how many bytes it takes
abbrev pub call_size : List ℕ → ℕ
call_size s = 5 + headword_size s + text_size s

-- the calls of all kinds with these arguments, kind 0 first; working slices are w zeros, output slices zeros
unfoldable pub kinds : ℕ → List ℕ → ℕ → List ℕ → List Call
kinds w h a t =
    look_up_call h (zeros 3000)
    ∷ walk_call false h (zeros 248) (zeros 3000)
    ∷ walk_call true h (zeros 248) (zeros 3000)
    ∷ insert_call (zeros w) h a t
    ∷ delete_call (zeros w) h
    ∷ optimise_call (zeros w)
    ∷ []

-- the call written at the front of s; another kind is no call
unfoldable pub call_of : ℕ → List ℕ → Option Call
call_of w s = get_elem? (kinds w (bytes_at 5 (headword_size s) s) (get_or s 4 0) (bytes_at (5 + headword_size s) (text_size s) s)) (get_or s 0 0)

-- the same, if s holds it whole; none: the script ends
unfoldable pub front_call : ℕ → List ℕ → Option Call
front_call w s = elim (leb 5 (length s) && leb (call_size s) (length s)) [ true ↦ call_of w s | false ↦ none ]

-- what is known of the front of s: where the script ends it has no call, else one of that size, which it holds whole
abbrev pub FrontOf : List ℕ → std.Option ℕ → Type 0
FrontOf s None = (w : ℕ) → front_call w s ≡ none
FrontOf s (Some n) = (n ≡ call_size s) × (n ≤ length s) × (get_or s 0 0 ≤ 5)

-- the calls of a script, at most n
unfoldable pub calls_from : ℕ → ℕ → List ℕ → List Call
calls_from w zero s = []
calls_from w (suc n) s = elim (front_call w s) [ none ↦ [] | some c ↦ c ∷ calls_from w n (drop (call_size s) s) ]

-- the calls of a script, with working slices of w zeros
unfoldable pub calls_of : ℕ → List ℕ → List Call
calls_of w s = calls_from w (length s) s

-- a call's code: 0 done or found, 100 absent, else the refusal's number
unfoldable pub code_of : Outcome Observed → ℕ
code_of (refused n) = n
code_of (ok absent) = 100
code_of (ok (text_found a t n)) = 0
code_of (ok (entry_found h t a m n)) = 0
code_of (ok done) = 0
code_of (ok removed) = 0

-- the code of an answer that may be absent
unfoldable pub found_code : {A : Type 0} → Result (std.Option A) Refusal → ℕ
found_code (Err r) = number_of r
found_code (Ok None) = 100
found_code (Ok (Some a)) = 0

-- the working slice after a call: a reading call is not lent it; "all zero after each changing call, except that 1 and 2 leave it untouched"
unfoldable pub work_left : Call → Outcome Observed → List ℕ → List ℕ
work_left (look_up_call h out) o work = work
work_left (walk_call above h out_headword out_text) o work = work
work_left (insert_call other h a t) o work = work_after o work
work_left (delete_call other h) o work = work_after o work
work_left (optimise_call other) o work = work_after o work

-- what is left of a call: its code, the image slice, the length that stands then, and the working slice
pub record Told : Type 0 where
  pub code : ℕ
  pub image : List ℕ
  pub length_after : ℕ
  pub work : List ℕ

-- of the call as the claim performs it on the image slice s with the length L; the call's own working slice is zeros, and work is the one lent
unfoldable pub told : List ℕ → ℕ → List ℕ → Call → Told
told s L work c =
    let r = perform s L c in
    record { code = code_of r.observed; image = r.image; length_after = r.length_after; work = work_left c r.observed work }

-- what is left of all calls: the image slice, the length that stands then, the working slice, and the slice of codes
pub record Played : Type 0 where
  pub image : List ℕ
  pub length_after : ℕ
  pub work : List ℕ
  pub codes : List ℕ

-- the calls performed in order, each with the length and the working slice that stand then; the code of the first goes to place n of the slice of codes, if there is one
unfoldable pub played_from : ℕ → List Call → List ℕ → ℕ → List ℕ → List ℕ → Played
played_from n [] s L work codes = record { image = s; length_after = L; work = work; codes = codes }
played_from n (c ∷ cs) s L work codes =
    let r = told s L work c in
    played_from (n + 1) cs r.image r.length_after r.work (set codes n r.code)

-- the calls performed in order on the image slice s with the length L and the working slice work
unfoldable pub played : List Call → List ℕ → ℕ → List ℕ → List ℕ → Played
played cs s L work codes = played_from 0 cs s L work codes

-- the sorted list fed with the same calls, and with whether each was refused
unfoldable pub fed : HeadwordOrder → List Call → List ℕ → ℕ → List Entry → List Entry
fed below [] s L es = es
fed below (c ∷ cs) s L es = fed below cs (perform s L c).image (perform s L c).length_after (list_step below (is_refused (perform s L c).observed) c es)

-- What the sorted-list claim says of calls on the slice s with an accepted image of the length L: each is answered as the sorted list answers it,
-- and the slice and the length that are left are an accepted image whose entries are the sorted list's, fed with the same calls and refusals.
unfoldable pub Claimed : List Call → List ℕ → ℕ → List ℕ → ℕ → Type 0
Claimed cs s L image length_after =
    (i : Image) → image_in s L ≡ ok i
    → History i.frame.format.below s L (entries_of i) cs
    × Matches i.frame.format.below image length_after (fed i.frame.format.below cs s L (entries_of i))

-- names all definitions of this module: who unfolds it unfolds them
unfoldable pub open_script : Unit {0}
unfolding kinds call_of front_call calls_from calls_of code_of found_code work_left told played_from played fed Claimed
open_script = tt
