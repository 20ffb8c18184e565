-- Laws of a search, for the crates above: where the entry found stands.
use Prim.Native.Nat.{ℕ, ◌+◌, ◌≤◌}
use mathlib.Core.Path.{◌≡◌, sym}
use mathlib.Core.List.{List}
use native.Mathlib.Omega.{arith}
use lib.ListN.{length, take}
use lib.Seq.{length-take-le}
use Rattle.std.specs.Prelude.{Option, Some}
use Rattle.std.proofs.lemmas.Option.{MatchOption-at_some}
use Rattle.runs.specs.declared.EntryPlace.{EntryPlace}
use Rattle.seek.specs.Spot.{SpotInside}

module _ (area : List ℕ) (p : Option EntryPlace) (h : SpotInside area p) (e : EntryPlace) (q : p ≡ Some e) where
  -- a spot where an entry was found
  spot_inside : SpotInside area (Some e)
  spot_inside = MatchOption-at_some _ (λ e. SpotInside area (Some e)) e q h

  -- behind the zero byte stands the attribute
  pub spot_body : e.zero + 2 ≤ e.next
  spot_body = spot_inside.0

  -- the entry ends inside the data area
  pub spot_area : e.next ≤ length area
  spot_area = spot_inside.1

  -- its headword has at most 248 bytes
  pub spot_short : e.length ≤ 248
  spot_short = spot_inside.4

  -- has room in the buffer
  pub spot_room : (word : List ℕ) → length word ≡ 256 → e.length ≤ length word
  spot_room word l = omega (arith, spot_short)

  -- and is its first bytes
  pub spot_front : (word : List ℕ) → length word ≡ 256 → e.length ≡ length (take e.length word)
  spot_front word l = sym (length-take-le e.length word (spot_room word l))
