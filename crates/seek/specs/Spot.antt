-- What a search finds, in the specification's terms.
use Rattle.std.specs.Prelude.{ℕ, ◌+◌, ◌-◌, ◌≤◌, ◌≡◌, List, [], ◌∷◌, length, take, IfSome}
use Rattle.std.specs.Prelude as std
use Rattle.std.proofs.Math.Option.{Option, none, some}
use Rattle.spec.specs.Bytes.{bytes_at}
use Rattle.spec.specs.Entry.{Entry}
use Rattle.spec.specs.Run.{Run}
use Rattle.runs.specs.declared.EntryPlace.{EntryPlace}

-- the entry of a spot in an area, with the word buffer's bytes
unfoldable pub spot_entry : List ℕ → List ℕ → std.Option EntryPlace → Option Entry
spot_entry area word std.None = none
spot_entry area word (std.Some e) = some (record { headword = take e.length word; body = bytes_at (e.zero + 1) (e.next - (e.zero + 1)) area })

-- the entries of the first of runs, if there is one
unfoldable pub first_entries : List Run → List Entry
first_entries [] = []
first_entries (r ∷ rs) = r.entries

-- a spot lies inside the data area
abbrev pub SpotInside : List ℕ → std.Option EntryPlace → Type 0
SpotInside area p = IfSome p (λ e. (e.zero + 2 ≤ e.next) × (e.next ≤ length area) × (e.next ≤ e.zero + 3002) × (1 ≤ e.length) × (e.length ≤ 248))

-- names all definitions of this module: who unfolds it unfolds them
unfoldable pub open_spot : Unit {0}
unfolding spot_entry first_entries
open_spot = tt
