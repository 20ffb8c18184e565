-- A change by which the index does not grow: what is saved of the old image, and what is written behind the new elements.
use Rattle.std.specs.Prelude.{ℕ, ◌+◌, ◌-◌, ◌*◌, ◌≡◌, List, ◌++◌, take}
use Rattle.spec.specs.Bytes.{bytes_at, zeros}
use Rattle.header.specs.Form.{index_start, data_part}
use Rattle.target.specs.declared.Target.{Target}
use Rattle.target.specs.Told.{entries_start}
use Rattle.change.specs.declared.Outline.{Outline}

-- bytes cut to n of them, or filled with zeros up to n
unfoldable pub fitted : ℕ → List ℕ → List ℕ
fitted n l = take n (l ++ zeros n)

-- in the slice w stand the r bytes of entries of the run concerned in the old slice s, then those of the index behind its element
abbrev pub Saved : List ℕ → Outline → ℕ → List ℕ → Type 0
Saved s v r w =
    let t : Target = v.draft.target in
    let rest : ℕ = 256 * v.draft.old.n - t.end in
    (r ≡ 256 * (t.block + t.size) - entries_start t.block t.size)
    × (take r w ≡ bytes_at (entries_start t.block t.size) r (data_part v.draft.old.form s v.draft.old.n))
    × (bytes_at r rest w ≡ bytes_at (index_start v.draft.old.form + t.end) rest s)

-- names all definitions of this module: who unfolds it unfolds them
unfoldable pub open_kept : Unit {0}
unfolding fitted
open_kept = tt
