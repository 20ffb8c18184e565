-- The parts of the entries that a changed run is to have: where they go, and what is written for them.
use Rattle.std.specs.Prelude.{ℕ, ◌+◌, ◌≤◌, ◌≡◌, Bool, List, map, length}
use Rattle.spec.specs.Header.{block_position}
use Rattle.spec.specs.Entry.{Entry}
use Rattle.spec.specs.Run.{run_size}
use Rattle.spec.specs.Index.{elements_bytes}
use Rattle.spec.specs.Place.{cut, element_of}
use Rattle.header.specs.declared.Form.{Form}
use Rattle.encoder.specs.Limits.{longest_run}
use Rattle.placing.specs.Spread.{Spread, spread}
use Rattle.plan.specs.Written.{part_runs, parts_written}

-- how many blocks each part takes, by the run limit
abbrev pub sizes_of : ℕ → List Entry → List ℕ
sizes_of limit es = map run_size (cut limit es)

-- the parts placed in order among the blocks g to end − 1, or from `end` on
abbrev pub laid : ℕ → ℕ → ℕ → List Bool → List Entry → Spread
laid limit g end ms es = spread g end ms (sizes_of limit es)

-- how many bytes their index elements take, where they have these places
abbrev pub elements_long : ℕ → ℕ → ℕ → List ℕ → List Entry → ℕ
elements_long width limit g places es = length (elements_bytes width (map element_of (part_runs g places (cut limit es))))

-- So many marks reach a longest run past the parts, and a slice of that length has room for the parts, behind so many index blocks, and for their
-- elements from `at` on.
abbrev pub PartsFit : Form → ℕ → ℕ → ℕ → ℕ → List Bool → List Entry → ℕ → ℕ → Type 0
PartsFit form index at g end ms es blocks long =
    let s : Spread = laid form.limit g end ms es in
    ((s.end + longest_run ≤ blocks) × (block_position form.extended index s.end ≤ long)) × (at + elements_long form.width form.limit g s.places es ≤ long)

-- The parts and their elements are written over the slice s, which leaves s'; the elements end at r, and ms' are the marks then.
abbrev pub PartsPut : Form → ℕ → ℕ → ℕ → ℕ → List Bool → List Entry → List ℕ → List ℕ → ℕ → List Bool → Type 0
PartsPut form index at g end ms es s s' r ms' =
    let p : Spread = laid form.limit g end ms es in
    (s' ≡ parts_written form.width form.extended index g at p.places (cut form.limit es) s)
    × (r ≡ at + elements_long form.width form.limit g p.places es) × (ms' ≡ p.free)
