-- What is known of the run concerned by its index element.
use Rattle.std.specs.Prelude.{ℕ, ◌+◌, ◌-◌, ◌*◌, ◌≤◌, ◌≡◌, ◌⊎◌, true, false, List, [], ◌∷◌, ◌++◌, map, length, take, drop, eqb}
use Rattle.spec.specs.Order.{below_of}
use Rattle.spec.specs.Outcome.{ok}
use Rattle.spec.specs.Run.{Run, entries_from}
use Rattle.spec.specs.Index.{elements_bytes}
use Rattle.spec.specs.Place as Place
use Rattle.spec.specs.Place.{target_run, element_of}
use Rattle.index.specs.Elements.{elements_at, elements_end, Inside}
use Rattle.target.specs.declared.Target.{Target}

-- where the entries of a run start in the data area: behind its count
unfoldable pub entries_start : ℕ → ℕ → ℕ
entries_start b size = elim (eqb size 0) [ true ↦ 256 * b | false ↦ 256 * b + 2 ]

-- the bytes of a run behind its count; none, where there is no run
unfoldable pub entries_part : List ℕ → ℕ → ℕ → List ℕ
entries_part area b size = take (256 * (b + size) - entries_start b size) (drop (entries_start b size) area)

-- the target where there is no run
abbrev pub no_target : Target
no_target = record { at = 0; end = 0; before = 0; after = 0; block = 0; size = 0 }

-- there is no run, and no entry to change
pub record NoRun (area : List ℕ) (rs : List Run) (c : Place.Target) (t : Target) : Type 0 where
  pub none : rs ≡ []
  pub before : c.before ≡ []
  pub after : c.after ≡ []
  pub entries : c.entries ≡ []
  pub size : t.size ≡ 0
  pub block : t.block ≡ 0

-- the run is one of the runs, and its entries can be read behind its count
pub record OneRun (order : ℕ) (area : List ℕ) (rs : List Run) (c : Place.Target) (t : Target) : Type 0 where
  pub run : Run
  pub among : rs ≡ c.before ++ run ∷ c.after
  pub block : run.block ≡ t.block
  pub size : run.size ≡ t.size
  pub some_blocks : 1 ≤ t.size
  pub fuel : ℕ
  pub read : entries_from (below_of order) fuel [] (entries_part area t.block t.size) ≡ ok c.entries

-- the run concerned of the headword h among the runs of so many elements, by the width of block numbers and the order of headwords
pub record TargetTold (width order : ℕ) (index area : List ℕ) (elements : ℕ) (h : List ℕ) (rs : List Run) (t : Target) : Type 0 where
  pub before : elements_at width index 0 t.before ≡ map element_of (target_run (below_of order) h rs).before
  pub after : elements_at width index t.end t.after ≡ map element_of (target_run (below_of order) h rs).after
  pub before_inside : Inside width index 0 t.before
  pub after_inside : Inside width index t.end t.after
  pub at_is : t.at ≡ length (elements_bytes width (elements_at width index 0 t.before))
  pub end_is : elements_end width index 0 elements ≡ t.end + length (elements_bytes width (elements_at width index t.end t.after))
  pub run : NoRun area rs (target_run (below_of order) h rs) t ⊎ OneRun order area rs (target_run (below_of order) h rs) t
  pub bytes : elements_end width index 0 elements
      ≡ length (elements_bytes width (elements_at width index 0 t.before)) + (t.end - t.at) + length (elements_bytes width (elements_at width index t.end t.after))

-- names all definitions of this module: who unfolds it unfolds them
unfoldable pub open_told : Unit {0}
unfolding entries_start entries_part
open_told = tt
