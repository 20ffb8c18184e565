-- A change on its way: what is known when its growth is planned, and what it leaves.
use Rattle.std.specs.Prelude.{ℕ, ◌+◌, ◌-◌, ◌≤◌, max, ◌≡◌, Bool, true, false, Result, Ok, Err, List, ◌++◌, map, length, take, drop, eqb}
use Rattle.spec.specs.Outcome.{ok}
use Rattle.spec.specs.Bytes.{blocks_for}
use Rattle.spec.specs.Order.{HeadwordOrder, below_of}
use Rattle.spec.specs.Header.{block_position, get, changed_header}
use Rattle.spec.specs.Entry.{Entry, headword_ok}
use Rattle.spec.specs.Index.{Element, index_need, index_bytes}
use Rattle.spec.specs.Blocks.{run_blocks, free_list_start, free_list_written}
use Rattle.spec.specs.Check.{Image, image_from, all_entries}
use Rattle.spec.specs.Place.{Plan, target_run, cut, new_run, element_of, plan_change, plan_full, runs_written, plan_written}
use Rattle.spec.specs.Calls.{plan_length}
use Rattle.spec.specs.Sound.{SoundPlan}
use Rattle.spec.specs.declared.Refusal.{Refusal}
use Rattle.header.specs.Form.{layout_named, most_of, index_start, area_start, index_part, data_part}
use Rattle.inspect.specs.declared.Overview.{Overview}
use Rattle.inspect.specs.Overview.{AcceptedImage}
use Rattle.moves.specs.Moved.{noted, starts, freed, moved_to, tabled}
use Rattle.placing.specs.Spread.{Spread, Within}
use Rattle.target.specs.declared.Target.{Target}
use Rattle.target.specs.Told.{entries_part, TargetTold}
use Rattle.encoder.specs.Limits.{longest_body}
use Rattle.parts.specs.Merge.{merge, changed_entries}
use Rattle.plan.specs.Growing.{Growing}
use Rattle.newruns.specs.Laid.{laid}
use Rattle.change.specs.declared.Outline.{Outline}

-- by how many blocks an index of n blocks must grow for so many elements of so many bytes
unfoldable pub growth : ℕ → ℕ → ℕ → ℕ
growth n elements bytes = elim (eqb elements 0) [ true ↦ 0 | false ↦ blocks_for (bytes + 4) - n ]

-- the change of entries by the order of headwords: the one with the headword h goes, and a new one with that body enters, if it is fresh
abbrev pub edited : HeadwordOrder → List ℕ → List ℕ → Bool → List Entry → List Entry
edited below h body fresh = merge below (record { headword = h; body = body }) fresh

-- its plan in an image, which has the image's own format
abbrev pub planned : Image → List ℕ → List ℕ → Bool → Plan
planned i h body fresh = plan_change i.frame.format i h (edited i.frame.format.below h body fresh)

-- the entries that the changed run is to have, in the old image o
abbrev pub new_entries : Overview → List ℕ → Target → List ℕ → List ℕ → Bool → List Entry
new_entries w o t h body fresh = changed_entries w.form.order (entries_part (data_part w.form o w.n) t.block t.size) h body fresh

-- its parts
abbrev pub parts_of : Overview → List ℕ → Target → List ℕ → List ℕ → Bool → List (List Entry)
parts_of w o t h body fresh = cut w.form.limit (new_entries w o t h body fresh)

-- where they go, placed on the marks ms
abbrev pub laid_parts : List ℕ → Outline → List Bool → List ℕ → List ℕ → Spread
laid_parts o v ms h body = laid v.draft.old.form.limit v.draft.g v.end ms (new_entries v.draft.old o v.draft.target h body v.draft.fresh)

-- the bytes of the old image
abbrev pub old_length : Overview → ℕ
old_length w = block_position w.form.extended w.n w.d

-- the most blocks of a new image, counted with the g that become the index's
abbrev pub most_with : Overview → ℕ → ℕ
most_with w g = most_of w.form.width + g

-- The displaced runs of the elements before and after the run concerned, placed on the marks ms with the table T: the end of the blocks, the table and the marks then.
abbrev pub Displaced : ℕ → List ℕ → ℕ → List Element → List Element → ℕ → List ℕ → List Bool → ℕ → List ℕ → List Bool → Type 0
Displaced width area d before after g T ms end T' ms' =
    (T₀ : List ℕ) (ms₁ : List Bool)
    → T₀ ≡ noted g (map (λ e. e.block) after) (noted g (map (λ e. e.block) before) T)
    → ms₁ ≡ freed area d (starts 0 g T₀) ms
    → Within (most_of width + g) (moved_to area d g (max d g) ms₁ (starts 0 g T₀)) end ms'
    × (end ≤ most_of width + g → T' ≡ tabled (starts 0 g T₀) (moved_to area d g (max d g) ms₁ (starts 0 g T₀)).places T₀)

-- The growth of the index is planned: o is the old image, T the table of moved runs, one number for each block that the index takes, ms the marks of the free blocks.
pub record Ready (o : List ℕ) (v : Outline) (T : List ℕ) (ms : List Bool) (h body : List ℕ) : Type 0 where
  pub accepted : AcceptedImage o v.draft.old
  pub whole : old_length v.draft.old ≡ length o
  pub few_index : v.draft.old.n + v.draft.g ≤ 32_767
  pub headword : headword_ok h ≡ true
  pub body_short : length body ≤ longest_body
  pub told : TargetTold v.draft.old.form.width v.draft.old.form.order (index_part v.draft.old.form o v.draft.old.n) (data_part v.draft.old.form o v.draft.old.n)
      (get (layout_named o).nindex2 o) h accepted.image.runs v.draft.target
  pub inside : v.draft.target.block + v.draft.target.size ≤ v.draft.old.d
  pub grows : let c = target_run (below_of v.draft.old.form.order) h accepted.image.runs in
      v.draft.g ≡ index_need v.draft.old.form.width (map element_of (c.before ++ map new_run (parts_of v.draft.old o v.draft.target h body v.draft.fresh) ++ c.after)) - v.draft.old.n
  pub table : length T ≡ v.draft.g
  pub end_few : v.end ≤ most_with v.draft.old v.draft.g
  pub under : let c = target_run (below_of v.draft.old.form.order) h accepted.image.runs in
      Growing (data_part v.draft.old.form o v.draft.old.n) v.draft.old.d v.draft.g c.before c.after (length ms) T v.end ms
  pub sound : SoundPlan accepted.image.frame.format (planned accepted.image h body v.draft.fresh)
  pub words_are : v.words ≡ length (all_entries (planned accepted.image h body v.draft.fresh).runs)
  pub elements_are : v.draft.elements ≡ length (planned accepted.image h body v.draft.fresh).runs
  pub blocks_are : v.draft.blocks ≡ run_blocks (planned accepted.image h body v.draft.fresh).runs

-- The new runs are planned too, and the new image has room in the slice s.
pub record Roomy (s o : List ℕ) (v : Outline) (ms : List Bool) (h body : List ℕ) : Type 0 where
  pub copy : take (length o) s ≡ o
  pub shorter : length o ≤ length s
  pub end_few : (laid_parts o v ms h body).end ≤ most_with v.draft.old v.draft.g
  pub room : block_position v.draft.old.form.extended v.draft.old.n (laid_parts o v ms h body).end ≤ length s
  pub long : length ms ≡ 163_840

-- the position of the first data block in the new image
abbrev pub new_start : Outline → ℕ
new_start v = area_start v.draft.old.form (v.draft.old.n + v.draft.g)

-- index and blocks of the plan are written over the slice s
abbrev pub Areas : List ℕ → List ℕ → List ℕ → Outline → List ℕ → List ℕ → Type 0
Areas s s' o v h body =
    (i : Image) → image_from o ≡ ok i
    → s' ≡ take (index_start v.draft.old.form) s
    ++ index_bytes v.draft.old.form.width (v.draft.old.n + v.draft.g) (map element_of (planned i h body v.draft.fresh).runs)
    ++ runs_written (planned i h body v.draft.fresh).runs (drop (new_start v) s)

-- the free list bs and the header are written over the slice s
abbrev pub Sealed : List ℕ → List ℕ → Outline → List ℕ → Type 0
Sealed s s' v bs =
    s' ≡ changed_header (layout_named s)
    (record { index_blocks = v.draft.old.n + v.draft.g; entries = v.words; first_free = free_list_start bs; elements = v.draft.elements; run_blocks = v.draft.blocks })
    (take (new_start v) s ++ free_list_written bs (drop (new_start v) s))

-- the slice s' is the plan written over the slice s, which holds the image o
abbrev pub Written : List ℕ → List ℕ → List ℕ → List ℕ → List ℕ → Bool → Type 0
Written s s' o h body fresh = (i : Image) → image_from o ≡ ok i → s' ≡ plan_written (planned i h body fresh) s

-- what a change of the image in the first L bytes of s comes to, which leaves s': no room, or the new length
abbrev pub Changed : List ℕ → ℕ → List ℕ → List ℕ → Bool → Result ℕ Refusal → List ℕ → Type 0
Changed s L h body fresh (Err k) s' = (k ≡ Refusal.Full) × ((i : Image) → image_from (take L s) ≡ ok i → (plan_full s (planned i h body fresh) ≡ true) × (s' ≡ s))
Changed s L h body fresh (Ok r) s' =
    (i : Image) → image_from (take L s) ≡ ok i
    → (plan_full s (planned i h body fresh) ≡ false) × (r ≡ plan_length (planned i h body fresh)) × (s' ≡ plan_written (planned i h body fresh) s)

-- names all definitions of this module: who unfolds it unfolds them
unfoldable pub open_ready : Unit {0}
unfolding growth
open_ready = tt
