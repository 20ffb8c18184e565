-- A change on its way, before its growth is planned.
use Rattle.std.specs.Prelude.{ℕ, ◌+◌, ◌-◌, ◌≤◌, ◌<◌, ◌≡◌, ◌⊎◌, Bool, true, false, Result, Ok, Err, List, ◌++◌, map, length, replicate}
use Rattle.spec.specs.Outcome.{ok}
use Rattle.spec.specs.Header.{block_position, get}
use Rattle.spec.specs.Entry.{headword_ok}
use Rattle.spec.specs.Blocks.{free_marks}
use Rattle.spec.specs.Check.{Image, image_from, all_entries, entries_of}
use Rattle.spec.specs.SortedList.{lookup}
use Rattle.spec.specs.Place.{new_run}
use Rattle.spec.specs.Claim.{is_there}
use Rattle.spec.specs.Sound.{SoundPlan}
use Rattle.spec.specs.declared.Refusal.{Refusal}
use Rattle.marks.specs.Marks.{with_range}
use Rattle.header.specs.Form.{layout_named, index_part, data_part}
use Rattle.inspect.specs.Overview.{AcceptedImage}
use Rattle.target.specs.Told.{TargetTold}
use Rattle.encoder.specs.Limits.{longest_body}
use Rattle.parts.specs.Part.{Measured}
use Rattle.change.specs.declared.Outline.{Outline}
use Rattle.change.specs.declared.Draft.{Draft}
use Rattle.change.specs.Ready.{growth, planned, parts_of, laid_parts, old_length, most_with}

-- where the blocks end when the new runs are placed on the marks ms, or a number past the most where they end past it
abbrev pub PlannedEnd : List ℕ → Outline → List Bool → List ℕ → List ℕ → ℕ → Type 0
PlannedEnd o v ms h body r =
    (r ≤ most_with v.draft.old v.draft.g → r ≡ (laid_parts o v ms h body).end)
    × (most_with v.draft.old v.draft.g < r → most_with v.draft.old v.draft.g < (laid_parts o v ms h body).end)

-- the new runs are placed, and they and the new image, which ends at the block `last`, have room in the slice s
pub record Fitted (s o : List ℕ) (v : Outline) (ms : List Bool) (h body : List ℕ) (last : ℕ) : Type 0 where
  pub end_is : last ≡ (laid_parts o v ms h body).end
  pub few : last ≤ most_with v.draft.old v.draft.g
  pub room : block_position v.draft.old.form.extended v.draft.old.n last ≤ length s

-- what the placing comes to: row 15, where the blocks are too many or the slice is too short, or where the blocks end
abbrev pub Fitting : List ℕ → List ℕ → Outline → List Bool → List ℕ → List ℕ → Result ℕ Refusal → Type 0
Fitting s o v ms h body (Err k) =
    let end : ℕ = (laid_parts o v ms h body).end in
    (k ≡ Refusal.Full) × ((most_with v.draft.old v.draft.g < end) ⊎ ((end ≤ most_with v.draft.old v.draft.g) × (length s < block_position v.draft.old.form.extended v.draft.old.n end)))
Fitting s o v ms h body (Ok last) = Fitted s o v ms h body last

-- the change in the old image o is measured
pub record Drafted (o : List ℕ) (h body : List ℕ) (r : Draft) : Type 0 where
  pub accepted : AcceptedImage o r.old
  pub told : (i : Image) → image_from o ≡ ok i
      → TargetTold r.old.form.width r.old.form.order (index_part r.old.form o r.old.n) (data_part r.old.form o r.old.n)
      (get (layout_named o).nindex2 o) h i.runs r.target
  pub inside : r.target.block + r.target.size ≤ r.old.d
  pub found_is : (i : Image) → image_from o ≡ ok i → r.found ≡ is_there (lookup h (entries_of i))
  pub parts : ℕ
  pub bytes : ℕ
  pub run_blocks : ℕ
  pub measured : Measured r.old.form.width (map new_run (parts_of r.old o r.target h body r.fresh)) parts bytes run_blocks
  pub growth_is : r.g ≡ growth r.old.n (r.target.before + r.target.after + parts) (r.old.end - (r.target.end - r.target.at) + bytes)
  pub growth_few : r.g ≤ 4_294_967_296
  pub elements_are : r.elements ≡ r.target.before + r.target.after + parts
  pub blocks_are : r.blocks ≡ get (layout_named o).nblock2 o - r.target.size + run_blocks

-- the plan of the change in the image o is sound and has so many entries
abbrev pub PlanCounted : List ℕ → List ℕ → List ℕ → Bool → ℕ → Type 0
PlanCounted o h body fresh words =
    (i : Image) → image_from o ≡ ok i → SoundPlan i.frame.format (planned i h body fresh) × (words ≡ length (all_entries (planned i h body fresh).runs))

-- it can begin: the blocks of the run concerned are marked free
pub record Begun (o : List ℕ) (r : Draft) (ms : List Bool) (h body : List ℕ) (words : ℕ) : Type 0 where
  pub whole : old_length r.old ≡ length o
  pub drafted : Drafted o h body r
  pub few_index : r.old.n + r.g ≤ 32_767
  pub headword : headword_ok h ≡ true
  pub body_short : length body ≤ longest_body
  pub marked : ms ≡ with_range r.target.block r.target.size true (free_marks r.old.d drafted.accepted.image.free_list ++ replicate (length ms - r.old.d) false)
  pub sound : SoundPlan drafted.accepted.image.frame.format (planned drafted.accepted.image h body r.fresh)
  pub words_are : words ≡ length (all_entries (planned drafted.accepted.image h body r.fresh).runs)
