-- What a plan needs to be read back as it stands: sound runs, apart from one another, in sound order.
use Rattle.std.specs.Prelude.{ℕ, suc, ◌+◌, ◌*◌, ◌≤◌, ◌≡◌, ◌⊎◌, true, List, [], ◌∷◌, map, length, take, drop}
use Rattle.spec.specs.Outcome.{ok}
use Rattle.spec.specs.Lists.{All}
use Rattle.spec.specs.Bytes.{from_little_endian}
use Rattle.spec.specs.Order.{HeadwordOrder}
use Rattle.spec.specs.Header.{Format}
use Rattle.spec.specs.Entry.{Entry, headword_ok, body_ok}
use Rattle.spec.specs.Run.{Run, entries_from}
use Rattle.spec.specs.Index.{index_need}
use Rattle.spec.specs.Check.{Frame, all_entries}
use Rattle.spec.specs.Place.{Plan, element_of}

-- entries that may follow one with the headword prev
abbrev pub EntriesOk : HeadwordOrder → List ℕ → List Entry → Type 0
EntriesOk below prev [] = Unit {0}
EntriesOk below prev (e ∷ es) = (headword_ok e.headword ≡ true) × (body_ok e.body ≡ true) × (below prev e.headword ≡ true) × EntriesOk below e.headword es

-- a run whose bytes hold its entries
pub record Holds (below : HeadwordOrder) (r : Run) : Type 0 where
  pub some_blocks : 1 ≤ r.size
  pub few_blocks : r.size ≤ 32_767
  pub whole : length r.bytes ≡ 256 * r.size
  pub block_count : from_little_endian (take 2 r.bytes) ≡ r.size
  pub first : Entry
  pub others : List Entry
  pub entries : r.entries ≡ first ∷ others
  pub first_headword : first.headword ≡ r.headword
  pub reads : entries_from below (suc (length r.bytes)) [] (drop 2 r.bytes) ≡ ok r.entries

-- the n blocks from b on lie apart from all runs
abbrev pub Apart : ℕ → ℕ → List Run → Type 0
Apart b n rs = All (λ r. (b + n ≤ r.block) ⊎ (r.block + r.size ≤ b)) rs

-- runs that lie inside D blocks, apart from one another, each with the bytes of its blocks
abbrev pub Laid : ℕ → List Run → Type 0
Laid D [] = Unit {0}
Laid D (r ∷ rs) = (length r.bytes ≡ 256 * r.size) × (r.block + r.size ≤ D) × Apart r.block r.size rs × Laid D rs

-- the frame of n index blocks and D data blocks
abbrev pub frame_of : Format → ℕ → ℕ → Frame
frame_of F n D = record { format = F; index_blocks = n; data_blocks = D }

-- the plan of such a frame and of runs
abbrev pub plan_of : Format → ℕ → ℕ → List Run → Plan
plan_of F n D rs = record { frame = frame_of F n D; runs = rs }

-- what a plan needs to be read back: its runs hold their entries, lie apart inside its blocks, and its index has room
pub record PlanSound (F : Format) (n D : ℕ) (rs : List Run) : Type 0 where
  pub holds : All (Holds F.below) rs
  pub entries_ok : EntriesOk F.below [] (all_entries rs)
  pub laid : Laid D rs
  pub need : index_need F.number_width (map element_of rs) ≤ n

-- the same of a plan as a whole
abbrev pub SoundPlan : Format → Plan → Type 0
SoundPlan F p = PlanSound F p.frame.index_blocks p.frame.data_blocks p.runs
