-- Placing after a change. Document 01, "Placing after a change", steps 1 to 7, and "Optimise".
use Rattle.std.specs.Prelude.{ℕ, ◌+◌, ◌-◌, ◌*◌, max, Bool, true, false, not, ◌||◌, List, [], ◌∷◌, ◌++◌, map, length, take, leb, ltb, eqb}
use Rattle.std.proofs.Math.Option.{Option, none, some}
use Rattle.spec.specs.Order.{HeadwordOrder}
use Rattle.spec.specs.Lists.{any, filter, range_from, Split, split_first, split_last}
use Rattle.spec.specs.Bytes.{write}
use Rattle.spec.specs.Header.{Format, Counts, changed_header, header_bytes}
use Rattle.spec.specs.Entry.{Entry, entry_bytes}
use Rattle.spec.specs.Run.{Run, run_bytes, run_size}
use Rattle.spec.specs.Index.{Element, index_bytes, index_need}
use Rattle.spec.specs.Blocks.{covers, place_for, free_blocks, run_blocks, free_list_start, free_list_written}
use Rattle.spec.specs.Check.{Frame, Image, all_entries, data_area, frame_length}

-- where everything of the next image stands: its frame, and its runs in index order, each at its place with its bytes
pub record Plan : Type 0 where
  pub frame : Frame
  pub runs : List Run

-- Step 1.

-- the run concerned (document 01's term for the run that a change goes to), or no run: what stands before it, its entries, and what stands after it
pub record Target : Type 0 where
  pub before : List Run
  pub entries : List Entry
  pub after : List Run

-- "the last whose index headword is not above the headword, else the first"
unfoldable pub target_split : Option (Split Run) → List Run → Option (Split Run)
target_split none rs = split_first rs
target_split (some p) rs = some p

-- "with no run, the new entry alone": no entries to change
unfoldable pub target_of : Option (Split Run) → Target
target_of none = record { before = []; entries = []; after = [] }
target_of (some p) = record { before = p.before; entries = p.element.entries; after = p.after }

-- "The run concerned is the last whose index headword is not above the headword, else the first."
unfoldable pub target_run : HeadwordOrder → List ℕ → List Run → Target
target_run below h rs = target_of (target_split (split_last (λ r. not (below h r.headword)) rs) rs)

-- Step 2.

-- one entry more in the first part
unfoldable pub into_first : Entry → List (List Entry) → List (List Entry)
into_first e [] = (e ∷ []) ∷ []
into_first e (p ∷ ps) = (e ∷ p) ∷ ps

-- the rest of a part that takes n bytes so far and ends in the headword prev, then the other parts
unfoldable pub cut_after : ℕ → ℕ → List ℕ → List Entry → List (List Entry)
cut_after limit n prev [] = [] ∷ []
cut_after limit n prev (e ∷ es) = elim (leb (n + length (entry_bytes prev e)) limit) [
  | true ↦ into_first e (cut_after limit (n + length (entry_bytes prev e)) e.headword es)
  | false ↦ [] ∷ into_first e (cut_after limit (4 + length (entry_bytes [] e)) e.headword es)
]

-- "The list is cut from the left: each part takes as many entries as encode in 1,024 bytes, count and end marks included. An entry too large for that stands alone. An empty list gives no part."
unfoldable pub cut : ℕ → List Entry → List (List Entry)
cut limit [] = []
cut limit (e ∷ es) = into_first e (cut_after limit (4 + length (entry_bytes [] e)) e.headword es)

-- the headword of a list's first entry: the index headword of a part
unfoldable pub first_headword : List Entry → List ℕ
first_headword [] = []
first_headword (e ∷ es) = e.headword

-- a part as a run that has no place yet
unfoldable pub new_run : List Entry → Run
new_run es = record { headword = first_headword es; block = 0; size = run_size es; bytes = run_bytes es; entries = es }

-- Step 3, "The run's old blocks become free.": a block is free when no run that has its place covers it, and the run concerned is no more among them.

-- a run at another place, with its bytes
unfoldable pub at_block : ℕ → Run → Run
at_block b r = record { headword = r.headword; block = b; size = r.size; bytes = r.bytes; entries = r.entries }

-- runs that have their places, and D
pub record Placed : Type 0 where
  pub runs : List Run
  pub data_blocks : ℕ

-- one placed run more
unfoldable pub with_run : Run → Placed → Placed
with_run r p = record { runs = r ∷ p.runs; data_blocks = p.data_blocks }

-- "placed … in order": runs placed one after the other among the blocks from g up, beside the runs that have their places, and D then
unfoldable pub place : ℕ → ℕ → List Run → List Run → Placed
place g D there [] = record { runs = []; data_blocks = D }
place g D there (r ∷ rs) =
    let b = place_for g D there r.size in
    with_run (at_block b r) (place g (max D (b + r.size)) (at_block b r ∷ there) rs)

-- Step 4.

-- a run's index element
unfoldable pub element_of : Run → Element
element_of r = record { block = r.block; headword = r.headword }

-- a run among others that ascend by block number
unfoldable pub by_number : Run → List Run → List Run
by_number r [] = r ∷ []
by_number r (q ∷ rs) = elim (leb r.block q.block) [ true ↦ r ∷ q ∷ rs | false ↦ q ∷ by_number r rs ]

-- "in order of old number"
unfoldable pub in_number_order : List Run → List Run
in_number_order [] = []
in_number_order (r ∷ rs) = by_number r (in_number_order rs)

-- "Runs touching blocks 0 to g − 1"
unfoldable pub touches : ℕ → Run → Bool
touches g r = any (λ b. covers b r) (range_from 0 g)

-- a moved run's old and new number
pub record Move : Type 0 where
  pub old : ℕ
  pub new : ℕ

-- the moves from runs to the same runs placed
unfoldable pub moves : List Run → List Run → List Move
moves [] qs = []
moves (r ∷ rs) [] = []
moves (r ∷ rs) (q ∷ qs) = record { old = r.block; new = q.block } ∷ moves rs qs

-- the number that a run has after the moves
unfoldable pub new_number : List Move → ℕ → ℕ
new_number [] b = b
new_number (m ∷ ms) b = elim (eqb m.old b) [ true ↦ m.new | false ↦ new_number ms b ]

-- "Then all numbers … fall by g."
unfoldable pub renumbered : ℕ → List Move → Run → Run
renumbered g ms r = at_block (new_number ms r.block - g) r

-- the runs before and after the run concerned at their places under a longer index, and D
pub record Grown : Type 0 where
  pub before : List Run
  pub after : List Run
  pub data_blocks : ℕ

-- "If it must grow by g and D is below g, D becomes g. Runs touching blocks 0 to g − 1 are all freed, then placed with their bytes in order
-- of old number among blocks from g up. Then all numbers and D fall by g."
unfoldable pub grown : ℕ → ℕ → List Run → List Run → Grown
grown g D before after =
    let moving : List Run = in_number_order (filter (touches g) (before ++ after)) in
    let staying : List Run = filter (λ r. not (touches g r)) (before ++ after) in
    let p : Placed = place g (max D g) staying moving in
    let ms : List Move = moves moving p.runs in
    record {
      before = map (renumbered g ms) before;
      after = map (renumbered g ms) after;
      data_blocks = p.data_blocks - g;
    }

-- Steps 1 to 6 for a headword and a change of the entries of the run concerned; F is the next image's format.
unfoldable pub plan_change : Format → Image → List ℕ → (List Entry → List Entry) → Plan
plan_change F i h change =
    let c : Target = target_run F.below h i.runs in
    let parts : List Run = map new_run (cut F.run_limit (change c.entries)) in
    let need : ℕ = index_need F.number_width (map element_of (c.before ++ parts ++ c.after)) in
    -- "It never shrinks here."
    let g : ℕ = need - i.frame.index_blocks in
    let m : Grown = grown g i.frame.data_blocks c.before c.after in
    -- step 5: "Parts are placed in order."
    let p : Placed = place 0 m.data_blocks (m.before ++ m.after) parts in
    record {
      frame = record { format = F; index_blocks = i.frame.index_blocks + g; data_blocks = p.data_blocks };
      runs = m.before ++ p.runs ++ m.after;
    }

-- runs one after the other from block b on
unfoldable pub packed : ℕ → List Run → List Run
packed b [] = []
packed b (r ∷ rs) = at_block b r ∷ packed (b + r.size) rs

-- "Optimise: index at its needed size, runs in headword order from block 0 with their bytes kept, no free block."
unfoldable pub plan_packed : Format → List Run → Plan
plan_packed F rs =
    record {
      frame = record { format = F; index_blocks = index_need F.number_width (map element_of rs); data_blocks = run_blocks rs };
      runs = packed 0 rs;
    }

-- row 15: "when finished: L over the slice, D over 65,536, or index over 32,767 blocks"
unfoldable pub plan_full : List ℕ → Plan → Bool
plan_full s p = ltb (length s) (frame_length p.frame) || ltb p.frame.format.most_blocks p.frame.data_blocks || ltb 32_767 p.frame.index_blocks

-- "A run is written in the image from its first block onward": runs written over the bytes of the data blocks
unfoldable pub runs_written : List Run → List ℕ → List ℕ
runs_written [] area = area
runs_written (r ∷ rs) area = write (256 * r.block) r.bytes (runs_written rs area)

-- the counts that a plan's header takes
unfoldable pub plan_counts : Plan → Counts
plan_counts p =
    record {
      index_blocks = p.frame.index_blocks;
      entries = length (all_entries p.runs);
      first_free = free_list_start (free_blocks p.runs p.frame.data_blocks);
      elements = length p.runs;
      run_blocks = run_blocks p.runs;
    }

-- The whole slice with a plan written over it. Step 7: "The chain is rewritten ascending. In a free block only its first six bytes change."
-- Blocks keep their places in the slice when numbers fall: the index takes the place of the first data blocks.
unfoldable pub plan_written : Plan → List ℕ → List ℕ
plan_written p s =
    let f : Frame = p.frame in
    let F : Format = f.format in
    changed_header F.layout (plan_counts p) (take (header_bytes F) s)
    ++ index_bytes F.number_width f.index_blocks (map element_of p.runs)
    ++ free_list_written (free_blocks p.runs f.data_blocks) (runs_written p.runs (data_area f s))

-- names all definitions of this module: who unfolds it unfolds them
unfoldable pub open_place : Unit {0}
unfolding target_split target_of target_run into_first cut_after cut first_headword new_run at_block with_run place element_of by_number in_number_order touches
    moves new_number renumbered grown plan_change packed plan_packed plan_full runs_written plan_counts plan_written
open_place = tt
