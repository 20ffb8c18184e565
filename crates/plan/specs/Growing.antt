-- The index grown: where displaced runs go, and what is left then.
use Rattle.std.specs.Prelude.{ℕ, ◌+◌, ◌*◌, ◌<◌, ◌≤◌, ◌≡◌, Bool, List, ◌++◌, map, length, take, drop, get_or}
use Rattle.spec.specs.Lists.{All}
use Rattle.spec.specs.Run.{Run}
use Rattle.spec.specs.Place.{element_of, grown, runs_written}
use Rattle.placing.specs.Spread.{Marked}
use Rattle.elements.specs.Renewed.{renewed}
use Rattle.moves.specs.Moved.{starts, size_at, moved_written}

-- what is known of the index grown by g blocks, over an area of D blocks with the runs before and after the run concerned:
-- T is the table of the moved runs, `end` and `free` are the end of the blocks and the n marks of the free ones, counted as before
pub record Growing (area : List ℕ) (D g : ℕ) (before after : List Run) (n : ℕ) (T : List ℕ) (end : ℕ) (free : List Bool) : Type 0 where
  -- "Then all numbers and D fall by g."
  pub end_is : end ≡ g + (grown g D before after).data_blocks
  -- the mark of a block stands g behind its number
  pub marked : Marked g 0 (grown g D before after).data_blocks free ((grown g D before after).before ++ (grown g D before after).after)
  pub long : length free ≡ n
  -- the elements with their numbers renewed are those of the runs
  pub before_new : map (renewed T g) (map element_of before) ≡ map element_of (grown g D before after).before
  pub after_new : map (renewed T g) (map element_of after) ≡ map element_of (grown g D before after).after
  -- each run that moves starts among the old blocks, and its new place is inside the new ones
  pub moved_inside : All (λ b. (b < D) × (get_or T b 0 + size_at area D b ≤ end)) (starts 0 g T)
  -- these runs copied, all runs stand behind the first g blocks
  pub moved_is : (A : List ℕ) → take (256 * D) A ≡ area → 256 * end ≤ length A
      → moved_written area D T (starts 0 g T) A ≡ take (256 * g) A ++ runs_written ((grown g D before after).before ++ (grown g D before after).after) (drop (256 * g) A)
