-- What is counted of runs: their entries, their blocks, and the marks of these.
use Rattle.std.specs.Prelude.{ℕ, ◌+◌, ◌<◌, ◌≤◌, ◌≡◌, Bool, true, List, [], ◌∷◌, length, take, drop, Result, Ok, Err, MatchResult}
use Rattle.std.specs.Prelude as std
use Rattle.std.proofs.Math.Option.{Option, none, some}
use Rattle.spec.specs.Order.{HeadwordOrder}
use Rattle.spec.specs.Outcome.{Outcome, refused, ok}
use Rattle.spec.specs.Answers.{number_of}
use Rattle.spec.specs.declared.Refusal.{Refusal}
use Rattle.spec.specs.Run.{Run}
use Rattle.spec.specs.Blocks.{run_blocks}
use Rattle.spec.specs.Check.{all_entries, first_entry}
use Rattle.marks.specs.Marks.{with_range}
use Rattle.spec.specs.Index.{Element}
use Rattle.index.specs.Walk.{stored}
use Rattle.index.specs.declared.walk.Element as given
use Rattle.tally.specs.declared.RunCounts.{RunCounts}

-- the marks with those of all blocks of runs set
unfoldable pub covered : List Run → List Bool → List Bool
covered [] ms = ms
covered (r ∷ rs) ms = covered rs (with_range r.block r.size true ms)

-- entries, blocks, and marks of blocks
pub record Tally : Type 0 where
  pub words : ℕ
  pub blocks : ℕ
  pub marked : List Bool

-- runs counted, after so many entries and blocks and these marks
unfoldable pub tally : ℕ → ℕ → List Bool → Outcome (List Run) → Outcome Tally
tally w b ms (refused n) = refused n
tally w b ms (ok rs) = ok (record { words = w + length (all_entries rs); blocks = b + run_blocks rs; marked = covered rs ms })

-- the answer about all runs, with the marks then
unfoldable pub runs_answer : Result RunCounts Refusal → List Bool → Outcome Tally
runs_answer (Ok c) ms = ok (record { words = c.words; blocks = c.blocks; marked = ms })
runs_answer (Err r) ms = refused (number_of r)

-- "the last is below the next element's", by the last headword
unfoldable pub last_below : HeadwordOrder → List ℕ → Option (List ℕ) → Bool
last_below below h none = true
last_below below h (some k) = below h k

-- what is known of the first entry of a run, which is to have the headword h
abbrev pub Started : HeadwordOrder → List ℕ → List ℕ → List ℕ → Result ℕ Refusal → Type 0
Started below h run word r =
    MatchResult r
    (λ x. (2 < x) × (x ≤ length run) × (take (length h) word ≡ h) × (body : List ℕ) × (first_entry below h (drop 2 run) ≡ ok (record { headword = h; body = body }, drop x run)))
    (λ e. first_entry below h (drop 2 run) ≡ refused (number_of e))

-- the elements that are left, the first of which was taken, if there was one
unfoldable pub waiting : std.Option given.Element → List Element → List Element
waiting std.None es = []
waiting (std.Some e) es = stored e ∷ es

-- names all definitions of this module: who unfolds it unfolds them
unfoldable pub open_tally : Unit {0}
unfolding covered tally runs_answer last_below waiting
open_tally = tt
