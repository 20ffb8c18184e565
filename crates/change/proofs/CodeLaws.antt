-- The steps of a change as code takes them.
use Prim.Native.Nat.{ℕ, ◌+◌, ◌-◌, ◌≤◌, max}
use mathlib.Core.Path.{◌≡◌, sym, ap, ap₂, ◌∙◌}
use mathlib.Core.Bool.{Bool}
use mathlib.Core.List.{List, ◌++◌, map}
use native.Mathlib.Omega.{arith}
use lib.ListN.{length, take, drop}
use lib.Seq.{take-take, take-append-le, length-take-le}
use borrow.Author.Tests.{eq-eqb, ne_eqb}
use Rattle.std.specs.Int.{div_ceil}
use Rattle.spec.specs.Bytes.{blocks_for}
use Rattle.spec.specs.Header.{Layout, Counts, changed_header}
use Rattle.header.specs.Form.{layout_named, most_of}
use Rattle.header.proofs.Laws.{layout_kept}
use Rattle.spec.specs.Blocks.{free_list_start, free_list_written}
use Rattle.spec.specs.Index.{Element}
use Rattle.placing.specs.Spread.{spread, Within}
use Rattle.moves.specs.Moved.{noted, starts, size_at, freed, tabled}
use Rattle.change.specs.Ready.{growth, Displaced, new_start, Sealed}
use Rattle.change.specs.declared.Outline.{Outline}

-- ---- growth
-- no element: none
pub growth_none : (n k b : ℕ) → k ≡ 0 → 0 ≡ growth n k b
unfolding growth
growth_none n k b h = sym (rw (eq-eqb k 0 h, growth))

-- else as many as are missing
pub growth_some : (n k b x r : ℕ) → (k ≡ 0 → ⊥) → x ≡ div_ceil (b + 4) 256 → r ≡ x - n → r ≡ growth n k b
unfolding growth blocks_for
growth_some n k b x r h e q = sym (rw (ne_eqb k 0 h, growth) (omega arith))

-- ---- write_rest: the free list, then the header, which still names its layout
pub rest_sealed : (s s₆ s' bs : List ℕ) (v : Outline) (first : ℕ) → new_start v ≤ length s
    → s₆ ≡ take (new_start v) s ++ free_list_written bs (drop (new_start v) s) → first ≡ free_list_start bs
    → s' ≡ changed_header (layout_named s₆)
    (record { index_blocks = v.draft.old.n + v.draft.g; entries = v.words; first_free = first; elements = v.draft.elements; run_blocks = v.draft.blocks }) s₆
    → Sealed s s' v bs
rest_sealed s s₆ s' bs v first room e₆ ef e =
    let counts : ℕ → Counts = λ k. record { index_blocks = v.draft.old.n + v.draft.g; entries = v.words; first_free = k; elements = v.draft.elements; run_blocks = v.draft.blocks } in
    let rest : List ℕ = free_list_written bs (drop (new_start v) s) in
    let same : take 256 s₆ ≡ take 256 s
    = ap (take 256) e₆ ∙ take-append-le 256 (take (new_start v) s) rest (omega (arith, length-take-le (new_start v) s room)) ∙ take-take 256 (new_start v) s (omega arith) in
    e
    ∙ ap (λ (o : Layout). changed_header o (counts first) s₆) (layout_kept s₆ s same)
    ∙ ap₂ (λ (k : ℕ) (y : List ℕ). changed_header (layout_named s) (counts k) y) ef e₆
