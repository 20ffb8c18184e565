-- What is left of the index is accepted as the whole is, and ends where the whole ends.
use native.Mathlib.Omega.{arith}
use borrow.Author.Rules.{rules}
use Rattle.index.proofs.Loops.{elements_laws, told_broken, headword_low, element_good, end_behind}
use Rattle.index.proofs.read_elements.Goals as goal

pub loop-init : goal.loop-init
loop-init c = search elements_laws

pub returns-then-index-at : goal.returns-then-index-at
returns-then-index-at c = search elements_laws

pub returns-then-index-zero : goal.returns-then-index-zero
returns-then-index-zero c = search elements_laws

pub returns-then-zero-at-gt-LONGEST_HEADWORD : goal.returns-then-zero-at-gt-LONGEST_HEADWORD
returns-then-zero-at-gt-LONGEST_HEADWORD c = search elements_laws

pub returns-then-not-is_below : goal.returns-then-not-is_below
returns-then-not-is_below c =
    told_broken _ _
    (headword_low _ _ _ _ _ _ _ _ c.loop.invariant.3 (omega arith) (search) (omega arith) _ (search) (search) _ c.is_below.ensures (search))

pub loop-preserved : goal.loop-preserved
loop-preserved c =
    let so = c.loop.invariant in (
      search rules,
      search rules,
      search rules,
      element_good _ _ _ _ _ _ _ _ so.3 (omega arith) (search) (omega arith) _ (search) (search) _ c.is_below.ensures _ (omega arith) (search) (search),
      end_behind _ _ _ _ _ _ _ so.4 (omega arith) c.element_end-zero.ensures.value (omega arith),
    )

pub returns-then-index-at-lt4 : goal.returns-then-index-at-lt4
returns-then-index-at-lt4 c = search elements_laws

pub returns-then-not-all_zero : goal.returns-then-not-all_zero
returns-then-not-all_zero c = search elements_laws

pub returns : goal.returns
returns c = search elements_laws
