-- The lines of the entries still to come, stored in what stands there now, are all lines of the run.
use borrow.Author.Rules.{rules}
use Rattle.listing.proofs.Entries.{printing_start, printing_broken, printing_end, printing_next}
use Rattle.listing.proofs.run_lines.Goals as goal

pub loop-entry-init : goal.loop-entry-init
loop-entry-init c = search (printing_start, rules)

pub loop-entry-preserved : goal.loop-entry-preserved
loop-entry-preserved c =
    printing_next c.loop-entry.invariant _ _ c.read_entry.ensures.result_after _ c.in-Ok-Some.is _ c.in-Ok-Some.field-0-is c.read_entry.ensures.inside
    c.read_entry.ensures.word_len_unchanged c.requires.2 _ c.from-attribute.ensures _ _ c.entry_line-at.ensures.value c.entry_line-at.ensures.out_after
    c.entry_line-at.ensures.out_len_unchanged

pub returns-in_default-clause-run_printed : goal.returns-in_default-clause-run_printed
returns-in_default-clause-run_printed c = search printing_end

pub returns-in_default-2-clause-run_printed : goal.returns-in_default-2-clause-run_printed
returns-in_default-2-clause-run_printed c = search printing_broken
