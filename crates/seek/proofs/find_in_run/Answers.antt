use Rattle.std.proofs.Common.{sym, ◌∙◌}
use borrow.Author.Rules.{rules}
use Rattle.seek.proofs.Returns.{passing_start, find_end, find_entry, find_turn, inside_from}
use Rattle.seek.proofs.find_in_run.Goals as goal

pub loop-entry-init : goal.loop-entry-init
loop-entry-init c = search (passing_start, rules)

pub returns-then-takes-clause-as_read : goal.returns-then-takes-clause-as_read
returns-then-takes-clause-as_read c =
    find_entry _ _ _ _ _ _ _ _ _ c.loop-entry.invariant _ _ c.read_entry.ensures.result_after _ (sym c.unwrap_or.ensures ∙ c.in-Some.is) _ c.takes.ensures c.if-takes.true

pub returns-then-takes-clause-inside : goal.returns-then-takes-clause-inside
returns-then-takes-clause-inside c =
    inside_from _ _ _ _ _ _ _ _ _ c.loop-entry.invariant _ _ c.read_entry.ensures.result_after _ (sym c.unwrap_or.ensures ∙ c.in-Some.is) _ c.takes.ensures
    c.read_entry.ensures.inside

pub loop-entry-preserved : goal.loop-entry-preserved
loop-entry-preserved c =
    find_turn _ _ _ _ _ _ _ _ _ c.loop-entry.invariant _ _ c.read_entry.ensures.result_after _ (sym c.unwrap_or.ensures ∙ c.in-Some.is) _ c.takes.ensures c.if-takes.false
    c.read_entry.ensures.inside c.read_entry.ensures.word_len_unchanged

pub returns-clause-as_read : goal.returns-clause-as_read
returns-clause-as_read c =
    find_end _ _ _ _ _ _ _ _ _ c.loop-entry.invariant _ _ c.read_entry.ensures.result_after (sym c.unwrap_or.ensures ∙ c.in_default.is)
