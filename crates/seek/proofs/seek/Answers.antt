use Rattle.std.proofs.Common.{arith}
use Rattle.std.proofs.lemmas.Option.{MatchOption-at_some}
use Rattle.index.proofs.Laws.{elements_none_left}
use Rattle.seek.proofs.Returns.{seek_none, some_given, seek_here, seek_next}
use Rattle.seek.proofs.seek.Goals as goal

pub returns-then-elements-eq0-clause-as_read : goal.returns-then-elements-eq0-clause-as_read
returns-then-elements-eq0-clause-as_read c = seek_none _ _ _ _ _ _ _ _ (elements_none_left _ _ _ _ (omega arith))

pub concerned-p-requires-clause-inside : goal.concerned-p-requires-clause-inside
concerned-p-requires-clause-inside c = rw c.requires.from_start at c.args.elements.inside

pub unwrap-first-requires : goal.unwrap-first-requires
unwrap-first-requires c = some_given _ _ _ _ _ _ c.new-from.ensures.given c.concerned-p.ensures.le_left.0 _ c.next.ensures.steps

pub returns-in-Some-clause-as_read : goal.returns-in-Some-clause-as_read
returns-in-Some-clause-as_read c =
    seek_here _ _ _ _ _ _ _ _ _ c.requires.from_start c.if-elements-eq0.false _ c.concerned-p.ensures.value c.concerned-p.ensures.le_left.0
    _ c.new-from.ensures.given _ _ (MatchOption-at_some _ _ _ c.unwrap-first.ensures c.next.ensures.steps) _ _ c.in-Some.ensures.as_read

pub returns-in-None-clause-as_read : goal.returns-in-None-clause-as_read
returns-in-None-clause-as_read c =
    seek_next _ _ _ _ _ _ _ _ _ c.requires.from_start c.if-elements-eq0.false _ c.concerned-p.ensures.value c.concerned-p.ensures.le_left.0
    _ c.new-from.ensures.given _ _ (MatchOption-at_some _ _ _ c.unwrap-first.ensures c.next.ensures.steps) _ _ c.find_next.ensures.as_read _ _ c.find_at.ensures.as_read c.in-None.is
