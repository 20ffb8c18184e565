use Rattle.tally.proofs.RunsLaws.{ends_given, ends_none}
use Rattle.tally.proofs.ends_below.Goals as goal

pub returns-in-Some : goal.returns-in-Some
returns-in-Some c = ends_given _ _ _ _ c.in-Some.is _ c.is_below.ensures

pub returns-in-None : goal.returns-in-None
returns-in-None c = ends_none _ _ _ c.in-None.is
