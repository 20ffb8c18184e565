-- `first_call` meets its contract.
use Rattle.script.proofs.Turns.{size_short, size_kind, size_past, size_whole}
use Rattle.script.proofs.first_call.Goals as goal

pub returns-then-s-lt5 : goal.returns-then-s-lt5
returns-then-s-lt5 c = search size_short

pub returns-then-s-gt5 : goal.returns-then-s-gt5
returns-then-s-gt5 c = search size_kind

pub returns-then-s-size : goal.returns-then-s-size
returns-then-s-size c = search size_past

pub returns : goal.returns
returns c = search size_whole
