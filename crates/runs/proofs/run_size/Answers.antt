use Rattle.runs.proofs.SizeLaws.{size_number, size_none, size_top, size_past, size_good}
use Rattle.runs.proofs.run_size.Goals as goal

pub returns-then-area-b-clause-value : goal.returns-then-area-b-clause-value
returns-then-area-b-clause-value c = search size_number

pub returns-then-count-eq0-clause-value : goal.returns-then-count-eq0-clause-value
returns-then-count-eq0-clause-value c = search size_none

pub returns-then-count-gt-MOST_RUN_BLOCKS-clause-value : goal.returns-then-count-gt-MOST_RUN_BLOCKS-clause-value
returns-then-count-gt-MOST_RUN_BLOCKS-clause-value c = search size_top

pub returns-then-area-b-2-clause-value : goal.returns-then-area-b-2-clause-value
returns-then-area-b-2-clause-value c = search size_past

pub returns-clause-value : goal.returns-clause-value
returns-clause-value c = search size_good
