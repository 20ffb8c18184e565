-- `read_free_list` meets its contract.
use Rattle.std.proofs.Common.{rules}
use Rattle.freelist.proofs.Reading.{list_start, list_off, list_full, list_next, list_end, list_used, list_free}
use Rattle.freelist.proofs.read_free_list.Goals as goal
use Rattle.freelist.proofs.read_free_list.Goals.{then-area-b-via-then-area-b, then-area-b-via-else-area-b+then-read_u16-ne0}

pub loop-init : goal.loop-init
loop-init c = search (list_start, rules)

pub returns-then-area-b-clause-value : goal.returns-then-area-b-clause-value
returns-then-area-b-clause-value c =
    elim c.then-area-b.branch [
      | then-area-b-via-then-area-b w ↦ search (list_off, rules)
      | then-area-b-via-else-area-b+then-read_u16-ne0 w ↦ search (list_full, rules)
    ]

pub loop-preserved : goal.loop-preserved
loop-preserved c = search (list_next, rules)

pub returns-clause-value : goal.returns-clause-value
returns-clause-value c = search list_end

pub returns-clause-marked : goal.returns-clause-marked
returns-clause-marked c = search list_used

pub returns-clause-marks_free : goal.returns-clause-marks_free
returns-clause-marks_free c = search list_free
