-- `parts_ok` meets its contract.
use Rattle.std.proofs.Common.{◌∙◌}
use Rattle.partlist.proofs.Laws.{found_list}
use Rattle.partlist.proofs.parts_ok.Goals as goal

pub returns : goal.returns
returns c = c.is_some.ensures ∙ found_list _ _ c.find_parts.ensures.result_value
