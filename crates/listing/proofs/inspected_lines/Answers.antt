use Rattle.marks.proofs.Laws.{marks_zero}
use Rattle.listing.proofs.Images.{told_sound}
use Rattle.listing.proofs.inspected_lines.Goals as goal

pub inspect-requires-clause-free_value : goal.inspect-requires-clause-free_value
inspect-requires-clause-free_value c = marks_zero 1024

pub accepted_lines-requires-clause-accepted : goal.accepted_lines-requires-clause-accepted
accepted_lines-requires-clause-accepted c = search told_sound
