use Rattle.runs.proofs.Returns.{field_short, field_end, field_past, field_here}
use Rattle.runs.proofs.field_at.Goals as goal

pub returns-then-left-lt2-clause-field_told : goal.returns-then-left-lt2-clause-field_told
returns-then-left-lt2-clause-field_told c = search field_short

pub returns-then-f-eq0-clause-field_told : goal.returns-then-f-eq0-clause-field_told
returns-then-f-eq0-clause-field_told c = search field_end

pub returns-then-left-f-clause-field_told : goal.returns-then-left-f-clause-field_told
returns-then-left-f-clause-field_told c = search field_past

pub returns-clause-field_told : goal.returns-clause-field_told
returns-clause-field_told c = search field_here
