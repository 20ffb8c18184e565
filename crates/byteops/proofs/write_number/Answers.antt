use Rattle.byteops.proofs.Stores.{four_put, two_put}
use Rattle.byteops.proofs.write_number.Goals as goal

pub returns-then-width-eq4-clause-dst_after : goal.returns-then-width-eq4-clause-dst_after
returns-then-width-eq4-clause-dst_after c = search four_put

pub returns-clause-dst_after : goal.returns-clause-dst_after
returns-clause-dst_after c = search two_put
