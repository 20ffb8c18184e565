use lib.ListN.{length-set}
use Rattle.byteops.proofs.Stores.{one_stored}
use Rattle.byteops.proofs.write_u8.Goals as goal

pub returns-clause-dst_after : goal.returns-clause-dst_after
returns-clause-dst_after c = search one_stored

pub returns-clause-dst_len_unchanged : goal.returns-clause-dst_len_unchanged
returns-clause-dst_len_unchanged c = search length-set
