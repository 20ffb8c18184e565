-- Bytes that are zero already are as if zeros were stored.
use Rattle.spec.specs.Bytes.{bytes_at}
use Rattle.scans.proofs.Clears.{cleared_already}
use Rattle.scans.proofs.clear_4096.Goals as goal

pub returns-else-not-all_zero_by-clause-dst_after : goal.returns-else-not-all_zero_by-clause-dst_after
unfolding bytes_at
returns-else-not-all_zero_by-clause-dst_after c = cleared_already _ _ 4096 _ c.requires c.all_zero_by.ensures c.if-not-all_zero_by.false
