-- `write_counts` meets its contract.
use Rattle.header.proofs.Laws.{counts_stored}
use Rattle.header.proofs.write_counts.Goals as goal

pub returns-clause-s_after : goal.returns-clause-s_after
returns-clause-s_after c = counts_stored _ _ _ _ _ _ _ _ _ _ _ _ _ _
    c.places-at.ensures.placed
    c.next_update-update.ensures
    c.write_u32.ensures.dst_after
    c.write_u32-2.ensures.dst_after
    c.write_u32-3.ensures.dst_after
    c.write_u32-4.ensures.dst_after
    c.write_u32-5.ensures.dst_after
    c.write_u16.ensures.dst_after
