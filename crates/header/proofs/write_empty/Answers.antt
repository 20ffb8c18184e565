-- `write_empty` meets its contract.
use Rattle.header.proofs.Laws.{empty_stored}
use Rattle.header.proofs.write_empty.Goals as goal

pub returns-clause-s_after : goal.returns-clause-s_after
returns-clause-s_after c = empty_stored _ _ _ _ _ _ _ _ _ _
    c.from-version.ensures
    c.places_of-at.ensures.placed
    c.fill_zero.ensures.dst_after
    c.write_identifier.ensures.s_after
    c.write_u32.ensures.dst_after
    c.write_u16.ensures.dst_after
    c.write_u8.ensures.dst_after
    c.write_sizes.ensures.s_after
