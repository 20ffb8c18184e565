-- `write_run` meets its contract.
use Rattle.encoder.proofs.Laws.{run_stored}
use Rattle.encoder.proofs.write_run.Goals as goal

pub returns-clause-dst_after : goal.returns-clause-dst_after
returns-clause-dst_after c = run_stored _ _ _ _ _ _ c.run_blocks-size.ensures.value c.write_u16.ensures.dst_after c.copy.ensures.dst_after
    c.fill_zero.ensures.dst_after
