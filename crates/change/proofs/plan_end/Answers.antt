-- `plan_end` meets its contract.
use native.Mathlib.Omega.{arith}
use Rattle.change.proofs.Laws.{run_short}
use Rattle.change.proofs.FinishLaws.{end_planned}
use Rattle.change.proofs.plan_end.Goals as goal

pub plan_parts-requires : goal.plan_parts-requires
plan_parts-requires c =
    let p = c.requires in
    record {
      h_value = (p.h_value.0, p.h_value.1, run_short _ _ _ _ c.entries_start-from.ensures.value p.size_bound.1, omega (arith, p.good_form.0.1));
      g_le_end = (p.g_le_end.0, p.g_le_end.1, omega (arith, p.g_le_end.2), omega (arith, p.g_le_end.2));
    }

pub returns-clause-planned_end : goal.returns-clause-planned_end
returns-clause-planned_end c = end_planned c.args.old.now c.args.v c.args.free.now _ c.args.h.now c.args.body.now
    _ c.entries_start-from.result c.plan_parts.result _ c.position-start.ensures
    c.copy_from_slice.ensures.after c.entries_start-from.ensures.value c.plan_parts.ensures.within
