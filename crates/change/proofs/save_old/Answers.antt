-- `save_old` meets its contract.
use mathlib.Core.Path.{refl}
use native.Mathlib.Omega.{arith}
use Rattle.change.proofs.KeptLaws.{saved}
use Rattle.change.proofs.save_old.Goals as goal

pub returns-clause-saved : goal.returns-clause-saved
returns-clause-saved c =
    saved c.args.image.now c.args.work.now c.copy.new.dst _ c.args.v _ _ _ c.position-start.ensures c.entries_start-from.ensures.value refl
    c.copy.ensures.dst_after c.copy-2.ensures.dst_after (omega (
      arith,
      c.position-start.ensures,
      c.entries_start-from.ensures.upper_bound,
      c.requires.good_form,
      c.requires.v_in_bounds,
      c.requires.size_bound,
    )) c.requires.size_bound.1 (omega (
      arith,
      c.requires.good_form,
      c.requires.v_in_bounds,
      c.requires.size_bound,
    ))
