-- `perform` meets its contract.
use mathlib.Core.Path.{◌≡◌}
use native.Mathlib.Omega.{arith}
use lib.ListN.{get_or}
use Rattle.script.proofs.ByKind.{performed_0, performed_1, performed_2, performed_3, performed_4, performed_5}
use Rattle.script.proofs.perform.Goals as goal

pub returns-in-0 : goal.returns-in-0
returns-in-0 c =
    let start = c.args in
    let bytes = c.slice_known-1 in
    let e = c.from-word.ensures in
    let whole = performed_0 _ start.s.now start.image.now start.len (λ k. omega (arith, bytes.given k)) _ e c.in-0.is _ c.look_up.ensures in
    record { work_after = whole.0; code_bound = whole.1 }

pub returns-in-1 : goal.returns-in-1
returns-in-1 c =
    let start = c.args in
    let bytes = c.slice_known-1 in
    let e = c.from-word.ensures in
    let whole = performed_1 _ start.s.now start.image.now start.len (λ k. omega (arith, bytes.given k)) _ e c.in-1.is _ c.walk.ensures in
    record { work_after = whole.0; code_bound = whole.1 }

pub returns-in-2 : goal.returns-in-2
returns-in-2 c =
    let start = c.args in
    let bytes = c.slice_known-1 in
    let e = c.from-word.ensures in
    let whole =
    performed_2 _ start.s.now start.image.now start.len (λ k. omega (arith, bytes.given k)) _ e c.in-2.is _ c.walk-in-2.ensures
    in
    record { work_after = whole.0; code_bound = whole.1 }

pub returns-in-3 : goal.returns-in-3
returns-in-3 c =
    let start = c.args in
    let bytes = c.slice_known-1 in
    let e = c.from-word.ensures in
    let whole =
    performed_3 _ start.s.now start.image.now start.len (λ k. omega (arith, bytes.given k)) _ e c.in-3.is _ c.read_u16.ensures.value _
    c.insert.ensures in
    record { work_after = whole.0; code_bound = whole.1 }

pub returns-in-4 : goal.returns-in-4
returns-in-4 c =
    let start = c.args in
    let bytes = c.slice_known-1 in
    let e = c.from-word.ensures in
    let whole = performed_4 _ start.s.now start.image.now start.len (λ k. omega (arith, bytes.given k)) _ e c.in-4.is _ c.delete.ensures in
    record { work_after = whole.0; code_bound = whole.1 }

pub returns-in_default : goal.returns-in_default
returns-in_default c =
    let kind : get_or c.args.s.now 0 0 ≡ 5 = omega arith in
    let start = c.args in
    let bytes = c.slice_known-1 in
    let whole = performed_5 _ start.s.now start.image.now start.len (λ k. omega (arith, bytes.given k)) kind _ c.optimise.ensures in
    record { work_after = whole.0; code_bound = whole.1 }
