-- `play` meets its contract.
use mathlib.Core.Path.{refl}
use native.Mathlib.Omega.{arith}
use Rattle.script.proofs.Turns.{size_told, size_inside, played_start, played_end, played_turn}
use Rattle.script.proofs.Claim.{script_claimed}
use Rattle.script.proofs.play.Goals as goal

pub loop-size-init : goal.loop-size-init
loop-size-init c = (omega arith, omega arith, refl, refl, refl, played_start _ _ _ _ _ _)

pub returns : goal.returns
returns c =
    let start = c.args in
    let turn = c.loop-size in
    let e = played_end _ start.script.now turn.at _ _ _ _ _ _ turn.invariant.5 _ c.first_call.ensures c.in_default.is in
    let image-bytes = c.slice_known-1 in
    let script-bytes = c.shared_slice_known-1 in
    record {
      codes_after = e;
      claimed = script_claimed start.image.now (λ k. omega (arith, image-bytes.given k)) _ start.script.now (λ k. omega (arith, script-bytes.given k))
          _ _ _ _ e;
    }

pub perform-done-requires : goal.perform-done-requires
perform-done-requires c = size_told _ _ c.first_call.ensures _ c.in-Some.is

pub overflow_add-at : goal.overflow_add-at
overflow_add-at c =
    let inside = size_inside c.args.script.now c.loop-size.at _ c.first_call.ensures c.loop-size.invariant.0 _ c.in-Some.is in
    omega arith

pub loop-size-smaller : goal.loop-size-smaller
loop-size-smaller c =
    let inside = size_inside c.args.script.now c.loop-size.at _ c.first_call.ensures c.loop-size.invariant.0 _ c.in-Some.is in
    omega arith

pub loop-size-preserved : goal.loop-size-preserved
loop-size-preserved c =
    let turn = c.loop-size in
    let start = c.args in
    let known = c.first_call.ensures in
    let next =
    played_turn _ start.script.now turn.at _ _ _ _ _ _ turn.invariant.5 _ known _ c.in-Some.is turn.invariant.3 _ _ _ _
    c.perform-done.ensures.work_after _ c.put_code.ensures in
    let inside = size_inside start.script.now turn.at _ known turn.invariant.0 _ c.in-Some.is in
    (omega arith, omega arith, omega arith, omega arith, omega arith, next)
