-- `grow` meets its contract.
use mathlib.Core.Path.{◌≡◌, refl, sym, ap, ◌∙◌}
use Prim.Native.Nat.{ℕ, ◌≤◌}
use native.Mathlib.Omega.{arith}
use lib.ListN.{length, take, replicate, length-replicate}
use Rattle.std.proofs.lemmas.List.{take-replicate}
use lib.Seq.{length-take-le}
use Rattle.change.specs.Ready.{old_length}
use Rattle.change.proofs.FinishLaws.{marks_long, front_ready, begun_front, good_here, few, cut_long, cut_inside, grow_full, grow_ready}
use Rattle.change.proofs.grow.Goals as goal

-- the table before any run is noted
blank : (g : ℕ) → g ≤ 32768 → take g (replicate {A = ℕ} 32768 0) ≡ replicate g 0
blank g h = take-replicate g 32768 0 h

pub slice_bounds-whole-end-2 : goal.slice_bounds-whole-end-2
slice_bounds-whole-end-2 c =
    let before-long : length (take c.position-len.result c.args.image.now) ≡ c.position-len.result =
    length-take-le _ _ (omega (arith, c.position-len.ensures, c.requires.le_g.1)) in
    sym before-long

pub slice_bounds-index-end : goal.slice_bounds-index-end
slice_bounds-index-end c =
    let before-long : length (take c.position-len.result c.args.image.now) ≡ c.position-len.result =
    length-take-le _ _ (omega (arith, c.position-len.ensures, c.requires.le_g.1)) in
    omega (arith, c.position-len.ensures, c.position-start.ensures, before-long)

pub slice_bounds-area-count : goal.slice_bounds-area-count
slice_bounds-area-count c =
    let before-long : length (take c.position-len.result c.args.image.now) ≡ c.position-len.result =
    length-take-le _ _ (omega (arith, c.position-len.ensures, c.requires.le_g.1)) in
    omega (arith, c.position-len.ensures, c.position-start.ensures, before-long)

pub slice_bounds-area-start : goal.slice_bounds-area-start
slice_bounds-area-start c =
    let before-long : length (take c.position-len.result c.args.image.now) ≡ c.position-len.result =
    length-take-le _ _ (omega (arith, c.position-len.ensures, c.requires.le_g.1)) in
    omega (arith, c.position-len.ensures, c.position-start.ensures, before-long)

pub invariant_of-area : goal.invariant_of-area
invariant_of-area c =
    let b = begun_front _ _ _ _ _ _ _ c.position-len.ensures c.requires.begun in
    let k = marks_long c.args.free.now c.requires.le_g.3 in
    record { whole = omega (arith, cut_long _ _ _ _ _ _ b k _ c.position-start.ensures); few = omega (arith, few _ _ _ _ _ _ b k) }

pub invariant_of-before : goal.invariant_of-before
invariant_of-before c =
    let b = begun_front _ _ _ _ _ _ _ c.position-len.ensures c.requires.begun in
    let k = marks_long c.args.free.now c.requires.le_g.3 in
    record { width_taken = (good_here _ _ _ _ _ _ b k).0; inside = (cut_inside _ _ _ _ _ _ b k _ c.position-start.ensures).0 }

pub invariant_of-after : goal.invariant_of-after
invariant_of-after c =
    let b = begun_front _ _ _ _ _ _ _ c.position-len.ensures c.requires.begun in
    let k = marks_long c.args.free.now c.requires.le_g.3 in
    record { width_taken = (good_here _ _ _ _ _ _ b k).0; inside = (cut_inside _ _ _ _ _ _ b k _ c.position-start.ensures).1 }

pub displace-end-requires : goal.displace-end-requires
displace-end-requires c =
    let p = c.requires in
    let b = begun_front _ _ _ _ _ _ _ c.position-len.ensures p.begun in
    let long = ap length (blank c.args.p.g (omega (arith, p.begun.few_index))) ∙ length-replicate c.args.p.g 0 in
    record { d_value = (few _ _ _ _ _ _ b (marks_long _ p.le_g.3), omega (arith, p.begun.few_index, long), p.le_g.3) }

pub returns-then-p-end : goal.returns-then-p-end
returns-then-p-end c =
    let d = c.displace-end.ensures in
    let there = c.position-len.ensures in
    let none = blank c.args.p.g (omega (arith, c.requires.begun.few_index)) in
    record {
      changed = grow_full _ c.args.p _ _ _ _ (begun_front _ _ _ _ _ _ _ there c.requires.begun) (marks_long _ c.requires.le_g.3) c.requires.le_g.0 _ _ _
          none _ _ c.position-start.ensures d.displaced c.args.image.now (old_length c.args.p.old) (ap (λ (k : ℕ). take k c.args.image.now) there)
          c.if-p-end.true;
      image_len_unchanged = (refl, refl);
    }

pub finish-requires : goal.finish-requires
finish-requires c =
    let p = c.requires in
    let b = p.begun in
    let d = c.displace-end.ensures in
    let there = c.position-len.ensures in
    let none = blank c.args.p.g (omega (arith, b.few_index)) in
    record {
      ready = front_ready c.args.image.now _ _ _ _ _ there _ (grow_ready _ c.args.p _ _ _ _ (begun_front _ _ _ _ _ _ _ there b) (marks_long _
          p.le_g.3) p.le_g.0 _ _ _ none _ _ c.position-start.ensures d.displaced c.if-p-end.false (d.numbers_len_unchanged.0 ∙ ap length none
          ∙ length-replicate c.args.p.g 0) (marks_long _
          (d.numbers_len_unchanged.1 ∙ p.le_g.3)));
      v_in_bounds = (p.le_g.1, p.le_g.2, d.numbers_len_unchanged.1 ∙ p.le_g.3);
    }
