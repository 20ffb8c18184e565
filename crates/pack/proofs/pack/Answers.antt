-- The stores of the code are the plan that the specification writes, and what it gives up zeroed.
use Rattle.std.proofs.Common.{arith, refl, ◌≡◌, ◌∙◌, ℕ, ◌<◌, ◌≤◌, length, get_or}
use Rattle.spec.specs.Header.{block_position}
use Rattle.pack.proofs.Optimised.{old_whole, end_short, index_fewer, index_holds, runs_fit, blocks_counted, blocks_fewer, packed_length, packed_image}
use Rattle.pack.proofs.pack.Goals as goal

pub nblock2-blocks-requires : goal.nblock2-blocks-requires
nblock2-blocks-requires c =
    let long : block_position c.args.v.form.extended c.args.v.n c.args.v.d ≡ length c.args.old.now =
    old_whole _ _ c.requires.accepted_image c.requires.len.0 in
    omega (arith, long)

pub need-m-requires : goal.need-m-requires
need-m-requires c = end_short _ _ c.requires.accepted_image c.requires.len.0

pub position-data-requires : goal.position-data-requires
position-data-requires c =
    let fewer : c.need-m.result ≤ c.args.v.n =
    index_fewer _ _ c.requires.accepted_image c.requires.len.0 _ refl _ c.areas.ensures.elements_told.3 _ c.need-m.ensures
    (λ k. omega (arith, c.type_inv.old k)) in
    let long : block_position c.args.v.form.extended c.args.v.n c.args.v.d ≡ length c.args.old.now =
    old_whole _ _ c.requires.accepted_image c.requires.len.0 in
    omega (arith, fewer, long)

pub write_runs-out-requires : goal.write_runs-out-requires
write_runs-out-requires c =
    let a = c.requires.accepted_image in
    let in_blocks = c.requires.len.0 in
    let told = c.areas.ensures.elements_told in
    let area = c.areas.ensures.area_told in
    let fewer : c.need-m.result ≤ c.args.v.n = index_fewer _ _ a in_blocks _ refl _ told.3 _ c.need-m.ensures (λ k. omega (arith, c.type_inv.old k)) in
    let few : c.nblock2-blocks.result ≤ c.args.v.d =
    blocks_fewer _ _ a in_blocks (λ k. omega (arith, c.type_inv.old k)) _ c.nblock2-blocks.ensures.value in
    let long : block_position c.args.v.form.extended c.args.v.n c.args.v.d ≡ length c.args.old.now = old_whole _ _ a in_blocks in
    let holds = index_holds _ _ a in_blocks _ refl _ told.3 _ c.need-m.ensures in
    let g = blocks_counted _ _ a in_blocks _ c.nblock2-blocks.ensures.value in
    rw (told.0, told.1, told.2, area.0, area.1) (runs_fit _ _ a in_blocks _ refl _ told.3 _ _ (omega (arith, holds, fewer)) (omega (arith, g, few, fewer, long)))

pub overflow_sub-data : goal.overflow_sub-data
overflow_sub-data c =
    let a = c.requires.accepted_image in
    let told = c.areas.ensures.elements_told in
    let fewer : c.need-m.result ≤ c.args.v.n = index_fewer _ _ a c.requires.len.0 _ refl _ told.3 _ c.need-m.ensures (λ k. omega (arith, c.type_inv.old k)) in
    let holds = index_holds _ _ a c.requires.len.0 _ refl _ told.3 _ c.need-m.ensures in
    let ends = rw (told.0, told.1, told.2) at c.write_runs-out.ensures.value in
    omega (arith, holds, ends, fewer, c.position-data.ensures)

pub fill_zero-requires : goal.fill_zero-requires
fill_zero-requires c =
    let a = c.requires.accepted_image in
    let told = c.areas.ensures.elements_told in
    let fewer : c.need-m.result ≤ c.args.v.n = index_fewer _ _ a c.requires.len.0 _ refl _ told.3 _ c.need-m.ensures (λ k. omega (arith, c.type_inv.old k)) in
    let long : block_position c.args.v.form.extended c.args.v.n c.args.v.d ≡ length c.args.old.now =
    old_whole _ _ a c.requires.len.0 in
    let holds = index_holds _ _ a c.requires.len.0 _ refl _ told.3 _ c.need-m.ensures in
    let ends = rw (told.0, told.1, told.2) at c.write_runs-out.ensures.value in
    omega (arith, holds, ends, fewer, long, c.position-data.ensures, c.write_runs-out.ensures.image_len_unchanged, c.requires.len.1)

pub write_counts-requires : goal.write_counts-requires
write_counts-requires c =
    let long : block_position c.args.v.form.extended c.args.v.n c.args.v.d ≡ length c.args.old.now =
    old_whole _ _ c.requires.accepted_image c.requires.len.0 in
    omega (arith, long, c.requires.len.1, c.fill_zero.ensures.dst_len_unchanged, c.write_runs-out.ensures.image_len_unchanged)

pub position-len-requires : goal.position-len-requires
position-len-requires c =
    let a = c.requires.accepted_image in
    let fewer : c.need-m.result ≤ c.args.v.n =
    index_fewer _ _ a c.requires.len.0 _ refl _ c.areas.ensures.elements_told.3 _ c.need-m.ensures (λ k. omega (arith, c.type_inv.old k)) in
    let few : c.nblock2-blocks.result ≤ c.args.v.d =
    blocks_fewer _ _ a c.requires.len.0 (λ k. omega (arith, c.type_inv.old k)) _ c.nblock2-blocks.ensures.value in
    let long : block_position c.args.v.form.extended c.args.v.n c.args.v.d ≡ length c.args.old.now =
    old_whole _ _ a c.requires.len.0 in
    let countable : length c.args.old.now ≤ 18_446_744_073_709_551_615 =
    omega arith in
    omega (arith, few, fewer, long, countable)

pub overflow_sub-old : goal.overflow_sub-old
overflow_sub-old c =
    let a = c.requires.accepted_image in
    let fewer : c.need-m.result ≤ c.args.v.n =
    index_fewer _ _ a c.requires.len.0 _ refl _ c.areas.ensures.elements_told.3 _ c.need-m.ensures (λ k. omega (arith, c.type_inv.old k)) in
    let few : c.nblock2-blocks.result ≤ c.args.v.d =
    blocks_fewer _ _ a c.requires.len.0 (λ k. omega (arith, c.type_inv.old k)) _ c.nblock2-blocks.ensures.value in
    let long : block_position c.args.v.form.extended c.args.v.n c.args.v.d ≡ length c.args.old.now =
    old_whole _ _ a c.requires.len.0 in
    let room : length c.args.old.now ≤ length c.write_counts.new.s =
    let kept = c.write_counts.ensures.s_len_unchanged ∙ c.fill_zero.ensures.dst_len_unchanged ∙ c.write_runs-out.ensures.image_len_unchanged in
    omega (arith, kept, c.requires.len.1) in
    omega (arith, few, fewer, long, room)

pub fill_zero-requires-2 : goal.fill_zero-requires-2
fill_zero-requires-2 c =
    let a = c.requires.accepted_image in
    let fewer : c.need-m.result ≤ c.args.v.n =
    index_fewer _ _ a c.requires.len.0 _ refl _ c.areas.ensures.elements_told.3 _ c.need-m.ensures (λ k. omega (arith, c.type_inv.old k)) in
    let few : c.nblock2-blocks.result ≤ c.args.v.d =
    blocks_fewer _ _ a c.requires.len.0 (λ k. omega (arith, c.type_inv.old k)) _ c.nblock2-blocks.ensures.value in
    let long : block_position c.args.v.form.extended c.args.v.n c.args.v.d ≡ length c.args.old.now =
    old_whole _ _ a c.requires.len.0 in
    let room : length c.args.old.now ≤ length c.write_counts.new.s =
    let kept = c.write_counts.ensures.s_len_unchanged ∙ c.fill_zero.ensures.dst_len_unchanged ∙ c.write_runs-out.ensures.image_len_unchanged in
    omega (arith, kept, c.requires.len.1) in
    omega (arith, few, fewer, long, room)

pub returns : goal.returns
returns c =
    let a = c.requires.accepted_image in
    let in_blocks = c.requires.len.0 in
    let told = c.areas.ensures.elements_told in
    let area = c.areas.ensures.area_told in
    let counted = c.nblock2-blocks.ensures.value in
    let needed = c.need-m.ensures in
    let written = c.write_runs-out.ensures in
    let runs_now = rw (told.0, told.1, told.2, area.0, area.1) at written.image_after in
    let elements_now = rw (told.0, told.1, told.2) at written.value in
    let zeroed = c.fill_zero.ensures in
    let headed = c.write_counts.ensures in
    let last = c.fill_zero-2.ensures in
    let ends = c.position-len.ensures in
    let small : (k : ℕ) → get_or c.args.old.now k 0 < 256 = λ k. omega (arith, c.type_inv.old k) in
    record {
      image_after = packed_image _ _ a in_blocks _ refl _ told.3 _ counted _ needed small _ _ _ _ _ _ _ _ c.position-data.ensures ends
          c.requires.len.1 c.requires.len.2 runs_now elements_now zeroed.dst_after headed.s_after last.dst_after;
      value = packed_length _ _ a in_blocks _ refl _ told.3 _ counted _ needed small _ ends;
      image_len_unchanged = last.dst_len_unchanged ∙ headed.s_len_unchanged ∙ zeroed.dst_len_unchanged ∙ written.image_len_unchanged;
    }
