-- What the walk over all runs shows, in the terms of the code.
use Prim.Native.Nat.{ℕ, suc, ◌+◌, ◌*◌, ◌%◌, ◌≤◌}
use mathlib.Core.Path.{◌≡◌, refl, sym, ap, ◌∙◌}
use mathlib.Core.List.{List, [], ◌∷◌, ◌++◌}
use native.Mathlib.Omega.{arith}
use lib.ListN.{length, drop, length-append}
use Rattle.spec.specs.Order.{HeadwordOrder, below_of}
use Rattle.spec.specs.Outcome.{ok}
use Rattle.spec.specs.Bytes.{write}
use Rattle.spec.specs.Run.{Run, entries_from}
use Rattle.spec.specs.Index.{Element}
use Rattle.spec.specs.Blocks as BlocksSpec
use Rattle.spec.specs.Blocks.{run_blocks}
use Rattle.spec.specs.Check.{Image, data_area, next_headword, runs_from, image_from}
use Rattle.spec.specs.Listing as ListingSpec
use Rattle.spec.specs.Listing.{entry_lines, run_lines}
use Rattle.spec.proofs.OutcomeLaws.{same_value, ok_not_refused}
use Rattle.spec.proofs.ReadLaws.{ImageTold, RunTold, no_runs, runs_first, runs_told, free_list_below, runs_inside}
use Rattle.spec.proofs.CountLaws.{blocks_once}
use Rattle.header.specs.Form.{layout_named, format_by}
use Rattle.inspect.specs.Overview.{AcceptedImage}
use Rattle.inspect.specs.declared.Overview.{Overview}
use Rattle.inspect.proofs.Accepted.{accepted_d, accepted_told, accepted_whole}
use Rattle.std.specs.Prelude.{Result, Ok, Err}
use Rattle.spec.specs.Answers.{number_of}
use Rattle.spec.specs.declared.Refusal.{Refusal}
use Rattle.runs.specs.Size.{size_told}
use Rattle.runs.proofs.SizeLaws.{broken_seven, blocks_told, run_slice, slice_same, slice_long}
use Rattle.listing.specs.Lines.{RunPrinted, AllPrinted}
use Rattle.listing.specs.declared.Printed.{Printed}
use Rattle.spec.proofs.WriteLaws.{write_none, write_behind}

-- no run, no line
no_lines : (k : ℕ) → run_lines k [] ≡ []
unfolding ListingSpec.run_lines
no_lines k = refl

-- the lines of runs by the first of them
lines_cons : (k : ℕ) (r : Run) (rs : List Run) → run_lines k (r ∷ rs) ≡ entry_lines k r r.entries ++ run_lines (k + length r.entries) rs
unfolding ListingSpec.run_lines
lines_cons k r rs = refl

-- and their blocks
blocks_cons : (r : Run) (rs : List Run) → run_blocks (r ∷ rs) ≡ r.size + run_blocks rs
unfolding BlocksSpec.run_blocks
blocks_cons r rs = refl

-- the runs of the elements that are left: their lines, stored from `at` on in what stands there now, are the lines of all runs
pub record Walking (below : HeadwordOrder) (s area : List ℕ) (D : ℕ) (out₀ out : List ℕ) (start at ordinal : ℕ) (left : List Element) : Type 0 where
  pub kept : length out ≡ length out₀
  pub few : ordinal ≤ at
  pub all : List Run
  pub whole : (i : Image) → image_from s ≡ ok i → i.runs ≡ all
  pub rest : List Run
  pub read : runs_from below D area left ≡ ok rest
  pub room : at + 14_336 * run_blocks rest ≤ length out₀
  pub lines : write at (run_lines ordinal rest) out ≡ write start (run_lines 1 all) out₀
  pub ends : at + length (run_lines ordinal rest) ≡ start + length (run_lines 1 all)

module _ {below : HeadwordOrder} {s area : List ℕ} {D : ℕ} {out₀ out : List ℕ} {start at ordinal : ℕ} {left : List Element}
    (v : Walking below s area D out₀ out start at ordinal left) where
  -- all lines are stored
  pub walking_end : left ≡ [] → AllPrinted s start out₀ out at
  walking_end z i h =
      let e : v.rest ≡ [] = no_runs below D area v.rest (sym (ap (runs_from below D area) z) ∙ v.read) in
      let l : run_lines ordinal v.rest ≡ [] = ap (run_lines ordinal) e ∙ no_lines ordinal in
      rw (v.whole i h) (sym (write_none out at) ∙ (rw l at v.lines), omega (arith, v.ends, ap (λ (x : List ℕ). length x) l))

  module _ (d : Element) (others : List Element) (next : left ≡ d ∷ others) where
    -- the runs of the elements that are left, by the first of these
    both : runs_from below D area (d ∷ others) ≡ ok v.rest
    both = sym (ap (runs_from below D area) next) ∙ v.read

    -- the run of the first, and those of the others
    first : (r : Run) × (rs : List Run) × (v.rest ≡ r ∷ rs) × RunTold below D area d (next_headword others) r × (runs_from below D area others ≡ ok rs)
    first = runs_told below D area d others v.rest both

    module _ (told : Result ℕ Refusal) (sized : told ≡ size_told D area d.block) where
      -- no run that is read breaks row 7
      pub walking_broken : (f : Refusal) → told ≡ Err f → AllPrinted s start out₀ out at
      walking_broken f q i h =
          let (r, rs, e, u, k) = runs_first below D area d others v.rest both in
          absurd (ok_not_refused r (number_of f) (sym u ∙ broken_seven D area d.block told sized f q below d (next_headword others) refl))

      module _ (long : 256 * D ≤ length area) (size : ℕ) (blocks : told ≡ Ok size) where
        -- it has as many blocks as its first two bytes say
        its_size : first.0.size ≡ size
        its_size = first.3.size ∙ sym (blocks_told D area d.block told sized size blocks).1

        -- its bytes
        slice_length : length (run_slice area d.block size) ≡ 256 * size
        slice_length = slice_long area d.block size D long (omega (arith, first.3.block, its_size, first.3.inside))

        -- it has the two bytes of its size
        pub walking_some : 2 ≤ length (run_slice area d.block size)
        walking_some = omega (arith, slice_length, its_size, first.3.some_blocks)

        -- its lines have room
        pub walking_room : at + 56 * length (run_slice area d.block size) ≤ length out
        walking_room = omega (arith, slice_length, its_size, v.room, v.kept, ap run_blocks first.2, blocks_cons first.0 first.1)

        -- and its entries, as they are read from these
        its_entries : entries_from below (suc (length (run_slice area d.block size))) [] (drop 2 (run_slice area d.block size)) ≡ ok first.0.entries
        its_entries =
            let e : first.0.bytes ≡ run_slice area d.block size = first.3.bytes ∙ rw (first.3.block, its_size) (sym (slice_same area d.block size)) in
            rw e at first.3.read

        -- the lines of one run more
        pub walking_next : (out' : List ℕ) (printed : Printed) → RunPrinted below d.block size (run_slice area d.block size) ordinal at out out' printed → printed.next ≤ printed.at
            → length out' ≡ length out → printed.at ≤ at + 56 * length (run_slice area d.block size)
            → Walking below s area D out₀ out' start printed.at printed.next others
        walking_next out' printed printed_run few' same most =
            let r : Run = first.0 in
            let rs : List Run = first.1 in
            let (u, ends', c) = printed_run r first.3.block its_size its_entries in
            let x : List ℕ = entry_lines ordinal r r.entries in
            let y : List ℕ = run_lines printed.next rs in
            let all' : run_lines ordinal v.rest ≡ x ++ y = ap (run_lines ordinal) first.2 ∙ lines_cons ordinal r rs ∙ rw c refl in
            record {
              kept = same ∙ v.kept;
              few = few';
              all = v.all;
              whole = v.whole;
              rest = rs;
              read = first.4;
              room = omega (arith, slice_length, its_size, v.room, ap run_blocks first.2, blocks_cons r rs);
              lines =
                  ap (write printed.at y) u ∙ ap (λ (i : ℕ). write i y (write at x out)) ends' ∙ write_behind out x y at (omega (arith, v.room, v.kept))
                  ∙ ap (λ (l : List ℕ). write at l out) (sym all') ∙ v.lines;
              ends = omega (arith, v.ends, ends', ap (λ (l : List ℕ). length l) all', length-append x y);
            }

-- an accepted image, of which v tells
module _ (s : List ℕ) (v : Overview) (a : AcceptedImage s v) where
  -- its runs have no more blocks than there are
  few : run_blocks a.image.runs ≤ v.d
  few =
      let i : Image = a.image in
      let told : ImageTold (format_by (layout_named s) v.form) s i = accepted_told s v a in
      let inside = runs_inside (below_of v.form.order) i.frame.data_blocks (data_area i.frame s) told.elements i.runs told.runs in
      let low = free_list_below _ _ _ _ i.free_list told.free_list in
      omega (arith, accepted_d s v a, blocks_once i.frame.data_blocks i.runs i.free_list told.once inside low)

  -- no line is stored
  pub walking_start : (area : List ℕ) (D : ℕ) (es : List Element) → ((i : Image) → image_from s ≡ ok i → runs_from (below_of v.form.order) D area es ≡ ok i.runs)
      → (out : List ℕ) (start : ℕ) → 1 ≤ start → length s % 256 ≡ 0 → start + 56 * length s ≤ length out
      → Walking (below_of v.form.order) s area D out out start start 1 es
  walking_start area D es told out start p m room =
      record {
        kept = refl;
        few = p;
        all = a.image.runs;
        whole = λ i h. ap (λ (j : Image). j.runs) (same_value i a.image (sym h ∙ a.is));
        rest = a.image.runs;
        read = told a.image a.is;
        room = omega (arith, few, accepted_whole s v a m);
        lines = refl;
        ends = refl;
      }
