-- A change of an accepted image gives a plan that is read back, and its entries are the old ones changed as told. For any lawful format.
use Prim.Native.Nat.{ℕ, ◌+◌, ◌-◌, ◌*◌, ◌≤◌, max}
use mathlib.Core.Path.{◌≡◌, refl, sym, ap, ap₂, ◌∙◌}
use mathlib.Core.Logic.{◌⊎◌, inl, inr}
use mathlib.Core.List.{List, [], ◌∷◌, ◌++◌, map, map-append}
use native.Mathlib.Omega.{arith}
use native.Mathlib.Nat.{zero-add}
use lib.ListN.{length, length-append, length-drop}
use Rattle.spec.specs.Order.{HeadwordOrder}
use Rattle.spec.specs.Outcome.{ok}
use Rattle.spec.specs.Bytes.{blocks_for}
use Rattle.spec.specs.Header.{Format, Lawful, block_position}
use Rattle.spec.specs.Entry.{Entry}
use Rattle.spec.specs.Run.{Run}
use Rattle.spec.specs.Index.{element_bytes, elements_bytes, index_need}
use Rattle.spec.specs.Blocks.{place_for}
use Rattle.spec.specs.Check.{Image, data_start, data_area, all_entries, entries_of, image_by}
use Rattle.spec.specs.SortedList.{replace, remove}
use Rattle.spec.specs.Place.{Target, Placed, Grown, Move, target_run, cut, new_run, at_block, with_run, place, element_of, renumbered, grown, plan_change, packed, plan_packed}
use Rattle.spec.specs.CutForm.{IsCut, joined_parts, CutIsCut}
use Rattle.spec.specs.Lists.{All}
use Rattle.spec.proofs.ListsLaws.{all_map, all_append, all_front, all_back}
use Rattle.spec.proofs.BytesLaws.{length_to_little_endian}
use Rattle.spec.specs.Sound.{EntriesOk, Holds, Laid, SoundPlan}
use Rattle.spec.proofs.CutLaws.{cut_is_cut, cut_joined, first_part, other_parts}
use Rattle.spec.proofs.PlaceLaws.{place_all, grown_all, packed_all, entries_append, new_entries, place_entries, renumbered_entries, packed_entries}
use Rattle.spec.proofs.LaidLaws.{Sized, once_laid, laid_without, packed_laid}
use Rattle.spec.proofs.GrownLaws.{plan_laid}
use Rattle.spec.proofs.ReadLaws.{RunsAscend, FrameFits, frame_fits, image_told, runs_ascend, runs_inside}
use Rattle.spec.proofs.SearchLaws.{entries_ascend}
use Rattle.spec.proofs.SortedLaws.{ok_front, ok_back, replace_ok, remove_ok, replace_between, remove_between}
use Rattle.spec.proofs.TargetLaws.{Concerned, target_concerned}
use Rattle.spec.proofs.HoldsLaws.{holds_moved, runs_hold, new_holds}

-- what is known of an accepted image
pub record Sound (F : Format) (s : List ℕ) (i : Image) : Type 0 where
  pub fits : FrameFits F s i.frame
  pub holds : All (Holds F.below) i.runs
  pub ascend : RunsAscend F.below i.runs
  pub laid : Laid i.frame.data_blocks i.runs

-- a run that holds its entries has blocks and their bytes
holds_sized : (below : HeadwordOrder) (rs : List Run) → All (Holds below) rs → All Sized rs
holds_sized below rs k = all_map (Holds below) Sized (λ r h. (h.some_blocks, h.whole)) rs k

-- an accepted image is such an image
pub image_sound : (F : Format) (s : List ℕ) (i : Image) → image_by F s ≡ ok i → Sound F s i
unfolding data_area data_start
image_sound F s i h =
    let t = image_told F s i h in
    let f = frame_fits F s i.frame t.frame in
    let start : data_start i.frame ≡ block_position F.extended i.frame.index_blocks 0 = ap data_start f.is in
    let long : 256 * i.frame.data_blocks ≤ length (data_area i.frame s) = rw (length-drop) (omega (arith, start, f.index_inside, f.data_are)) in
    let k = runs_hold F.below i.frame.data_blocks (data_area i.frame s) t.elements i.runs long t.runs in
    record {
      fits = f;
      holds = k;
      ascend = runs_ascend F.below i.frame.data_blocks (data_area i.frame s) t.elements i.runs t.runs;
      laid =
          once_laid i.frame.data_blocks i.runs i.free_list t.once
          (runs_inside F.below i.frame.data_blocks (data_area i.frame s) t.elements i.runs t.runs) (holds_sized F.below i.runs k);
    }

-- the headwords of runs
abbrev heads : List Run → List (List ℕ)
heads rs = map (λ r. r.headword) rs

-- elements with the same headwords take the same bytes
same_length : (width : ℕ) (rs qs : List Run) → heads rs ≡ heads qs → length (elements_bytes width (map element_of rs)) ≡ length (elements_bytes width (map element_of qs))
unfolding elements_bytes element_bytes element_of
same_length width [] [] e = refl
same_length width [] (q ∷ qs) e = absurd (omega (arith, ap length e))
same_length width (r ∷ rs) [] e = absurd (omega (arith, ap length e))
same_length width (r ∷ rs) (q ∷ qs) e =
    let h : r.headword ≡ q.headword = cc in
    let t : heads rs ≡ heads qs = cc in
    simp (length-append, length_to_little_endian, h) (omega (arith, same_length width rs qs t))

-- and the same index
same_need : (width : ℕ) (rs qs : List Run) → heads rs ≡ heads qs → index_need width (map element_of rs) ≡ index_need width (map element_of qs)
unfolding index_need
same_need width [] [] e = refl
same_need width [] (q ∷ qs) e = absurd (omega (arith, ap length e))
same_need width (r ∷ rs) [] e = absurd (omega (arith, ap length e))
same_need width (r ∷ rs) (q ∷ qs) e = ap (λ (k : ℕ). blocks_for (k + 4)) (same_length width (r ∷ rs) (q ∷ qs) e)

-- placed runs keep their headwords
place_heads : (g D : ℕ) (there rs : List Run) → heads (place g D there rs).runs ≡ heads rs
unfolding place with_run at_block
place_heads g D there [] = refl
place_heads g D there (r ∷ rs) =
    let b : ℕ = place_for g D there r.size in
    ap (λ (l : List (List ℕ)). r.headword ∷ l) (place_heads g (max D (b + r.size)) (at_block b r ∷ there) rs)

-- so do renumbered ones
renumbered_heads : (g : ℕ) (ms : List Move) (rs : List Run) → heads (map (renumbered g ms) rs) ≡ heads rs
unfolding renumbered at_block
renumbered_heads g ms [] = refl
renumbered_heads g ms (r ∷ rs) = ap (λ (l : List (List ℕ)). r.headword ∷ l) (renumbered_heads g ms rs)

-- packed runs keep their headwords
pub packed_heads : (b : ℕ) (rs : List Run) → map (λ r. r.headword) (packed b rs) ≡ map (λ r. r.headword) rs
unfolding packed at_block
packed_heads b [] = refl
packed_heads b (r ∷ rs) = ap (λ (l : List (List ℕ)). r.headword ∷ l) (packed_heads (b + r.size) rs)

-- the parts of entries that ascend hold them
parts_hold : (F : Format) → Lawful F → (ps : List (List Entry)) → IsCut F.run_limit ps → EntriesOk F.below [] (joined_parts ps) → All (Holds F.below) (map new_run ps)
unfolding joined_parts
parts_hold F law [] c g = tt
parts_hold F law (p ∷ ps) c g = (
  new_holds F.below F.run_limit law.limit_in_run p (ok_front F.below law.ordered [] p (joined_parts ps) g) (first_part F.run_limit p ps c),
  parts_hold F law ps (other_parts F.run_limit p ps c) (ok_back F.below law.ordered [] p (joined_parts ps) g),
)

-- a longer index: the runs before and after the run concerned keep their headwords
grown_heads : (g D : ℕ) (before after : List Run) → (heads (grown g D before after).before ≡ heads before) × (heads (grown g D before after).after ≡ heads after)
unfolding grown
grown_heads g D before after = (renumbered_heads g _ before, renumbered_heads g _ after)

-- the headwords of three lists of runs
heads_joined : (a b c x y z : List Run) → heads a ≡ heads x → heads b ≡ heads y → heads c ≡ heads z → heads (a ++ b ++ c) ≡ heads (x ++ y ++ z)
heads_joined a b c x y z p q r =
    let k : (u v w : List Run) → heads (u ++ v ++ w) ≡ heads u ++ heads v ++ heads w
    = λ u v w. map-append (λ r. r.headword) (u ++ v) w ∙ ap (λ (l : List (List ℕ)). l ++ heads w) (map-append (λ r. r.headword) u v) in
    k a b c ∙ rw (p, q, r) (sym (k x y z))

-- A change of the entries of the run concerned, by which all entries become those of `whole`.
module _ (F : Format) (law : Lawful F) (s : List ℕ) (i : Image) (sound : Sound F s i) (h : List ℕ) (change : List Entry → List Entry) (whole : List Entry)
    (changes : all_entries (target_run F.below h i.runs).before ++ change (target_run F.below h i.runs).entries ++ all_entries (target_run F.below h i.runs).after ≡ whole)
    (good : EntriesOk F.below [] whole) where
  concerned : Concerned F.below h i.runs (target_run F.below h i.runs)
  concerned = target_concerned F.below law.ordered h i.runs sound.ascend

  -- the other runs are among those of the image
  others : (P : Run → Type 0) → All P i.runs → All P ((target_run F.below h i.runs).before ++ (target_run F.below h i.runs).after)
  others P a = go (target_run F.below h i.runs) concerned.runs
    where
      go : (c : Target) → ((i.runs ≡ []) × (c.before ≡ []) × (c.after ≡ [])) ⊎ ((r : Run) × (i.runs ≡ c.before ++ r ∷ c.after)) → All P (c.before ++ c.after)
      go c (inl (e, b, f)) = rw (b, f) tt
      go c (inr (r, e)) =
          let k : All P (c.before ++ r ∷ c.after) = rw e at a in
          all_append P c.before c.after (all_front P c.before (r ∷ c.after) k) (all_back P c.before (r ∷ c.after) k).1

  others_laid : Laid i.frame.data_blocks ((target_run F.below h i.runs).before ++ (target_run F.below h i.runs).after)
  others_laid = go (target_run F.below h i.runs) concerned.runs
    where
      go : (c : Target) → ((i.runs ≡ []) × (c.before ≡ []) × (c.after ≡ [])) ⊎ ((r : Run) × (i.runs ≡ c.before ++ r ∷ c.after)) → Laid i.frame.data_blocks (c.before ++ c.after)
      go c (inl (e, b, f)) = rw (b, f) tt
      go c (inr (r, e)) = laid_without i.frame.data_blocks c.before r c.after (rw e at sound.laid)

  parts_ok : EntriesOk F.below [] (change (target_run F.below h i.runs).entries)
  parts_ok =
      let c : Target = target_run F.below h i.runs in
      ok_back F.below law.ordered [] (all_entries c.before) (change c.entries)
      (ok_front F.below law.ordered [] (all_entries c.before ++ change c.entries) (all_entries c.after) (rw changes good))

  new_parts : List (List Entry)
  new_parts = cut F.run_limit (change (target_run F.below h i.runs).entries)

  parts_joined : joined_parts new_parts ≡ change (target_run F.below h i.runs).entries
  unfolding new_parts
  parts_joined = cut_joined F.run_limit (change (target_run F.below h i.runs).entries)

  new_hold : All (Holds F.below) (map new_run new_parts)
  unfolding new_parts CutIsCut
  new_hold = parts_hold F law new_parts (cut_is_cut F.run_limit (change (target_run F.below h i.runs).entries)).1 (rw parts_joined parts_ok)

  -- by how much the index must grow, the other runs then, and the parts placed
  growth : ℕ
  growth = index_need F.number_width (map element_of ((target_run F.below h i.runs).before ++ map new_run new_parts ++ (target_run F.below h i.runs).after)) - i.frame.index_blocks

  rest : Grown
  rest = grown growth i.frame.data_blocks (target_run F.below h i.runs).before (target_run F.below h i.runs).after

  added : Placed
  added = place 0 rest.data_blocks (rest.before ++ rest.after) (map new_run new_parts)

  change_runs : (plan_change F i h change).runs ≡ rest.before ++ added.runs ++ rest.after
  unfolding plan_change growth rest added new_parts
  change_runs = refl

  -- its entries are those
  change_entries : all_entries (plan_change F i h change).runs ≡ whole
  unfolding rest added grown new_parts
  change_entries =
      ap all_entries change_runs
      ∙ entries_append _ _
      ∙ ap₂ (λ (x y : List Entry). x ++ y) (entries_append _ _
      ∙ ap₂ (λ (x y : List Entry). x ++ y) (renumbered_entries _ _ (target_run F.below h i.runs).before)
      (place_entries 0 _ _ _ ∙ new_entries new_parts ∙ parts_joined)) (renumbered_entries _ _ (target_run F.below h i.runs).after)
      ∙ changes

  -- a fact of runs wherever they stand holds of those of the plan, if it holds of the image's and of the parts
  pub change_all : (P : Run → Type 0) → ((b : ℕ) (r : Run) → P r → P (at_block b r)) → All P i.runs
      → All P (map new_run (cut F.run_limit (change (target_run F.below h i.runs).entries))) → All P (plan_change F i h change).runs
  unfolding rest added new_parts
  change_all P moved old new =
      let k = grown_all P moved growth i.frame.data_blocks (target_run F.below h i.runs).before (target_run F.below h i.runs).after (others P old) in
      rw change_runs (all_append P (rest.before ++ added.runs) rest.after
      (all_append P rest.before added.runs k.0 (place_all P moved 0 rest.data_blocks (rest.before ++ rest.after) (map new_run new_parts) new))
      k.1)

  change_holds : All (Holds F.below) (plan_change F i h change).runs
  unfolding new_parts
  change_holds = change_all (Holds F.below) (holds_moved F.below) sound.holds new_hold

  change_heads : heads (plan_change F i h change).runs ≡ heads ((target_run F.below h i.runs).before ++ map new_run new_parts ++ (target_run F.below h i.runs).after)
  unfolding rest added
  change_heads =
      let k = grown_heads growth i.frame.data_blocks (target_run F.below h i.runs).before (target_run F.below h i.runs).after in
      rw change_runs (heads_joined rest.before added.runs rest.after (target_run F.below h i.runs).before (map new_run new_parts)
      (target_run F.below h i.runs).after k.0 (place_heads 0 rest.data_blocks (rest.before ++ rest.after) (map new_run new_parts)) k.1)

  change_need : index_need F.number_width (map element_of (plan_change F i h change).runs) ≤ (plan_change F i h change).frame.index_blocks
  unfolding plan_change new_parts
  change_need =
      omega (
        arith,
        same_need F.number_width (plan_change F i h change).runs ((target_run F.below h i.runs).before ++ map new_run new_parts ++ (target_run F.below h i.runs).after)
            change_heads,
      )

  -- what the plan needs to be read back
  change_sound : SoundPlan F (plan_change F i h change)
  change_sound =
      record {
        holds = change_holds;
        entries_ok = rw change_entries good;
        laid =
            plan_laid F i h change others_laid (holds_sized F.below ((target_run F.below h i.runs).before ++ (target_run F.below h i.runs).after)
            (others (Holds F.below) sound.holds));
        need = change_need;
      }

module _ (F : Format) (law : Lawful F) (s : List ℕ) (i : Image) (sound : Sound F s i) where
  -- all entries of the image ascend
  pub image_ascends : EntriesOk F.below [] (entries_of i)
  unfolding entries_of
  image_ascends = entries_ascend F.below law.ordered i.runs sound.ascend

  -- Insert: a good entry put into the run concerned is put into the whole list
  module _ (a : Entry) (ok : EntriesOk F.below [] (a ∷ [])) where
    -- that is the change of the run concerned
    pub whole_replaced : all_entries (target_run F.below a.headword i.runs).before
        ++ replace F.below a (target_run F.below a.headword i.runs).entries ++ all_entries (target_run F.below a.headword i.runs).after
        ≡ replace F.below a (entries_of i)
    unfolding entries_of
    whole_replaced =
        let c : Target = target_run F.below a.headword i.runs in
        let k : Concerned F.below a.headword i.runs c = target_concerned F.below law.ordered a.headword i.runs sound.ascend in
        sym (ap (replace F.below a) k.entries ∙ replace_between F.below law.ordered a (all_entries c.before) c.entries (all_entries c.after) k.lower k.upper)

    -- its plan has the list with the entry put in
    pub insert_entries : all_entries (plan_change F i a.headword (replace F.below a)).runs ≡ replace F.below a (entries_of i)
    insert_entries =
        change_entries F law s i sound a.headword (replace F.below a) (replace F.below a (entries_of i)) whole_replaced
        (replace_ok F.below law.ordered a (entries_of i) image_ascends ok)

    -- and what it needs to be read back
    pub insert_sound : SoundPlan F (plan_change F i a.headword (replace F.below a))
    insert_sound =
        change_sound F law s i sound a.headword (replace F.below a) (replace F.below a (entries_of i)) whole_replaced
        (replace_ok F.below law.ordered a (entries_of i) image_ascends ok)

  -- Delete: a headword removed from the run concerned is removed from the whole list
  module _ (h : List ℕ) where
    -- that is the change of the run concerned
    pub whole_removed : all_entries (target_run F.below h i.runs).before ++ remove h (target_run F.below h i.runs).entries
        ++ all_entries (target_run F.below h i.runs).after ≡ remove h (entries_of i)
    unfolding entries_of
    whole_removed =
        let c : Target = target_run F.below h i.runs in
        let k : Concerned F.below h i.runs c = target_concerned F.below law.ordered h i.runs sound.ascend in
        sym (ap (remove h) k.entries ∙ remove_between F.below law.ordered h (all_entries c.before) c.entries (all_entries c.after) k.lower k.upper)

    -- its plan has the list with the headword removed
    pub delete_entries : all_entries (plan_change F i h (remove h)).runs ≡ remove h (entries_of i)
    delete_entries = change_entries F law s i sound h (remove h) (remove h (entries_of i)) whole_removed (remove_ok F.below law.ordered h (entries_of i) image_ascends)

    -- and what it needs to be read back
    pub delete_sound : SoundPlan F (plan_change F i h (remove h))
    delete_sound = change_sound F law s i sound h (remove h) (remove h (entries_of i)) whole_removed (remove_ok F.below law.ordered h (entries_of i) image_ascends)

  -- Optimise: the entries stay
  pub optimise_entries : all_entries (plan_packed F i.runs).runs ≡ entries_of i
  unfolding plan_packed entries_of
  optimise_entries = packed_entries 0 i.runs

  -- its plan has what it needs to be read back
  pub optimise_sound : SoundPlan F (plan_packed F i.runs)
  unfolding plan_packed
  optimise_sound =
      record {
        holds = packed_all (Holds F.below) (holds_moved F.below) 0 i.runs sound.holds;
        entries_ok = rw optimise_entries image_ascends;
        laid = rw zero-add at (packed_laid 0 i.runs (holds_sized F.below i.runs sound.holds));
        need = omega (arith, same_need F.number_width (packed 0 i.runs) i.runs (packed_heads 0 i.runs));
      }
