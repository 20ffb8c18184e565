-- What the calls ask that write index and blocks.
use Prim.Native.Nat.{ℕ, ◌+◌, ◌-◌, ◌*◌, ◌≤◌, ◌<◌}
use mathlib.Core.Path.{◌≡◌, refl, ap, subst, ◌∙◌}
use mathlib.Core.Bool.{Bool, true}
use mathlib.Core.List.{List, ◌++◌, map}
use native.Mathlib.Omega.{arith}
use lib.ListN.{length, take, drop, get_or}
use Rattle.spec.specs.Bytes.{write, zeros}
use Rattle.spec.specs.Header.{block_position}
use Rattle.spec.specs.Entry.{Entry, headword_ok}
use Rattle.spec.specs.Run.{run_size}
use Rattle.spec.specs.Index.{elements_bytes}
use Rattle.spec.specs.Place.{cut, element_of}
use Rattle.spec.specs.Lists.{All}
use Rattle.spec.proofs.ListsLaws.{all_map}
use Rattle.marks.specs.Marks.{marks}
use Rattle.marks.proofs.Laws.{length_marks}
use Rattle.index.specs.Elements.{elements_at, Inside}
use Rattle.byteops.specs.Width.{Width}
use Rattle.header.specs.declared.Form.{Form}
use Rattle.header.specs.Form.{most_of, index_start, area_start, index_cut, data_cut, data_part}
use Rattle.inspect.proofs.Laws.{data_long}
use Rattle.inspect.proofs.Accepted.{accepted_blocks}
use Rattle.placing.specs.Spread.{spread}
use Rattle.placing.proofs.SpreadLaws.{spread_grows}
use Rattle.moves.specs.Moved.{starts, size_at, moved_written}
use Rattle.elements.specs.Renewed.{renewed}
use Rattle.target.specs.declared.Target.{Target}
use Rattle.target.specs.Told.{entries_start, entries_part}
use Rattle.encoder.specs.Limits.{longest_body, longest_run}
use Rattle.parts.specs.Room.{largest_limit}
use Rattle.parts.specs.Merge.{changed_entries}
use Rattle.plan.specs.Written.{part_runs, parts_written}
use Rattle.change.specs.declared.Outline.{Outline}
use Rattle.spec.specs.Blocks.{free_list_start, free_list_written}
use Rattle.chain.specs.Numbers.{numbers}
use Rattle.change.specs.Ready.{parts_of, Ready, Roomy, new_start, Areas, Sealed, Written}
use Rattle.change.proofs.Laws.{run_cut, run_short, run_few, before_length, after_length, index_room, room_is, areas_done, sealed_done}

module _ (o : List ℕ) (v : Outline) (T : List ℕ) (ws : List ℕ) (h body : List ℕ) (r : Ready o v T (marks ws) h body) (s : List ℕ) (q : Roomy s o v (marks ws) h body) where
  abbrev fm : Form
  fm = v.draft.old.form

  abbrev w : ℕ
  w = fm.width

  abbrev t : Target
  t = v.draft.target

  abbrev ps : List (List Entry)
  ps = parts_of v.draft.old o t h body v.draft.fresh

  -- no more data blocks than row 5 allows
  few_blocks : v.draft.old.d ≤ most_of w
  few_blocks = accepted_blocks o v.draft.old r.accepted

  -- its block numbers and its limit
  pub form_asks : Width w × (fm.limit ≤ largest_limit)
  form_asks = (r.accepted.good.0, omega (arith, r.accepted.good.1))

  end_inside : v.end ≤ (spread v.draft.g v.end (marks ws) (map run_size ps)).end
  end_inside = spread_grows v.draft.g v.end (marks ws) (map run_size ps)

  -- the run concerned inside its area
  pub run_asks : t.block + t.size ≤ 16_777_215
  run_asks = omega (arith, r.inside, few_blocks)

  pub run_inside : t.block + t.size ≤ v.draft.old.d
  run_inside = r.inside

  -- writing the free list and the header
  pub rest_asks : (l last : ℕ) → l ≡ length s → last ≡ (spread v.draft.g v.end (marks ws) (map run_size ps)).end → (k : ℕ) → k ≡ length ws
      → (v.draft.g ≤ last) × (last ≤ 64 * k) × (block_position fm.extended (v.draft.old.n + v.draft.g) (last - v.draft.g) ≤ l) × (v.draft.old.n + v.draft.g ≤ 32_767)
  rest_asks l last e el k ek =
      let a : v.draft.g ≤ v.end = omega (arith, r.under.end_is) in (
        omega (arith, end_inside),
        omega (arith, q.end_few, r.few_index, q.long, length_marks ws),
        omega (arith, q.room, end_inside),
        r.few_index,
      )

  -- after both
  pub all_written : (s₅ s₇ : List ℕ) (ms : List Bool) (last : ℕ) → Areas s s₅ o v h body → ms ≡ (spread v.draft.g v.end (marks ws) (map run_size ps)).free
      → last ≡ (spread v.draft.g v.end (marks ws) (map run_size ps)).end
      → Sealed s₅ s₇ v (numbers 0 (take (last - v.draft.g) (drop v.draft.g ms))) → Written s s₇ o h body v.draft.fresh
  all_written s₅ s₇ ms last e₅ em el e =
      let f : List ℕ → List ℕ = λ x. take (new_start v) s₅ ++ free_list_written x (drop (new_start v) s₅) in
      let b : List ℕ = numbers 0 (take (last - v.draft.g) (drop v.draft.g (spread v.draft.g v.end (marks ws) (map run_size ps)).free)) in
      let k : Sealed s₅ s₇ v b = subst (λ (x : List Bool). Sealed s₅ s₇ v (numbers 0 (take (last - v.draft.g) (drop v.draft.g x)))) em e in
      sealed_done o v T (marks ws) h body r s q s₅ (f b) s₇ last (free_list_start b) e₅ el refl refl k

  -- the index and the old blocks, as code cuts them out
  module _ (start : ℕ) (here : start ≡ area_start fm v.draft.old.n) where
    abbrev front : ℕ
    front = index_start fm

    abbrev area : List ℕ
    area = data_cut o start

    abbrev index : List ℕ
    index = index_cut fm o start

    -- the bytes in front of the blocks, and all bytes, are few
    pub starts_inside : (start ≤ length o) × (length o ≤ length s) × (v.draft.old.n + v.draft.g ≤ 32_767) × (v.draft.old.d ≤ 16_777_215)
    starts_inside = (omega (arith, r.whole), q.shorter, r.few_index, omega (arith, few_blocks))

    pub area_long : 256 * v.draft.old.d ≡ length area
    area_long = data_long o fm v.draft.old.n v.draft.old.d r.whole start here

    -- the area has that many blocks
    pub area_asks : (256 * v.draft.old.d ≤ length area) × (v.draft.old.d ≤ 16_777_215)
    area_asks = (omega (arith, area_long), omega (arith, few_blocks))

    -- the elements before and after stand in the index
    pub before_stands : Width w × Inside w index 0 t.before
    before_stands = rw here (form_asks.0, r.told.before_inside)

    pub after_stands : Width w × Inside w index t.end t.after
    after_stands = rw here (form_asks.0, r.told.after_inside)

    -- copying the displaced runs
    pub moved_asks : All (λ b. (b < v.draft.old.d) × (block_position fm.extended v.draft.old.n (get_or T b 0 + size_at area v.draft.old.d b) ≤ length s)) (starts 0 (length T) T)
    moved_asks =
        let inside : (b : ℕ) → (b < v.draft.old.d) × (get_or T b 0 + size_at (data_part fm o v.draft.old.n) v.draft.old.d b ≤ v.end)
        → (b < v.draft.old.d) × (block_position fm.extended v.draft.old.n (get_or T b 0 + size_at (data_part fm o v.draft.old.n) v.draft.old.d b) ≤ length s)
        = λ b p. (p.0, omega (arith, p.1, q.room, end_inside)) in
        rw (here, r.table) (all_map _ _ inside (starts 0 v.draft.g T) r.under.moved_inside)

    -- copying the elements before
    pub before_asks : (l : ℕ) → l ≡ length s → front + length (elements_bytes w (elements_at w index 0 t.before)) ≤ l
    before_asks l e =
        rw here (omega (arith, before_length o v T (marks ws) h body r s q, index_room o v T (marks ws) h body r s q, room_is o v T (marks ws) h body r s q))

    -- writing the parts
    pub parts_asks : (l from a : ℕ) → l ≡ length s → from ≡ entries_start t.block t.size → a ≡ front + length (elements_bytes w (elements_at w index 0 t.before))
        → let run : List ℕ = take (256 * (t.block + t.size) - from) (drop from area) in
        ((headword_ok h ≡ true) × (length body ≤ longest_body) × (length run ≤ 8388608))
        × ((Width w × (fm.limit ≤ largest_limit) × (v.draft.g ≤ v.end))
        × ((((spread v.draft.g v.end (marks ws) (map run_size (cut fm.limit (changed_entries fm.order run h body v.draft.fresh)))).end + longest_run ≤ 64 * length ws)
        × (block_position fm.extended v.draft.old.n (spread v.draft.g v.end (marks ws) (map run_size (cut fm.limit (changed_entries fm.order run h body v.draft.fresh)))).end ≤ l))
        × (a + length (elements_bytes w (map element_of (part_runs v.draft.g
        (spread v.draft.g v.end (marks ws) (map run_size (cut fm.limit (changed_entries fm.order run h body v.draft.fresh)))).places
        (cut fm.limit (changed_entries fm.order run h body v.draft.fresh))))) ≤ l)))
    unfolding entries_part
    parts_asks l from a k e ea =
        let ea' = rw here at ea in
        rw (e, here) (
          (r.headword, r.body_short, run_short (data_part fm o v.draft.old.n) t.block t.size (entries_start t.block t.size) refl (run_few o v T (marks ws) h body r)),
          (
            (form_asks.0, form_asks.1, omega (arith, r.under.end_is)),
            (
              (omega (arith, q.end_few, q.long, length_marks ws, r.few_index), omega (arith, q.room)),
              omega (arith, before_length o v T (marks ws) h body r s q, index_room o v T (marks ws) h body r s q, room_is o v T (marks ws) h body r s q),
            ),
          ),
        )

    -- copying the elements after
    pub after_asks : (l a b : ℕ) → l ≡ length s → a ≡ front + length (elements_bytes w (elements_at w index 0 t.before))
        → b ≡ a + length (elements_bytes w (map element_of (part_runs v.draft.g
        (spread v.draft.g v.end (marks ws) (map run_size ps)).places ps)))
        → b + length (elements_bytes w (elements_at w index t.end t.after)) ≤ l
    after_asks l a b k ea eb =
        let ea' = rw here at ea in
        rw here (omega (
          arith,
          before_length o v T (marks ws) h body r s q,
          after_length o v T (marks ws) h body r s q,
          index_room o v T (marks ws) h body r s q,
          room_is o v T (marks ws) h body r s q,
        ))

    -- the elements end inside the index
    pub index_end : (a b e : ℕ) → a ≡ front + length (elements_bytes w (elements_at w index 0 t.before))
        → b ≡ a + length (elements_bytes w (map element_of (part_runs v.draft.g
        (spread v.draft.g v.end (marks ws) (map run_size ps)).places ps)))
        → e ≡ b + length (elements_bytes w (elements_at w index t.end t.after)) → (e ≤ new_start v) × (new_start v ≤ length s)
    index_end a b e ea eb ee =
        let ea' = rw here at ea in
        let ee' = rw here at ee in (
          omega (arith, before_length o v T (marks ws) h body r s q, after_length o v T (marks ws) h body r s q, index_room o v T (marks ws) h body r s q),
          omega (arith, room_is o v T (marks ws) h body r s q),
        )

    -- the run as code cuts it out
    pub run_is : (from : ℕ) → from ≡ entries_start t.block t.size
        → cut fm.limit (changed_entries fm.order (take (256 * (t.block + t.size) - from) (drop from area)) h body v.draft.fresh) ≡ ps
    run_is from e =
        rw here (ap (λ (x : List ℕ). cut fm.limit (changed_entries fm.order x h body v.draft.fresh)) (run_cut (data_part fm o v.draft.old.n) t.block t.size from e))

    -- what is written of the parts, by the run as code cuts it out
    module _ (from : ℕ) (e : from ≡ entries_start t.block t.size) where
      abbrev cs : List (List Entry)
      cs = cut fm.limit (changed_entries fm.order (take (256 * (t.block + t.size) - from) (drop from area)) h body v.draft.fresh)

      pub parts_bytes : (a b : ℕ) → b ≡ a + length (elements_bytes w (map element_of (part_runs v.draft.g (spread v.draft.g v.end (marks ws) (map run_size cs)).places cs)))
          → b ≡ a + length (elements_bytes w
          (map element_of (part_runs v.draft.g (spread v.draft.g v.end (marks ws) (map run_size ps)).places ps)))
      parts_bytes a b =
          subst
          (λ (x : List (List Entry)). b ≡ a + length (elements_bytes w (map element_of (part_runs v.draft.g (spread v.draft.g v.end (marks ws) (map run_size x)).places x))))
          (run_is from e)

      pub parts_image : (a : ℕ) (s₂ s₃ : List ℕ) → s₃ ≡ parts_written w fm.extended v.draft.old.n v.draft.g a (spread v.draft.g v.end (marks ws) (map run_size cs)).places cs s₂
          → s₃ ≡ parts_written w fm.extended v.draft.old.n v.draft.g a (spread v.draft.g v.end (marks ws) (map run_size ps)).places ps s₂
      parts_image a s₂ s₃ =
          subst (λ (x : List (List Entry)). s₃ ≡ parts_written w fm.extended v.draft.old.n v.draft.g a (spread v.draft.g v.end (marks ws) (map run_size x)).places x s₂)
          (run_is from e)

      pub parts_marks : (ms : List Bool) → ms ≡ (spread v.draft.g v.end (marks ws) (map run_size cs)).free → ms ≡ (spread v.draft.g v.end (marks ws) (map run_size ps)).free
      parts_marks ms = subst (λ (x : List (List Entry)). ms ≡ (spread v.draft.g v.end (marks ws) (map run_size x)).free) (run_is from e)

    -- THE LAW of the writing, as code cuts out the index and the old blocks
    pub areas_written : (s₁ s₂ s₃ s₄ s₅ : List ℕ) (a b e end : ℕ)
        → s₁ ≡ take (area_start fm v.draft.old.n) s ++ moved_written area v.draft.old.d T (starts 0 (length T) T) (drop (area_start fm v.draft.old.n) s)
        → s₂ ≡ write front (elements_bytes w (map (renewed T (length T)) (elements_at w index 0 t.before))) s₁
        → a ≡ front + length (elements_bytes w (elements_at w index 0 t.before))
        → s₃ ≡ parts_written w fm.extended v.draft.old.n v.draft.g a (spread v.draft.g v.end (marks ws) (map run_size ps)).places ps s₂
        → b ≡ a + length (elements_bytes w (map element_of (part_runs v.draft.g (spread v.draft.g v.end (marks ws) (map run_size ps)).places ps)))
        → s₄ ≡ write b (elements_bytes w (map (renewed T (length T)) (elements_at w index t.end t.after))) s₃
        → e ≡ b + length (elements_bytes w (elements_at w index t.end t.after))
        → end ≡ new_start v → s₅ ≡ write e (zeros (end - e)) s₄
        → Areas s s₅ o v h body
    areas_written s₁ s₂ s₃ s₄ s₅ a b e end e₁ e₂ ea e₃ eb e₄ ee ef e₅ =
        areas_done o v T (marks ws) h body r s q s₁ s₂ s₃ s₄ s₅ a b e (rw (here, r.table) at e₁) (rw (here, r.table) at e₂) (rw here at ea) e₃ eb (rw (here, r.table) at e₄)
        (rw here at ee)
        (e₅ ∙ ap (λ (k : ℕ). write e (zeros (k - e)) s₄) ef)
