-- What the returns and the turns of the loops show, in the terms of the code.
use Prim.Native.Nat.{ℕ, suc, ◌+◌, ◌-◌, ◌<◌, ◌≤◌}
use mathlib.Core.Path.{◌≡◌, refl, sym, ap, ◌∙◌}
use mathlib.Core.Bool.{Bool, true, false, not}
use mathlib.Core.List.{List, [], ◌∷◌}
use native.Mathlib.Omega.{arith}
use lib.ListN.{length, take, drop, length-drop}
use lib.Dec.{ltb}
use borrow.Author.Rules.{rules}
use borrow.Author.Tests.{lt-ltb, le-ltb, le-leb, lt-leb, not-true, not-false}
use Rattle.spec.specs.Outcome.{Outcome, refused, ok, ◌>>=◌, ◌>>◌, refuse◌when◌, accepted}
use Rattle.spec.specs.Bytes as Bytes
use Rattle.spec.specs.Bytes.{bytes_at, all_zero}
use Rattle.spec.specs.Order.{below_of, HeadwordOrder}
use Rattle.spec.specs.Entry as Entry
use Rattle.spec.specs.Entry.{headword_ok}
use Rattle.spec.specs.Index as Index
use Rattle.spec.specs.Index.{Element, elements_from}
use Rattle.spec.proofs.OutcomeLaws.{accepted_refused}
use Rattle.spec.proofs.OrderLaws.{order_of, above_some}
use Rattle.spec.proofs.PartLaws.{rest_at}
use Rattle.spec.proofs.RunLaws.{headword_by}
use Rattle.scans.specs.Scan.{zero_offset}
use Rattle.index.specs.Elements.{element_end, element_headword, element_at, elements_end, ended, concerned_from, Inside}
use Rattle.index.specs.declared.Place.{Place}
use Rattle.spec.specs.declared.Refusal.{Refusal}
use Rattle.std.specs.Prelude.{Ok, Err}
use Rattle.index.proofs.Laws.{element_then, element_headword_length, element_headword_clear, element_short, element_open, element_read}
use Rattle.index.proofs.Laws.{concerned_here, concerned_later, inside_start, here_end, here_next, end_turn, end_last}

-- ---- element_end
-- the first zero byte behind the number
pub end_found : (w : ℕ) (index : List ℕ) (at r : ℕ) → r ≡ at + w + zero_offset (bytes_at (at + w) (length index - (at + w)) index) → r ≡ element_end w index at
unfolding element_end
end_found w index at r h = rw (rest_at index (at + w) (length index - (at + w)) refl) at h

-- ---- the rules of one element
-- a headword of more than 248 bytes
headword_long : (h : List ℕ) → 248 < length h → headword_ok h ≡ false
unfolding Entry.headword_ok
headword_long h p = rw (le-leb 1 (length h) (omega arith), lt-leb (length h) 248 p)

module _ (below : HeadwordOrder) (prev : List ℕ) (e : Element) (rest : Outcome (List Element)) where
  -- an element by its rules, one with a headword against its rule, and one that does not ascend
  then_taken : headword_ok e.headword ≡ true → below prev e.headword ≡ true → accepted (element_then below prev e rest) ≡ accepted rest
  unfolding element_then accepted
  then_taken p q = rw (p, q) (go rest)
    where
      go : (o : Outcome (List Element)) → accepted (o >>= λ es. ok (e ∷ es)) ≡ accepted o
      go (refused k) = refl
      go (ok es) = refl

  then_long : headword_ok e.headword ≡ false → accepted (element_then below prev e rest) ≡ false
  unfolding element_then accepted
  then_long p = rw p

  then_low : below prev e.headword ≡ false → accepted (element_then below prev e rest) ≡ false
  unfolding element_then accepted
  then_low q = go (headword_ok e.headword) refl
    where
      go : (t : Bool) → headword_ok e.headword ≡ t → accepted (element_then below prev e rest) ≡ false
      go true p = rw (p, q)
      go false p = rw p

-- elements that are not accepted are told to break row 6
pub told_broken : (t : Bool) (e : ℕ) → false ≡ t → Err Refusal.BadIndex ≡ ended t e
unfolding ended
told_broken t e h = rw (← h)

-- elements end where those behind the first of them do
pub end_behind : (w : ℕ) (index : List ℕ) (at left others z r : ℕ) → elements_end w index at left ≡ r → others ≡ left - 1 → z ≡ element_end w index at → 0 < left
    → elements_end w index (z + 1) others ≡ r
end_behind w index at left others z r h k f p = rw k (end_turn w index at left z r h f p)

-- ---- any width of block numbers, any order
module _ (w o : ℕ) where
  -- ---- read_elements: what is left, read behind the headword from `start` up to `end`, is accepted as the whole is
  -- at first all is left
  pub elements_start : (index : List ℕ) (n : ℕ) → accepted (elements_from w (below_of o) n [] index) ≡ accepted (elements_from w (below_of o) n (bytes_at 0 (0 - 0) index) (drop 0 index))
  unfolding Bytes.bytes_at
  elements_start index n = refl

  module _ (index : List ℕ) (n at left start end : ℕ)
      (h : accepted (elements_from w (below_of o) n [] index) ≡ accepted (elements_from w (below_of o) left (bytes_at start (end - start) index) (drop at index)))
    where
      -- fewer than four bytes follow the elements
      pub end_short : left ≤ 0 → length index - at < 4 → false ≡ accepted (elements_from w (below_of o) n [] index)
      unfolding Index.elements_from accepted
      end_short p q =
          let e : left ≡ 0 = omega arith in
          let l : ltb (length (drop at index)) 4 ≡ true = lt-ltb (length (drop at index)) 4 (omega (arith, length-drop at index)) in
          sym (h ∙ rw (e, l))

      -- all that follow are zero, or not
      module _ (p : left ≤ 0) (q : 4 ≤ length index - at) (r : Bool) (t : r ≡ all_zero (bytes_at at (length index - at) index)) where
        zeros_decide : r ≡ accepted (elements_from w (below_of o) n [] index)
        unfolding Index.elements_from accepted
        zeros_decide =
            let e : left ≡ 0 = omega arith in
            let l : ltb (length (drop at index)) 4 ≡ false = le-ltb (length (drop at index)) 4 (omega (arith, length-drop at index)) in
            let z : all_zero (drop at index) ≡ r = sym (rw (rest_at index at (length index - at) refl) at t) in
            sym (h ∙ rw (e, l, z) (go r))
          where
            go : (t : Bool) → accepted {A = List Element} (refuse 6 when not t >> ok []) ≡ t
            go true = refl
            go false = refl

        -- not
        pub end_dirty : not r ≡ true → false ≡ accepted (elements_from w (below_of o) n [] index)
        end_dirty u = sym (not-true r u) ∙ zeros_decide

        -- the elements end here
        pub end_reached : (e : ℕ) → elements_end w index at left ≡ e → not r ≡ false → Ok at ≡ ended (accepted (elements_from w (below_of o) n [] index)) e
        unfolding ended
        end_reached e g u =
            let fine : accepted (elements_from w (below_of o) n [] index) ≡ true = sym zeros_decide ∙ not-false r u in
            rw (fine, ended) (ap Ok (end_last w index at left e g p))

      module _ (more : 0 < left) (wide : 1 ≤ w) where
        again : accepted (elements_from w (below_of o) n [] index) ≡ accepted (elements_from w (below_of o) (suc (left - 1)) (bytes_at start (end - start) index) (drop at index))
        again =
            let e : left ≡ suc (left - 1) = omega arith in
            rw (← e) h

        -- no room for a number
        pub number_cut : length index - at < w → false ≡ accepted (elements_from w (below_of o) n [] index)
        number_cut p =
            sym (again
            ∙ accepted_refused (elements_from w (below_of o) (suc (left - 1)) (bytes_at start (end - start) index) (drop at index))
            6 (element_short w (below_of o) index (bytes_at start (end - start) index) at (left - 1) wide (omega arith)))

        module _ (long : w ≤ length index - at) (z : ℕ) (f : z ≡ element_end w index at) where
          -- no zero byte
          pub zero_missing : length index ≤ z → false ≡ accepted (elements_from w (below_of o) n [] index)
          zero_missing p =
              sym (again
              ∙ accepted_refused (elements_from w (below_of o) (suc (left - 1)) (bytes_at start (end - start) index) (drop at index))
              6 (element_open w (below_of o) index (bytes_at start (end - start) index) at (left - 1) (omega arith) (omega arith)))

          module _ (closed : z < length index) where
            behind : accepted (elements_from w (below_of o) n [] index) ≡ accepted (element_then (below_of o) (bytes_at start (end - start) index)
                (element_at w index at) (elements_from w (below_of o) (left - 1) (element_headword w index at) (drop (element_end w index at + 1) index)))
            behind = again ∙ ap accepted (element_read w (below_of o) index (bytes_at start (end - start) index) at (left - 1) (omega arith) (omega arith))

            size : length (element_headword w index at) ≡ z - (at + w)
            size = rw f (element_headword_length w index at (omega arith))

            -- a headword of more than 248 bytes
            pub headword_over : 248 < z - (at + w) → false ≡ accepted (elements_from w (below_of o) n [] index)
            unfolding element_at
            headword_over p =
                sym (behind
                ∙ then_long (below_of o) (bytes_at start (end - start) index)
                (element_at w index at) (elements_from w (below_of o) (left - 1) (element_headword w index at) (drop (element_end w index at + 1) index))
                (headword_long (element_headword w index at) (omega (arith, size))))

            module _ (b : Bool) (g : b ≡ below_of o (take (end - start) (drop start index)) (take (z - (at + w)) (drop (at + w) index))) where
              order : below_of o (bytes_at start (end - start) index) (element_headword w index at) ≡ b
              unfolding Bytes.bytes_at element_headword
              order = rw (← f) (sym g)

              -- a headword that is not above the one before
              pub headword_low : not b ≡ true → false ≡ accepted (elements_from w (below_of o) n [] index)
              unfolding element_at
              headword_low t =
                  sym (behind
                  ∙ then_low (below_of o) (bytes_at start (end - start) index) (element_at w index at)
                  (elements_from w (below_of o) (left - 1) (element_headword w index at) (drop (element_end w index at + 1) index)) (order ∙ not-true b t))

              -- an element by its rules
              pub element_good : (others : ℕ) → others ≡ left - 1 → z - (at + w) ≤ 248 → not b ≡ false
                  → accepted (elements_from w (below_of o) n [] index) ≡ accepted (elements_from w (below_of o) others (bytes_at (at + w) (z - (at + w)) index) (drop (z + 1) index))
              unfolding element_at element_headword
              element_good others k p t =
                  let up : below_of o (bytes_at start (end - start) index) (element_headword w index at) ≡ true = order ∙ not-false b t in
                  let fine : headword_ok (element_headword w index at) ≡ true = headword_by (element_headword w index at)
                  (above_some (below_of o) (order_of o) (bytes_at start (end - start) index) (element_headword w index at) up) (omega (arith, size))
                  (element_headword_clear w index at) in
                  rw (k, f) (behind
                  ∙ then_taken (below_of o) (bytes_at start (end - start) index)
                  (element_at w index at) (elements_from w (below_of o) (left - 1) (element_headword w index at) (drop (element_end w index at + 1) index)) fine up)

  -- ---- concerned: of what is left the element is that of the whole
  module _ (index h : List ℕ) (p : Place) (at left : ℕ) (s : p ≡ concerned_from w (below_of o) index h at (left - 1)) where
    -- no element follows
    pub concerned_last : left ≤ 1 → 1 ≤ left → record { at = at; left = left } ≡ p
    unfolding concerned_from
    concerned_last u v =
        let e : left ≡ 1 = omega arith in
        sym (s ∙ rw e)

    module _ (end z : ℕ) (more : 1 < left) (f : end ≡ element_end w index at) (g : z ≡ element_end w index (end + 1)) (b : Bool)
        (t : b ≡ below_of o h (take (z - (end + 1 + w)) (drop (end + 1 + w) index))) where
      following : below_of o h (element_headword w index (element_end w index at + 1)) ≡ b
      unfolding Bytes.bytes_at element_headword
      following = rw (← f, ← g) (sym t)

      -- the next headword is above h
      pub concerned_found : b ≡ true → record { at = at; left = left } ≡ p
      concerned_found q =
          let e : left - 1 ≡ suc (left - 2) = omega arith in
          let d : suc (suc (left - 2)) ≡ left = omega arith in
          sym (s ∙ rw e (concerned_here w (below_of o) index h at (left - 2) (following ∙ q) ∙ rw d))

      -- it is not
      pub concerned_turn : b ≡ false → p ≡ concerned_from w (below_of o) index h (end + 1) (left - 1 - 1)
      concerned_turn q =
          let e : left - 1 ≡ suc (left - 1 - 1) = omega arith in
          s ∙ ap (concerned_from w (below_of o) index h at) e ∙ rw f (concerned_later w (below_of o) index h at (left - 1 - 1) (following ∙ q))

  -- the next element
  module _ (index : List ℕ) (at left end : ℕ) (i : Inside w index at left) (more : 1 < left) (f : end ≡ element_end w index at) where
    -- stands inside the index, with those that follow
    pub next_inside : Inside w index (end + 1) (left - 1)
    next_inside = here_next w index at left end i f (omega arith)

    -- has its number
    pub next_start : end + 1 + w ≤ length index
    next_start = inside_start w index (end + 1) (left - 1) next_inside (omega arith)

    -- and its zero byte
    pub next_end : (z : ℕ) → z ≡ element_end w index (end + 1) → z < length index
    next_end z g = here_end w index (end + 1) (left - 1) z next_inside g (omega arith)

-- every need of read_elements, and of concerned
pub ruleset elements_laws = (elements_start, told_broken, end_short, end_dirty, end_reached, number_cut, zero_missing, headword_over, headword_low, rules)

pub ruleset concerned_laws = (inside_start, here_end, next_inside, next_start, next_end, concerned_last, concerned_found, concerned_turn, rules)
