-- The fields of a header as code reads them, what its tests and its frame show, and what it is after stores.
use Rattle.std.specs.Prelude.{Result, Ok, Err}
use Rattle.std.proofs.lemmas.Result.{IfOk-at_ok}
use Rattle.std.proofs.Common.{◌≡◌, ℕ, ◌+◌, ◌-◌, ◌*◌, ◌/◌, ◌%◌, ◌<◌, ◌≤◌, Bool, true, false, not, ◌&&◌, eqb, ltb, List, [], ◌∷◌, ◌++◌, length, get_or, take, drop, sym, refl, ap, ◌∙◌, subst, append-nil, arith, length-drop, take-append-drop, length-take-le, take_all, le-ltb, lt-ltb, eqb-true}
use borrow.Author.Tests.{eqb-false}
use Rattle.spec.specs.Outcome.{refused, ok, accepted}
use Rattle.spec.specs.Bytes.{from_little_endian, to_little_endian, bytes_at, write, zeros}
use Rattle.spec.specs.Header.{
  Layout,
  Format,
  LawfulLayout,
  written_fields,
  Field,
  Setting,
  Counts,
  field_at,
  get,
  put,
  put_all,
  ◌holding◌,
  layout4,
  layout5,
  known_version,
  layout_of,
  format_of,
  format_with,
  high_version_of,
  writable,
  change_settings,
  changed_header,
  empty_image,
  new_image,
  open_header,
  block_position,
}
use Rattle.spec.specs.Check.{Frame, slice_ok, kind_ok, options_ok, frame_from, data_start, index_area, data_area, image_by, image_from}
use Rattle.spec.specs.Rows.{SliceRule}
use Rattle.spec.specs.Lists.{All}
use Rattle.spec.specs.declared.NewFile.{NewFile}
use Rattle.spec.proofs.ListsLaws.{clash}
use Rattle.spec.proofs.BytesLaws.{length_to_little_endian, length_zeros}
use Rattle.spec.proofs.WriteLaws.{length_write, write_left}
use Rattle.spec.proofs.PartLaws.{bytes_at_cons}
use Rattle.spec.proofs.HeaderLaws.{get_take, fields_inside, by_version, by_layout, version_place, known_own}
use Rattle.spec.proofs.OutcomeLaws.{accepted_answer, refused_only}
use Rattle.spec.proofs.StoredHeaderLaws as Stored
use Rattle.spec.proofs.StoredHeaderLaws.{slice_stored}
use Rattle.spec.proofs.ReadLaws.{FrameFits, frame_fits}
use Rattle.header.specs.Form.{layout_named, GoodForm, most_of, format_by, frame_by, index_start, area_start, index_part, data_part}
use Rattle.header.specs.Framed.{framed, FormTold}
use Rattle.header.specs.declared.Form.{Form}
use Rattle.header.specs.Fields.{Fixed, Placed, InHeader}
use Rattle.header.specs.Empty.{size_settings}
use Rattle.spec.specs.Answers.{number_of}
use Rattle.spec.specs.declared.Refusal.{Refusal}
use Rattle.header.specs.declared.FrameFound.{FrameFound}
use Rattle.header.specs.declared.Moved.{Moved}

-- ---- fields
-- a field of n bytes at offset o
pub get_at : (o n : ℕ) (s : List ℕ) → get (field_at o n) s ≡ from_little_endian (bytes_at o n s)
unfolding get field_at
get_at o n s = refl

-- a field of one byte
pub get_byte : (o : ℕ) (s : List ℕ) → o < length s → get (field_at o 1) s ≡ get_or s o 0
unfolding from_little_endian bytes_at
get_byte o s h = get_at o 1 s ∙ ap from_little_endian (bytes_at_cons s o 0 h) ∙ omega arith

-- both versions have these fields at these places
both_fixed : (v : ℕ) → Fixed (layout_of v)
unfolding layout4 layout5
both_fixed =
    by_layout Fixed
    (record {
      version = refl;
      lword = refl;
      ljapa = refl;
      block_size = refl;
      index_block = refl;
      header_size = refl;
      empty_block = refl;
      nword = refl;
      dicorder = refl;
      dictype = refl;
      attrlen = refl;
      update_count = refl;
    })
    (record {
      version = refl;
      lword = refl;
      ljapa = refl;
      block_size = refl;
      index_block = refl;
      header_size = refl;
      empty_block = refl;
      nword = refl;
      dicorder = refl;
      dictype = refl;
      attrlen = refl;
      update_count = refl;
    })

-- the version of an image, which names its layout
abbrev version_of : List ℕ → ℕ
version_of s = high_version_of layout4 s

-- the layout that a header names, and the places of its fields
module _ (s : List ℕ) where
  pub named : layout_named s ≡ layout_of (version_of s)
  unfolding format_of format_with
  named = refl

  fixed : Fixed (layout_named s)
  fixed = subst Fixed (sym named) (both_fixed (version_of s))

-- the moved fields by the version: version 5 has them at its places, every other at version 4's
pub places_moved : (v : ℕ) → v ≡ 5
    → Placed (layout_of v) (record { os = 167; index_blkbit = 182; extheader = 184; empty_block2 = 188; nindex2 = 192; nblock2 = 196 })
unfolding layout4 layout5
places_moved v e =
    by_version v (λ o. Placed o (record { os = 167; index_blkbit = 182; extheader = 184; empty_block2 = 188; nindex2 = 192; nblock2 = 196 }))
    (λ f. absurd (eqb-false v 5 f e)) (λ t. record { os = refl; index_blkbit = refl; extheader = refl; empty_block2 = refl; nindex2 = refl; nblock2 = refl })

pub places_kept : (v : ℕ) → (v ≡ 5 → ⊥)
    → Placed (layout_of v) (record { os = 171; index_blkbit = 198; extheader = 182; empty_block2 = 186; nindex2 = 190; nblock2 = 194 })
unfolding layout4 layout5
places_kept v n =
    by_version v (λ o. Placed o (record { os = 171; index_blkbit = 198; extheader = 182; empty_block2 = 186; nindex2 = 190; nblock2 = 194 }))
    (λ f. record { os = refl; index_blkbit = refl; extheader = refl; empty_block2 = refl; nindex2 = refl; nblock2 = refl }) (λ t. absurd (n (eqb-true v 5 t)))

-- the version as code reads it
pub version_read : (s : List ℕ) (v : ℕ) → v ≡ from_little_endian (bytes_at 140 2 s) → v / 256 ≡ version_of s
unfolding high_version_of layout4
version_read s v h = rw (get_at 140 2 s, ← h)

-- the places by the version that was read
pub places_named : (s : List ℕ) (v : ℕ) (m : Moved) → v ≡ version_of s → Placed (layout_of v) m → Placed (layout_named s) m
places_named s v m h p = subst (λ (o : Layout). Placed o m) (ap layout_of h ∙ sym (named s)) p

-- a field by its place
get_field : (f : Field) (a n : ℕ) → f ≡ field_at a n → (s : List ℕ) → get f s ≡ from_little_endian (bytes_at a n s)
get_field f a n e s = rw e (get_at a n s)

-- the fields of four bytes that are answered
module _ (s : List ℕ) (r : ℕ) where
  pub read_nword : r ≡ from_little_endian (bytes_at 160 4 s) → r ≡ get (layout_named s).nword s
  read_nword h = h ∙ sym (get_field _ 160 4 (fixed s).nword s)

  module _ (m : Moved) (p : Placed (layout_named s) m) where
    pub read_nindex2 : r ≡ from_little_endian (bytes_at m.nindex2 4 s) → r ≡ get (layout_named s).nindex2 s
    read_nindex2 h = h ∙ sym (get_field _ m.nindex2 4 p.nindex2 s)

    pub read_nblock2 : r ≡ from_little_endian (bytes_at m.nblock2 4 s) → r ≡ get (layout_named s).nblock2 s
    read_nblock2 h = h ∙ sym (get_field _ m.nblock2 4 p.nblock2 s)

    pub read_empty_block2 : r ≡ from_little_endian (bytes_at m.empty_block2 4 s) → r ≡ get (layout_named s).empty_block2 s
    read_empty_block2 h = h ∙ sym (get_field _ m.empty_block2 4 p.empty_block2 s)

-- ---- row 3, field by field: version, block_size, header_size, attrlen
module _ (s : List ℕ) where
  -- the row's tests as code makes them
  pub kind_tests : 256 ≤ length s
      → kind_ok (layout_named s) s
      ≡ known_version (version_of s) && eqb (from_little_endian (bytes_at 146 2 s)) 256 && eqb (from_little_endian (bytes_at 150 2 s)) 256 && eqb (get_or s 166 0) 1
  unfolding kind_ok
  kind_tests l =
      let v : ℕ = version_of s in
      let tested : eqb (high_version_of (layout_named s) s) (layout_named s).high_version ≡ known_version v
      = rw (named s, version_place v s) (sym (known_own v)) in
      rw (
        tested,
        get_field _ 146 2 (fixed s).block_size s,
        get_field _ 150 2 (fixed s).header_size s,
        (fixed s).attrlen,
        get_byte 166 s (omega arith),
      )

-- ---- row 4, field by field: dicorder, dictype, os, index_blkbit, extheader
module _ (s : List ℕ) (l : 256 ≤ length s) (m : Moved) (p : Placed (layout_named s) m) (q : InHeader m) where
  -- the row's tests as code makes them
  pub options_tests : options_ok (layout_named s) s
      ≡ eqb (get_or s 164 0) 0 && eqb (get_or s 165 0) 0 && eqb (get_or s m.os 0) 0 && eqb (get_or s m.index_blkbit 0) 0 && eqb (from_little_endian (bytes_at m.extheader 4 s)) 0
  unfolding options_ok
  options_tests =
      rw (
        (fixed s).dicorder,
        (fixed s).dictype,
        p.os,
        p.index_blkbit,
        get_byte 164 s (omega arith),
        get_byte 165 s (omega arith),
        get_byte m.os s (omega (arith, q.0)),
        get_byte m.index_blkbit s (omega (arith, q.1)),
        get_field _ m.extheader 4 p.extheader s,
      )

-- ---- rows 3 to 5 as `frame` takes them: kind, options, too many index blocks, index past the end, too many data blocks, none of these
module _ (s : List ℕ) (k : Bool) (ke : k ≡ kind_ok (layout_named s) s) where
  pub frame_kind : not k ≡ true → framed (layout_named s) (Err Refusal.BadVersion) ≡ frame_from (format_of s) s
  unfolding framed number_of frame_from format_of format_with
  frame_kind h = rw (← ke, h)

  module _ (kt : not k ≡ false) (o : Bool) (oe : o ≡ options_ok (layout_named s) s) where
    pub frame_options : not o ≡ true → framed (layout_named s) (Err Refusal.LeftOut) ≡ frame_from (format_of s) s
    unfolding framed number_of frame_from format_of format_with
    frame_options h = rw (← ke, kt, ← oe, h)

    module _ (ot : not o ≡ false) (n : ℕ) (ne : n ≡ from_little_endian (bytes_at 148 2 s)) where
      -- the number of index blocks as code reads it
      got : get (layout_named s).index_block s ≡ n
      got = get_field _ 148 2 (fixed s).index_block s ∙ sym ne

      pub frame_index : 32767 < n → framed (layout_named s) (Err Refusal.BadAreas) ≡ frame_from (format_of s) s
      unfolding framed number_of frame_from format_of format_with
      frame_index h = rw (← ke, kt, ← oe, ot, got, lt-ltb 32767 n h)

      module _ (nt : n ≤ 32767) (start : ℕ) (at : start ≡ block_position 0 n 0) where
        pub frame_past : length s < start → framed (layout_named s) (Err Refusal.BadAreas) ≡ frame_from (format_of s) s
        unfolding framed number_of frame_from format_of format_with
        frame_past h = rw (← ke, kt, ← oe, ot, got, le-ltb 32767 n nt, ← at, lt-ltb (length s) start h)

        module _ (lt : start ≤ length s) where
          pub frame_data : 65536 < (length s - start) / 256 → framed (layout_named s) (Err Refusal.BadAreas) ≡ frame_from (format_of s) s
          unfolding framed number_of frame_from format_of format_with
          frame_data h = rw (← ke, kt, ← oe, ot, got, le-ltb 32767 n nt, ← at, le-ltb (length s) start lt, lt-ltb 65536 ((length s - start) / 256) h)

          pub frame_whole : (length s - start) / 256 ≤ 65536
              → framed (layout_named s) (Ok (record { form = record { extended = 0; width = 2; order = 0; limit = 1_024 }; index = n; «data» = (length s - start) / 256 })) ≡ frame_from (format_of s) s
          unfolding framed number_of frame_from format_of format_with
          frame_whole h = rw (← ke, kt, ← oe, ot, got, le-ltb 32767 n nt, ← at, le-ltb (length s) start lt, le-ltb 65536 ((length s - start) / 256) h)

-- a refusal tells no form, and the one form of document 01 is one that the code takes
pub no_form : (r : Refusal) → FormTold (Err r)
no_form r f e = clash cc

pub one_form : (n d : ℕ) → FormTold (Ok (record { form = record { extended = 0; width = 2; order = 0; limit = 1_024 }; index = n; «data» = d }))
one_form n d f e = IfOk-at_ok (λ (g : FrameFound). GoodForm g.form) e ((omega arith, omega arith, refl), omega arith, omega arith, refl)

-- ---- row 11
-- the low byte of the version
pub version_writable : (s : List ℕ) (v : ℕ) → v ≡ from_little_endian (bytes_at 140 2 s) → ltb (v % 256) 16 ≡ writable (layout_named s) s
unfolding writable
version_writable s v e = rw (get_field _ 140 2 (fixed s).version s, ← e)

-- ---- stores
-- one more update
pub update_raised : (s : List ℕ) (n r : ℕ) → n ≡ from_little_endian (bytes_at 208 4 s) → r ≡ (n + 1) % 4294967296 → r ≡ (get (layout_named s).update_count s + 1) % 4294967296
update_raised s n r e p = p ∙ rw (e, get_field _ 208 4 (fixed s).update_count s)

-- a store at a field's place is the field put
put_field : (f : Field) (a n : ℕ) → f ≡ field_at a n → (x : ℕ) (s : List ℕ) → write a (to_little_endian n x) s ≡ put f x s
unfolding put field_at
put_field f a n e x s = rw e

-- the six stores of a change
pub counts_stored : (s s₁ s₂ s₃ s₄ s₅ s₆ : List ℕ) (m : Moved) (index words first elements blocks update : ℕ)
    → Placed (layout_named s) m
    → update ≡ (get (layout_named s).update_count s + 1) % 4294967296
    → s₁ ≡ write 208 (to_little_endian 4 update) s
    → s₂ ≡ write m.nblock2 (to_little_endian 4 blocks) s₁
    → s₃ ≡ write m.nindex2 (to_little_endian 4 elements) s₂
    → s₄ ≡ write m.empty_block2 (to_little_endian 4 first) s₃
    → s₅ ≡ write 160 (to_little_endian 4 words) s₄
    → s₆ ≡ write 148 (to_little_endian 2 index) s₅
    → s₆ ≡ changed_header (layout_named s) (record { index_blocks = index; entries = words; first_free = first; elements = elements; run_blocks = blocks }) s
unfolding changed_header change_settings put_all ◌holding◌
counts_stored s s₁ s₂ s₃ s₄ s₅ s₆ m index words first elements blocks update p e p₁ p₂ p₃ p₄ p₅ p₆ =
    rw (
      p₆,
      put_field _ 148 2 (fixed s).index_block index s₅,
      p₅,
      put_field _ 160 4 (fixed s).nword words s₄,
      p₄,
      put_field _ m.empty_block2 4 p.empty_block2 first s₃,
      p₃,
      put_field _ m.nindex2 4 p.nindex2 elements s₂,
      p₂,
      put_field _ m.nblock2 4 p.nblock2 blocks s₁,
      p₁,
      put_field _ 208 4 (fixed s).update_count update s,
      e,
    )

-- the five stores of the empty image's sizes
pub sizes_stored : (v n : ℕ) (s s₁ s₂ s₃ s₄ s₅ : List ℕ)
    → n ≡ v
    → known_version v ≡ true
    → s₁ ≡ write 150 (to_little_endian 2 256) s
    → s₂ ≡ write 146 (to_little_endian 2 256) s₁
    → s₃ ≡ write 144 (to_little_endian 2 3000) s₂
    → s₄ ≡ write 142 (to_little_endian 2 248) s₃
    → s₅ ≡ write 140 (to_little_endian 2 (256 * n)) s₄
    → s₅ ≡ put_all (size_settings (layout_of v)) s
unfolding put_all ◌holding◌ size_settings
sizes_stored v n s s₁ s₂ s₃ s₄ s₅ e k p₁ p₂ p₃ p₄ p₅ =
    let f : Fixed (layout_of v) = both_fixed v in
    let own : (layout_of v).high_version ≡ v = sym (eqb-true v _ (sym (known_own v) ∙ k)) in
    rw (
      p₅,
      e,
      put_field _ 140 2 f.version (256 * v) s₄,
      p₄,
      put_field _ 142 2 f.lword 248 s₃,
      p₃,
      put_field _ 144 2 f.ljapa 3000 s₂,
      p₂,
      put_field _ 146 2 f.block_size 256 s₁,
      p₁,
      put_field _ 150 2 f.header_size 256 s,
      own,
    )

-- the identifier stored, and none to store
pub identifier_stored : (v x : ℕ) (s s₁ : List ℕ) → v ≡ 5 → s₁ ≡ write 216 (to_little_endian 8 x) s → s₁ ≡ put (layout_of v).identifier x s
unfolding put layout5 field_at
identifier_stored v x s s₁ e p = p ∙ by_version v (λ o. write 216 (to_little_endian 8 x) s ≡ put o.identifier x s) (λ f. absurd (eqb-false v 5 f e)) (λ t. refl)

pub identifier_none : (v x : ℕ) (s : List ℕ) → (v ≡ 5 → ⊥) → s ≡ put (layout_of v).identifier x s
unfolding put layout4 field_at write to_little_endian
identifier_none v x s n =
    by_version v (λ o. s ≡ put o.identifier x s) (λ f. sym (rw (append-nil (take 216 s)) (take-append-drop 216 s))) (λ t. absurd (n (eqb-true v 5 t)))

-- bytes written from 0 on
write_start : (x t : List ℕ) → write 0 x t ≡ x ++ drop (length x) t
unfolding write
write_start x t =
    let e : 0 + length x ≡ length x = omega arith in
    rw e

-- settings that lie inside n bytes
abbrev Inside : ℕ → List Setting → Type 0
Inside n ws = All (λ w. w.field.offset + w.field.bytes ≤ n) ws

-- settings made inside the first of two lists
put_all_front : (ws : List Setting) (x t : List ℕ) → Inside (length x) ws → (length (put_all ws x) ≡ length x) × (put_all ws (x ++ t) ≡ put_all ws x ++ t)
unfolding put_all put
put_all_front [] x t h = (refl, refl)
put_all_front (w ∷ ws) x t (h, hs) =
    let (l, e) = put_all_front ws x t hs in
    let y : List ℕ = to_little_endian w.field.bytes w.holds in
    let k : length y ≡ w.field.bytes = length_to_little_endian w.field.bytes w.holds in
    let f : w.field.offset + length y ≤ length (put_all ws x) = omega arith in
    (length_write w.field.offset y (put_all ws x) f ∙ l, ap (write w.field.offset y) e ∙ write_left w.field.offset y (put_all ws x) t f)

-- settings made inside bytes written from 0 on
put_all_inside : (ws : List Setting) (x t : List ℕ) → Inside (length x) ws → put_all ws (write 0 x t) ≡ write 0 (put_all ws x) t
put_all_inside ws x t h =
    let (l, e) = put_all_front ws x (drop (length x) t) h in
    ap (put_all ws) (write_start x t) ∙ e ∙ ap (λ (k : ℕ). put_all ws x ++ drop k t) (sym l) ∙ sym (write_start (put_all ws x) t)

-- the settings of the empty image
abbrev empty_settings : Layout → ℕ → List Setting
empty_settings o ident =
    size_settings o ++ o.attrlen holding 1 ∷ o.empty_block holding 0xFFFF ∷ o.empty_block2 holding 0xFFFFFFFF ∷ o.identifier holding ident ∷ []

-- they lie inside 256 bytes
empty_inside : (v ident n : ℕ) → n ≡ 256 → Inside n (empty_settings (layout_of v) ident)
unfolding open_header size_settings
empty_inside v ident n e =
    by_layout (λ o. Inside n (empty_settings o ident))
    (omega arith, (omega arith, (omega arith, (omega arith, (omega arith, (omega arith, (omega arith, (omega arith, (omega arith, tt)))))))))
    (omega arith, (omega arith, (omega arith, (omega arith, (omega arith, (omega arith, (omega arith, (omega arith, (omega arith, tt)))))))))
    v

-- the stores of the empty image
pub empty_stored : (k : NewFile) (v : ℕ) (m : Moved) (s s₁ s₂ s₃ s₄ s₅ s₆ : List ℕ)
    → v ≡ k.version
    → Placed (layout_of v) m
    → s₁ ≡ write 0 (zeros 256) s
    → s₂ ≡ put (layout_of v).identifier k.identifier s₁
    → s₃ ≡ write m.empty_block2 (to_little_endian 4 4294967295) s₂
    → s₄ ≡ write 154 (to_little_endian 2 65535) s₃
    → s₅ ≡ write 166 (1 ∷ []) s₄
    → s₆ ≡ put_all (size_settings (layout_of k.version)) s₅
    → s₆ ≡ write 0 (new_image k) s
unfolding new_image empty_image put_all ◌holding◌ size_settings to_little_endian
empty_stored k v m s s₁ s₂ s₃ s₄ s₅ s₆ e p p₁ p₂ p₃ p₄ p₅ p₆ =
    let f : Fixed (layout_of v) = both_fixed v in
    let e₅ : s₅ ≡ put (layout_of v).attrlen 1 s₄ = p₅ ∙ put_field _ 166 1 f.attrlen 1 s₄ in
    let e₄ : s₄ ≡ put (layout_of v).empty_block 0xFFFF s₃ = p₄ ∙ put_field _ 154 2 f.empty_block 0xFFFF s₃ in
    let e₃ : s₃ ≡ put (layout_of v).empty_block2 0xFFFFFFFF s₂ = p₃ ∙ put_field _ m.empty_block2 4 p.empty_block2 0xFFFFFFFF s₂ in
    rw (p₆, ← e, e₅, e₄, e₃, p₂, p₁) (put_all_inside (empty_settings (layout_of v) k.identifier) (zeros 256) s (empty_inside v k.identifier (length (zeros 256)) (length_zeros 256)))

-- the settings of a change lie inside the header
change_inside : (o : Layout) → LawfulLayout o → (c : Counts) (s : List ℕ) (n : ℕ) → 256 ≤ n → Inside n (change_settings o c s)
unfolding change_settings written_fields ◌holding◌
change_inside o law c s n h =
    let (a₀, (a₁, (a₂, (a₃, (a₄, (a₅, _)))))) = fields_inside (written_fields o) law.written_inside in
    (omega arith, (omega arith, (omega arith, (omega arith, (omega arith, (omega arith, tt))))))

-- and are those by its bytes
same_settings : (o : Layout) → LawfulLayout o → (c : Counts) (s : List ℕ) (n : ℕ) → 256 ≤ n → change_settings o c s ≡ change_settings o c (take n s)
unfolding change_settings written_fields
same_settings o law c s n h =
    let inside = fields_inside (written_fields o) law.written_inside in
    rw (get_take o.update_count n s (omega (arith, inside.1.1.1.1.1.0)))

-- ---- for callers
-- a change writes only in the header, however many bytes stand in front of the index
pub header_front : (o : Layout) → LawfulLayout o → (c : Counts) (s : List ℕ) (n : ℕ) → 256 ≤ n → n ≤ length s → changed_header o c s ≡ changed_header o c (take n s) ++ drop n s
unfolding changed_header
header_front o law c s n least h =
    let l : length (take n s) ≡ n = length-take-le n s h in
    ap (λ (ws : List Setting). put_all ws s) (same_settings o law c s n least)
    ∙ ap (put_all (change_settings o c (take n s))) (sym (take-append-drop n s))
    ∙ (put_all_front (change_settings o c (take n s)) (take n s) (drop n s) (change_inside o law c (take n s) (length (take n s)) (omega arith))).1

-- the first L bytes of a slice
module _ (s : List ℕ) (L : ℕ) where
  -- where it is no image, row 1 is broken
  pub slice_refused : accepted (slice_ok s L) ≡ false → slice_ok s L ≡ refused 1
  slice_refused h = refused_only 1 (slice_ok s L) (Stored.slice_refused s L) h

  module _ (h : accepted (slice_ok s L) ≡ true) where
    -- where it may be one, row 1 is kept
    pub slice_accepted : slice_ok s L ≡ ok tt
    slice_accepted = (accepted_answer (slice_ok s L) h).is

    rule : SliceRule s L
    rule = (slice_stored s L).0 slice_accepted

    -- it has a header,
    pub slice_has_header : 256 ≤ L
    slice_has_header = rule.long_enough

    -- is whole blocks,
    pub slice_in_blocks : L % 256 ≡ 0
    slice_in_blocks = rule.whole_blocks

    -- and lies in the slice
    pub slice_holds : L ≤ length s
    slice_holds = rule.in_slice

-- the version, and so the layout that a header names, stands in its first 256 bytes
front_version : (s : List ℕ) → version_of s ≡ version_of (take 256 s)
unfolding high_version_of layout4 field_at
front_version s = rw (get_take layout4.version 256 s (omega arith))

pub layout_kept : (s t : List ℕ) → take 256 s ≡ take 256 t → layout_named s ≡ layout_named t
layout_kept s t h = named s ∙ ap layout_of (front_version s ∙ ap version_of h ∙ sym (front_version t)) ∙ sym (named t)

-- what an answer of `frame` tells
module _ (s : List ℕ) (r : Result FrameFound Refusal) (e : framed (layout_named s) r ≡ frame_from (format_of s) s) where
  -- a refusal is that of rows 3 to 5
  pub frame_refused : (k : Refusal) → r ≡ Err k → frame_from (format_of s) s ≡ refused (number_of k)
  unfolding framed
  frame_refused k h = sym (rw h at e)

  -- form and numbers of blocks are the frame's
  pub frame_read : (f : FrameFound) → r ≡ Ok f → frame_from (format_of s) s ≡ ok (frame_by (layout_named s) f.form f.index f.«data»)
  unfolding framed
  frame_read f h = sym (rw h at e)

-- what a frame of n index blocks and d data blocks tells of its image
module _ (s : List ℕ) (f : Form) (n d : ℕ) (read : frame_from (format_of s) s ≡ ok (frame_by (layout_named s) f n d)) where
  fits : FrameFits (format_of s) s (frame_by (layout_named s) f n d)
  fits = frame_fits (format_of s) s (frame_by (layout_named s) f n d) read

  -- its format is the one of this form,
  pub frame_format : format_of s ≡ format_by (layout_named s) f
  frame_format = sym (ap (λ (g : Frame). g.format) fits.is)

  -- by which the frame and the image are read,
  pub frame_by_form : frame_from (format_by (layout_named s) f) s ≡ ok (frame_by (layout_named s) f n d)
  frame_by_form = subst (λ (F : Format). frame_from F s ≡ ok (frame_by (layout_named s) f n d)) frame_format read

  pub image_by_form : image_from s ≡ image_by (format_by (layout_named s) f) s
  unfolding image_from
  image_by_form = ap (λ (F : Format). image_by F s) frame_format

  -- it has at most 32,767 index blocks,
  pub frame_index_few : n ≤ 32767
  frame_index_few = fits.index_few

  -- which lie in the image,
  pub frame_index_inside : area_start f n ≤ length s
  frame_index_inside = subst (λ (F : Format). block_position F.extended n 0 ≤ length s) frame_format fits.index_inside

  -- no more data blocks than row 5 allows,
  pub frame_data_few : d ≤ most_of f.width
  frame_data_few = subst (λ (F : Format). d ≤ F.most_blocks) frame_format fits.data_few

  -- and these are all that follows
  pub frame_length_is : length s % 256 ≡ 0 → f.extended % 256 ≡ 0 → block_position f.extended n d ≡ length s
  frame_length_is w x =
      let k : d ≡ (length s - area_start f n) / 256 = subst (λ (F : Format). d ≡ (length s - block_position F.extended n 0) / 256) frame_format fits.data_are in
      omega (arith, frame_index_inside)

-- the index area as code takes it
pub index_slice : (o : Layout) (f : Form) (s : List ℕ) (n d : ℕ) → index_area (frame_by o f n d) s ≡ index_part f s n
unfolding index_area bytes_at
index_slice o f s n d = let e : 256 * n ≡ area_start f n - index_start f = omega arith in ap (λ (k : ℕ). take k (drop (index_start f) s)) e

-- the data area as code takes it
pub data_slice : (o : Layout) (f : Form) (s : List ℕ) (n d : ℕ) → data_area (frame_by o f n d) s ≡ data_part f s n
unfolding data_area data_start
data_slice o f s n d = sym (take_all (length s - area_start f n) (drop (area_start f n) s) (omega (arith, length-drop (area_start f n) s)))
