-- What an image means, and why it is refused. Document 01, "Where each refusal is given", rows 1 to 10 in their order.
use Rattle.std.specs.Prelude.{ℕ, ◌+◌, ◌-◌, ◌*◌, ◌/◌, ◌%◌, Bool, true, not, ◌&&◌, ◌||◌, List, [], ◌∷◌, ◌++◌, length, take, drop, ltb, eqb}
use Rattle.std.proofs.Math.Option.{Option, none, some}
use Rattle.spec.specs.Order.{HeadwordOrder}
use Rattle.spec.specs.Outcome.{Outcome, refused, ok, ◌>>=◌, ◌>>◌, refuse◌when◌}
use Rattle.spec.specs.Bytes.{from_little_endian, bytes_at, bytes_equal}
use Rattle.spec.specs.Header.{Layout, Format, format_of, header_bytes, block_position, get, high_version_of}
use Rattle.spec.specs.Entry.{Entry}
use Rattle.spec.specs.Run.{Run, read_entry, entries_from}
use Rattle.spec.specs.Index.{Element, index_from}
use Rattle.spec.specs.Blocks.{free_list_from, each_once, run_blocks}

-- what the header tells: the file's format, its index blocks, and D
pub record Frame : Type 0 where
  pub format : Format
  pub index_blocks : ℕ
  pub data_blocks : ℕ

-- an accepted image: its frame, its runs in index order, and its free list
pub record Image : Type 0 where
  pub frame : Frame
  pub runs : List Run
  pub free_list : List ℕ

-- the position of block b in a file of that frame
abbrev pub position_in : Frame → ℕ → ℕ
position_in f b = block_position f.format.extended f.index_blocks b

-- bytes in front of the data blocks: the position of the first
unfoldable pub data_start : Frame → ℕ
data_start f = position_in f 0

-- "After the header come index_block blocks of 256 bytes, …"
unfoldable pub index_area : Frame → List ℕ → List ℕ
index_area f s = bytes_at (header_bytes f.format) (256 * f.index_blocks) s

-- "… then D data blocks numbered from 0."
unfoldable pub data_area : Frame → List ℕ → List ℕ
data_area f s = drop (data_start f) s

-- "L = 256 × (1 + index_block + D).": the position of block D
unfoldable pub frame_length : Frame → ℕ
frame_length f = position_in f f.data_blocks

-- all entries of runs, in index order
unfoldable pub all_entries : List Run → List Entry
all_entries [] = []
all_entries (r ∷ rs) = r.entries ++ all_entries rs

-- the entries that an image means
unfoldable pub entries_of : Image → List Entry
entries_of i = all_entries i.runs

-- row 1: "L under 256, no multiple of 256, or over the slice"
unfoldable pub slice_ok : List ℕ → ℕ → Outcome (Unit {0})
slice_ok s L = refuse 1 when (ltb L 256 || not (eqb (L % 256) 0) || ltb (length s) L)

-- row 2: "working slice shorter than the image slice"
unfoldable pub work_ok : List ℕ → List ℕ → Outcome (Unit {0})
work_ok s work = refuse 2 when ltb (length work) (length s)

-- row 3: "high version byte, block_size, header_size or attrlen wrong"
unfoldable pub kind_ok : Layout → List ℕ → Bool
kind_ok o s = eqb (high_version_of o s) o.high_version && eqb (get o.block_size s) 256 && eqb (get o.header_size s) 256 && eqb (get o.attrlen s) 1

-- row 4: "dicorder, dictype, os, index_blkbit or extheader not 0"
unfoldable pub options_ok : Layout → List ℕ → Bool
options_ok o s = eqb (get o.dicorder s) 0 && eqb (get o.dictype s) 0 && eqb (get o.os s) 0 && eqb (get o.index_blkbit s) 0 && eqb (get o.extheader s) 0

-- the frame of an image in all bytes of s, by its format: rows 3 to 5. Row 5: "index_block over 32,767 or past L; D over 65,536"
unfoldable pub frame_from : Format → List ℕ → Outcome Frame
frame_from F s = do
  refuse 3 when not (kind_ok F.layout s)
  refuse 4 when not (options_ok F.layout s)
  let n = get F.layout.index_block s
  refuse 5 when (ltb 32_767 n || ltb (length s) (block_position F.extended n 0))
  let D = (length s - block_position F.extended n 0) / 256
  refuse 5 when ltb F.most_blocks D
  ok (record { format = F; index_blocks = n; data_blocks = D })

-- a run's first entry and the bytes behind it: "A run has at least one entry"; "the first is its element's"
unfoldable pub first_entry : HeadwordOrder → List ℕ → List ℕ → Outcome (Entry × List ℕ)
first_entry below h s = do
  r ← read_entry below [] s
  elim r [
    | none ↦ refused 8
    | some p ↦ do
      refuse 8 when not (bytes_equal p.0.headword h)
      ok p
  ]

-- "the last is below the next element's"
unfoldable pub ends_below : HeadwordOrder → Option (List ℕ) → List Entry → Bool
ends_below below next [] = true
ends_below below none (e ∷ []) = true
ends_below below (some h) (e ∷ []) = below e.headword h
ends_below below next (e ∷ d ∷ es) = ends_below below next (d ∷ es)

-- the run of an index element, in the bytes of D data blocks, before a run with the headword next.
-- Row 7: "number not below D, size 0, top bit set, or run past the data area". Row 8: "an entry rule or run rule broken".
unfoldable pub run_from : HeadwordOrder → ℕ → List ℕ → Element → Option (List ℕ) → Outcome Run
run_from below D area e next = do
  refuse 7 when not (ltb e.block D)
  let size = from_little_endian (bytes_at (256 * e.block) 2 area)
  refuse 7 when eqb size 0
  refuse 7 when ltb 32_767 size
  refuse 7 when ltb D (e.block + size)
  let bytes = bytes_at (256 * e.block) (256 * size) area
  p ← first_entry below e.headword (drop 2 bytes)
  es ← entries_from below (length bytes) p.0.headword p.1
  refuse 8 when not (ends_below below next (p.0 ∷ es))
  ok (record { headword = e.headword; block = e.block; size = size; bytes = bytes; entries = p.0 ∷ es })

-- the headword of the next element, if there is one
unfoldable pub next_headword : List Element → Option (List ℕ)
next_headword [] = none
next_headword (e ∷ es) = some e.headword

-- "rows 7 and 8 are taken run by run in index order: both for one run, then both for the next"
unfoldable pub runs_from : HeadwordOrder → ℕ → List ℕ → List Element → Outcome (List Run)
runs_from below D area [] = ok []
runs_from below D area (e ∷ es) = do
  r ← run_from below D area e (next_headword es)
  rs ← runs_from below D area es
  ok (r ∷ rs)

-- row 10: "nword or nblock2 wrong"
unfoldable pub counts_ok : Layout → List ℕ → List Run → Bool
counts_ok o s rs = eqb (get o.nword s) (length (all_entries rs)) && eqb (get o.nblock2 s) (run_blocks rs)

-- the image in all bytes of s, by its format: rows 3 to 10
unfoldable pub image_by : Format → List ℕ → Outcome Image
image_by F s = do
  f ← frame_from F s
  let D = f.data_blocks
  es ← index_from F.number_width F.below f.index_blocks (get F.layout.nindex2 s) (index_area f s)
  rs ← runs_from F.below D (data_area f s) es
  fl ← free_list_from D D (get F.layout.empty_block2 s) (data_area f s)
  refuse 9 when not (each_once D rs fl)
  refuse 10 when not (counts_ok F.layout s rs)
  ok (record { frame = f; runs = rs; free_list = fl })

-- the image in all bytes of s: rows 3 to 10
unfoldable pub image_from : List ℕ → Outcome Image
image_from s = image_by (format_of s) s

-- "An image is the first L bytes of a lent slice": rows 1 and 3 to 10
unfoldable pub image_in : List ℕ → ℕ → Outcome Image
image_in s L = do
  slice_ok s L
  image_from (take L s)

-- names all definitions of this module: who unfolds it unfolds them
unfoldable pub open_check : Unit {0}
unfolding data_start index_area data_area frame_length all_entries entries_of slice_ok work_ok kind_ok options_ok frame_from first_entry ends_below run_from
    next_headword runs_from counts_ok image_by image_from image_in
open_check = tt
