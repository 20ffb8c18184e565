-- Cases of our own beside document 01's examples: rows with literal answers and literal bytes for every call, every refusal and both kinds of file.
use Rattle.std.specs.Prelude.{ℕ, Bool, true, false, ◌&&◌, List, [], ◌∷◌, ◌++◌, map, length, take, replicate, T, eqb}
use Rattle.std.specs.Prelude.{Some, None, Ok, Err}
use Rattle.spec.specs.declared.Refusal.{Refusal}
use Rattle.spec.specs.Ascii.{ascii}
use Rattle.spec.specs.Lists.{all}
use Rattle.spec.specs.Bytes.{bytes_at, bytes_equal, zeros}
use Rattle.spec.specs.Header.{new_image, format_of, header_bytes, block_position}
use Rattle.spec.specs.Entry.{Entry, entry_of, shared_front}
use Rattle.spec.specs.Run.{Run, entries_bytes, encoded_size}
use Rattle.spec.specs.Check.{image_in}
use Rattle.spec.specs.Place.{Grown, cut, grown}
use Rattle.spec.specs.Calls.{create, check, look_up, walk}
use Rattle.spec.specs.Answers.{number_of, length_answer, check_answer, look_up_answer, walk_answer, delete_answer, code, code_or_absent, lent_number, lent_number_or_absent, open_answers}
use Rattle.spec.specs.Listing.{listing, column}
use Rattle.spec.specs.CallRows.{change_numbers}
use Rattle.spec.specs.declared.NewFile.{NewFile}
use Rattle.spec.specs.Play.{t, refusal, lent, Step, ins, ins_as, del, opt, store, State, play, step, step_with, file4, file5, empty, told_length, told_removed, told_figures, told_text, told_entry, index_blocks_of, runs_at, free_at}

-- What is seen of a slice with an image in it. An answer is told as numbers: a refusal as `refusal` writes it, nothing for absent.
pub data Probe : Type 0 where
  -- the same after one more step
  stepped : Step → Probe → Probe
  -- the same with another L
  with_length : ℕ → Probe → Probe
  -- check with this L: headwords, index blocks, data blocks, free blocks
  checks : ℕ → List ℕ → Probe
  -- headword and output slice; attribute and text length, and the output slice then
  looks_up : List ℕ → List ℕ → List ℕ → List ℕ → Probe
  -- above, headword and output slices; attribute and both lengths, and the output slices then
  walks : Bool → List ℕ → List ℕ → List ℕ → List ℕ → List ℕ → List ℕ → Probe
  -- with this working slice a step answers so, leaves the image slice as it was, and the working slice so
  keeps : List ℕ → Step → List ℕ → List ℕ → Probe
  -- with this working slice a step answers so, and leaves the working slice so
  works : List ℕ → Step → List ℕ → List ℕ → Probe
  -- the last answer, the index blocks, the runs' blocks and the free blocks
  lays_out : List ℕ → ℕ → List ℕ → List ℕ → Probe
  -- these bytes stand in the slice from this offset on
  stores : ℕ → List ℕ → Probe
  -- the program prints these bytes
  prints : List ℕ → Probe

-- whether a slice with an image is seen so
unfoldable pub probe_holds : State → Probe → Bool
probe_holds q (stepped c p) = probe_holds (step q c) p
probe_holds q (with_length n p) = probe_holds (record { slice = q.slice; L = n; told = q.told; work = q.work }) p
probe_holds q (checks L told) = bytes_equal (told_figures (check q.slice L)) told
probe_holds q (looks_up h out told out') =
    let r = look_up q.slice q.L h out in
    bytes_equal (told_text r.answer) told && bytes_equal r.text out'
probe_holds q (walks above h out_h out_t told out_h' out_t') =
    let r = walk q.slice q.L above h out_h out_t in
    bytes_equal (told_entry r.answer) told && bytes_equal r.headword out_h' && bytes_equal r.text out_t'
probe_holds q (keeps work c told work') =
    let r = step_with work q c in
    bytes_equal r.told told && bytes_equal r.slice q.slice && eqb r.L q.L && bytes_equal r.work work'
probe_holds q (works work c told work') =
    let r = step_with work q c in
    bytes_equal r.told told && bytes_equal r.work work'
probe_holds q (lays_out told ib rs fs) =
    let i = image_in q.slice q.L in
    bytes_equal q.told told && eqb (index_blocks_of i) ib && bytes_equal (runs_at i) rs && bytes_equal (free_at i) fs
probe_holds q (stores i x) = bytes_equal (bytes_at i (length x) q.slice) x
probe_holds q (prints x) = bytes_equal (listing (take q.L q.slice)) x

-- the same after another program stored bytes from an offset on
unfoldable pub patched : ℕ → List ℕ → Probe → Probe
patched i x = stepped (store i x)

-- the same after optimising
unfoldable pub optimised : Probe → Probe
optimised = stepped opt

-- a row of the table
pub data Case : Type 0 where
  -- create of such a file on a slice answers so, and leaves the slice so
  creates : NewFile → List ℕ → List ℕ → List ℕ → Case
  -- the program prints these bytes for this input
  lists : List ℕ → List ℕ → Case
  -- the bytes of header and of a block number, most data blocks, and bytes of a part, of a file that is created so
  formats : NewFile → List ℕ → Case
  -- these numbers are these
  gives : List ℕ → List ℕ → Case
  -- what is seen of a slice of so many bytes after these steps from such a file, empty
  after : NewFile → ℕ → List Step → List Probe → Case

-- whether a row holds
unfoldable pub case_holds : Case → Bool
case_holds (creates k s told s') = let r = create s k in bytes_equal (told_length r.answer) told && bytes_equal r.image s'
case_holds (lists s x) = bytes_equal (listing s) x
case_holds (formats k x) =
    let F = format_of (new_image k) in
    bytes_equal (header_bytes F ∷ F.number_width ∷ F.most_blocks ∷ F.run_limit ∷ []) x
case_holds (gives x y) = bytes_equal x y
case_holds (after k n cs ps) = let q = play (empty k n) cs in all (probe_holds q) ps

-- P3's calls, the second entry with the attribute 0xE5
unfoldable pub two_entries : List Step
two_entries = ins (ascii "ABC") (ascii "one") ∷ ins_as (ascii "ABDEF") 0xE5 (ascii "two") ∷ []

-- P7's calls up to the deletion
unfoldable pub two_free : List Step
two_free = ins (ascii "a") (t 500) ∷ ins (ascii "b") (t 509) ∷ del (ascii "a") ∷ []

-- a letter x and 247 letters q
unfoldable pub xq : List ℕ
xq = ascii "x" ++ replicate 247 113

-- a letter x and 247 letters r
unfoldable pub xr : List ℕ
xr = ascii "x" ++ replicate 247 114

-- runs m at 1 (2 blocks), p at 0 (1 block) and x at 3 (3 blocks), then x's run is cut in three and the index grows by 2: index order and
-- number order of the moved runs differ; p's run has bytes after its end marks
unfoldable pub two_moved : List Step
two_moved =
    ins (ascii "p") (t 500)
    ∷ ins (ascii "m") (t 900)
    ∷ ins (ascii "x") (t 900)
    ∷ ins (ascii "p") []
    ∷ ins (ascii "m") (t 500)
    ∷ ins (ascii "x") []
    ∷ ins xq []
    ∷ ins xr []
    ∷ store 766 (9 ∷ 9 ∷ [])
    ∷ ins xq (t 1000)
    ∷ []

-- another program's run of five blocks, a t(500), b t(509) and c, from which c is deleted
unfoldable pub long_run : List Step
long_run =
    ins (ascii "a") (t 500)
    ∷ ins (ascii "b") (t 509)
    ∷ store 160 (3 ∷ [])
    ∷ store 190 (1 ∷ [])
    ∷ store 260 (zeros 4)
    ∷ store 512 (5 ∷ [])
    ∷ store 1_020 (0 ∷ 2 ∷ 0 ∷ 98 ∷ 0 ∷ 128 ∷ t 509 ++ 3 ∷ 0 ∷ 0 ∷ 99 ∷ 0 ∷ 128 ∷ 0 ∷ 0 ∷ [])
    ∷ del (ascii "c")
    ∷ []

-- runs of 3 blocks, of which two are deleted: three free extents of 3 blocks once the last run is freed
unfoldable pub equal_extents : List Step
equal_extents =
    ins (ascii "a") (t 600) ∷ ins (ascii "b") (t 600) ∷ ins (ascii "c") (t 600) ∷ ins (ascii "d") (t 600) ∷ ins (ascii "e") (t 600) ∷ del (ascii "a")
    ∷ del (ascii "c") ∷ ins (ascii "e") (t 600) ∷ []

-- a run of one block
unfoldable pub one_block : ℕ → Run
one_block b = record { headword = []; block = b; size = 1; bytes = []; entries = [] }

-- the blocks of the runs before and after the run concerned under a longer index, and D
unfoldable pub told_grown : Grown → List ℕ
told_grown m = map (λ r. r.block) (m.before ++ m.after) ++ m.data_blocks ∷ []

-- another program's bytes in all header bytes that no refusal names
unfoldable pub strange_header : List Step
strange_header = store 0 (lent 140) ∷ store 142 (lent 4) ∷ store 152 (lent 8) ∷ store 167 (lent 4) ∷ store 172 (lent 10) ∷ store 199 (lent 57) ∷ []

-- the same header after a change of P3's image: update_count is one higher, all else of it is kept
unfoldable pub strange_bytes : List ℕ
strange_bytes =
    lent 140 ++ (0 ∷ 4 ∷ []) ++ lent 4 ++ (0 ∷ 1 ∷ 1 ∷ 0 ∷ 0 ∷ 1 ∷ []) ++ lent 8 ++ (2 ∷ 0 ∷ 0 ∷ 0 ∷ 0 ∷ 0 ∷ 1 ∷ []) ++ lent 4 ++ (0 ∷ []) ++ lent 10
    ++ zeros 4 ++ (0xFF ∷ 0xFF ∷ 0xFF ∷ 0xFF ∷ 1 ∷ 0 ∷ 0 ∷ 0 ∷ 1 ∷ 0 ∷ 0 ∷ 0 ∷ 0 ∷ []) ++ lent 9 ++ (0xAB ∷ []) ++ lent 47

-- ABDEF as another program stores it: a shorter front than the longest, and bytes after the end marks
unfoldable pub strange_entry : List ℕ
strange_entry = 10 ∷ 0 ∷ 0 ∷ ascii "ABDEF" ++ 0 ∷ 128 ∷ ascii "two" ++ 0 ∷ 0 ∷ 9 ∷ 9 ∷ []

-- check on P3's image, then rows 1 and 3 to 10 one fault at a time, then two at a time
unfoldable pub check_probes : List Probe
check_probes =
    checks 768 (2 ∷ 1 ∷ 1 ∷ 0 ∷ [])
    -- a version only for reading, a shorter front than the longest, and anything after the end marks
    ∷ patched 140 (16 ∷ []) (checks 768 (2 ∷ 1 ∷ 1 ∷ 0 ∷ []))
    ∷ patched 525 strange_entry (checks 768 (2 ∷ 1 ∷ 1 ∷ 0 ∷ []))
    -- 1: L under 256, no multiple of 256, over the slice
    ∷ checks 0 (refusal 1)
    ∷ checks 767 (refusal 1)
    ∷ checks 1_024 (refusal 1)
    -- 3: high version byte, block_size, header_size, attrlen
    ∷ patched 141 (6 ∷ []) (checks 768 (refusal 3))
    ∷ patched 141 (0x84 ∷ []) (checks 768 (refusal 3))
    -- read as version 5, this header has an extheader
    ∷ patched 141 (5 ∷ []) (checks 768 (refusal 4))
    ∷ patched 147 (2 ∷ []) (checks 768 (refusal 3))
    ∷ patched 150 (1 ∷ []) (checks 768 (refusal 3))
    ∷ patched 166 (0 ∷ []) (checks 768 (refusal 3))
    -- 4: dicorder, dictype, os, extheader, index_blkbit
    ∷ patched 164 (1 ∷ []) (checks 768 (refusal 4))
    ∷ patched 165 (1 ∷ []) (checks 768 (refusal 4))
    ∷ patched 171 (1 ∷ []) (checks 768 (refusal 4))
    ∷ patched 182 (1 ∷ []) (checks 768 (refusal 4))
    ∷ patched 185 (1 ∷ []) (checks 768 (refusal 4))
    ∷ patched 198 (1 ∷ []) (checks 768 (refusal 4))
    -- 5: index_block over 32,767, past L
    ∷ patched 148 (0 ∷ 0x80 ∷ []) (checks 768 (refusal 5))
    ∷ patched 148 (3 ∷ []) (checks 768 (refusal 5))
    -- 6: an element's headword empty, a byte not zero after the elements, more elements than there are, elements without an index
    ∷ patched 258 (0 ∷ []) (checks 768 (refusal 6))
    ∷ patched 511 (1 ∷ []) (checks 768 (refusal 6))
    ∷ patched 190 (2 ∷ []) (checks 768 (refusal 6))
    ∷ patched 148 (0 ∷ []) (checks 768 (refusal 6))
    -- 7: number not below D, size 0, top bit set, past the data area
    ∷ patched 256 (1 ∷ []) (checks 768 (refusal 7))
    ∷ patched 512 (0 ∷ []) (checks 768 (refusal 7))
    ∷ patched 513 (0x80 ∷ []) (checks 768 (refusal 7))
    ∷ patched 512 (2 ∷ []) (checks 768 (refusal 7))
    -- 8: no entry, first headword not its element's, attribute with 0x10, attribute without 0x80, front over the previous length, headwords not ascending, field past the run
    ∷ patched 514 (0 ∷ []) (checks 768 (refusal 8))
    ∷ patched 519 (ascii "D") (checks 768 (refusal 8))
    ∷ patched 521 (0x90 ∷ []) (checks 768 (refusal 8))
    ∷ patched 521 (0x60 ∷ []) (checks 768 (refusal 8))
    ∷ patched 527 (4 ∷ []) (checks 768 (refusal 8))
    ∷ patched 528 (ascii "A") (checks 768 (refusal 8))
    ∷ patched 526 (1 ∷ []) (checks 768 (refusal 8))
    -- 8: a field without a zero byte, without an attribute, and end marks that do not fit by two bytes and by one; with them the run is good
    ∷ patched 520 (ascii "A") (checks 768 (refusal 8))
    ∷ patched 160 (1 ∷ []) (patched 514 (4 ∷ 0 ∷ 0 ∷ ascii "ABC" ++ zeros 3) (checks 768 (refusal 8)))
    ∷ patched 514 (251 ∷ 0 ∷ 0 ∷ ascii "ABC" ++ 0 ∷ 128 ∷ t 246) (checks 768 (refusal 8))
    ∷ patched 514 (250 ∷ 0 ∷ 0 ∷ ascii "ABC" ++ 0 ∷ 128 ∷ t 245) (checks 768 (refusal 8))
    ∷ patched 160 (1 ∷ []) (patched 514 (249 ∷ 0 ∷ 0 ∷ ascii "ABC" ++ 0 ∷ 128 ∷ t 244) (checks 768 (1 ∷ 1 ∷ 1 ∷ 0 ∷ [])))
    -- 9: a run's block on the free list, a number off the area
    ∷ patched 186 (0 ∷ 0 ∷ 0 ∷ 0 ∷ []) (checks 768 (refusal 9))
    ∷ patched 186 (1 ∷ 0 ∷ 0 ∷ 0 ∷ []) (checks 768 (refusal 9))
    -- 10: nword, nblock2
    ∷ patched 160 (3 ∷ []) (checks 768 (refusal 10))
    ∷ patched 194 (2 ∷ []) (checks 768 (refusal 10))
    -- two faults: the first row is given
    ∷ with_length 767 (looks_up [] [] (refusal 1) [])
    ∷ with_length 767 (walks false (t 249) [] [] (refusal 1) [] [])
    ∷ patched 141 (6 ∷ []) (looks_up [] [] (refusal 3) [])
    ∷ patched 160 (3 ∷ []) (looks_up [] [] (refusal 10) [])
    ∷ patched 141 (6 ∷ []) (walks false (t 249) [] [] (refusal 3) [] [])
    ∷ patched 160 (3 ∷ []) (walks false (t 249) [] [] (refusal 10) [] [])
    ∷ patched 141 (6 ∷ []) (patched 164 (1 ∷ []) (checks 768 (refusal 3)))
    ∷ patched 164 (1 ∷ []) (patched 148 (3 ∷ []) (checks 768 (refusal 4)))
    ∷ patched 148 (3 ∷ []) (patched 258 (0 ∷ []) (checks 768 (refusal 5)))
    ∷ patched 258 (0 ∷ []) (patched 512 (0 ∷ []) (checks 768 (refusal 6)))
    ∷ patched 512 (2 ∷ []) (patched 521 (0x90 ∷ []) (checks 768 (refusal 7)))
    ∷ patched 521 (0x90 ∷ []) (patched 186 (0 ∷ 0 ∷ 0 ∷ 0 ∷ []) (checks 768 (refusal 8)))
    ∷ patched 186 (0 ∷ 0 ∷ 0 ∷ 0 ∷ []) (patched 160 (3 ∷ []) (checks 768 (refusal 9)))
    ∷ []

-- two runs, a of 2 blocks at 0 and b of 3 blocks at 2
unfoldable pub run_probes : List Probe
run_probes =
    checks 1_792 (2 ∷ 1 ∷ 5 ∷ 0 ∷ [])
    -- ordinals go on from run to run
    ∷ prints (ascii "     2     1     5     0\n     1     0     2 128   500 a\n     2     2     3 128   509 b\n")
    -- 7 and 8 run by run: 8 of the first before 7 of the second, 7 of the first before 8 of the second
    ∷ patched 519 (0x90 ∷ []) (patched 1_024 (0 ∷ []) (checks 1_792 (refusal 8)))
    ∷ patched 519 (0x90 ∷ []) (patched 260 (9 ∷ []) (checks 1_792 (refusal 8)))
    ∷ patched 512 (0 ∷ []) (patched 1_031 (0x90 ∷ []) (checks 1_792 (refusal 7)))
    -- 8: the last headword, c, not below the next element's, b
    ∷ patched 514 (3 ∷ 0 ∷ 0 ∷ 97 ∷ 0 ∷ 0x80 ∷ 3 ∷ 0 ∷ 0 ∷ 99 ∷ 0 ∷ 0x80 ∷ 0 ∷ 0 ∷ []) (checks 1_792 (refusal 8))
    -- 9: block 2 in both runs; nblock2 is then wrong too, but 10 comes after
    ∷ patched 512 (3 ∷ []) (checks 1_792 (refusal 9))
    -- 6: elements not ascending; three zero bytes behind them; a headword of 249; four zero bytes and a headword of 248 are good, and then 8
    ∷ patched 262 (97 ∷ []) (checks 1_792 (refusal 6))
    ∷ patched 262 (replicate 246 98) (checks 1_792 (refusal 6))
    ∷ patched 262 (replicate 245 98) (checks 1_792 (refusal 8))
    ∷ patched 190 (1 ∷ []) (patched 258 (t 249) (checks 1_792 (refusal 6)))
    ∷ patched 190 (1 ∷ []) (patched 258 (t 248 ++ zeros 1) (checks 1_792 (refusal 8)))
    ∷ []

-- a stored headword of 249 bytes, the second of a run whose longest is 248
unfoldable pub long_headword_probes : List Probe
long_headword_probes =
    checks 1_280 (2 ∷ 1 ∷ 3 ∷ 1 ∷ [])
    ∷ patched 776 (250 ∷ 0 ∷ 1 ∷ t 248 ++ 0 ∷ 128 ∷ []) (checks 1_280 (refusal 8))
    ∷ []

-- a stored text of 3,001 bytes, where there is one of 3,000
unfoldable pub long_text_probes : List Probe
long_text_probes =
    checks 3_584 (1 ∷ 1 ∷ 12 ∷ 0 ∷ [])
    ∷ patched 514 (0xBC ∷ []) (patched 3_520 (97 ∷ []) (checks 3_584 (refusal 8)))
    ∷ []

-- look up on P3's image: found, absent, 12, 14
unfoldable pub look_up_probes : List Probe
look_up_probes =
    looks_up (ascii "ABC") (lent 5) (128 ∷ 3 ∷ []) (ascii "one" ++ lent 2)
    ∷ looks_up (ascii "ABDEF") (lent 3) (0xE5 ∷ 3 ∷ []) (ascii "two")
    ∷ looks_up (ascii "ABD") (lent 3) [] (lent 3)
    ∷ looks_up (ascii "ABDEFG") [] [] []
    ∷ looks_up (ascii "ABC") (lent 2) (refusal 14) (lent 2)
    ∷ looks_up [] (lent 3) (refusal 12) (lent 3)
    ∷ looks_up (t 249) (lent 3) (refusal 12) (lent 3)
    ∷ looks_up (65 ∷ 0 ∷ []) (lent 3) (refusal 12) (lent 3)
    ∷ []

-- walk on P3's image: not below, above, from the start, past the last, 12, 14
unfoldable pub walk_probes : List Probe
walk_probes =
    walks false (ascii "ABC") (lent 4) (lent 4) (128 ∷ 3 ∷ 3 ∷ []) (ascii "ABC" ++ lent 1) (ascii "one" ++ lent 1)
    ∷ walks true (ascii "ABC") (lent 5) (lent 3) (0xE5 ∷ 5 ∷ 3 ∷ []) (ascii "ABDEF") (ascii "two")
    ∷ walks false (ascii "ABD") (lent 5) (lent 3) (0xE5 ∷ 5 ∷ 3 ∷ []) (ascii "ABDEF") (ascii "two")
    ∷ walks false [] (lent 5) (lent 3) (128 ∷ 3 ∷ 3 ∷ []) (ascii "ABC" ++ lent 2) (ascii "one")
    ∷ walks true [] (lent 5) (lent 3) (128 ∷ 3 ∷ 3 ∷ []) (ascii "ABC" ++ lent 2) (ascii "one")
    ∷ walks true (ascii "ABDEF") (lent 5) (lent 3) [] (lent 5) (lent 3)
    ∷ walks false (ascii "B") [] [] [] [] []
    ∷ walks false (ascii "ABC") (lent 2) (lent 3) (refusal 14) (lent 2) (lent 3)
    ∷ walks false (ascii "ABC") (lent 3) (lent 2) (refusal 14) (lent 3) (lent 2)
    ∷ walks false (t 249) (lent 3) (lent 3) (refusal 12) (lent 3) (lent 3)
    ∷ walks false (65 ∷ 0 ∷ []) (lent 3) (lent 3) (refusal 12) (lent 3) (lent 3)
    ∷ []

-- changing calls refused on P3's image, and what they leave: 2 keeps the working slice, 3 to 15 zero it, and so does an absent deletion
unfoldable pub refusal_probes : List Probe
refusal_probes =
    patched 141 (6 ∷ []) (keeps (lent 767) (ins (ascii "A") []) (refusal 2) (lent 767))
    ∷ patched 141 (6 ∷ []) (keeps (lent 768) (ins (ascii "A") []) (refusal 3) (zeros 768))
    ∷ patched 164 (1 ∷ []) (keeps (lent 768) opt (refusal 4) (zeros 768))
    ∷ patched 148 (3 ∷ []) (keeps (lent 768) opt (refusal 5) (zeros 768))
    ∷ patched 258 (0 ∷ []) (keeps (lent 768) opt (refusal 6) (zeros 768))
    ∷ patched 512 (0 ∷ []) (keeps (lent 768) opt (refusal 7) (zeros 768))
    ∷ patched 514 (0 ∷ []) (keeps (lent 768) opt (refusal 8) (zeros 768))
    ∷ patched 186 (0 ∷ 0 ∷ 0 ∷ 0 ∷ []) (keeps (lent 768) opt (refusal 9) (zeros 768))
    ∷ patched 140 (16 ∷ []) (keeps (lent 770) (ins [] []) (refusal 11) (zeros 770))
    ∷ patched 140 (16 ∷ []) (keeps (lent 768) (del (ascii "A")) (refusal 11) (zeros 768))
    ∷ patched 140 (16 ∷ []) (keeps (lent 768) opt (refusal 11) (zeros 768))
    ∷ patched 140 (0x20 ∷ []) (keeps (lent 768) opt (refusal 11) (zeros 768))
    ∷ patched 140 (0x40 ∷ []) (keeps (lent 768) opt (refusal 11) (zeros 768))
    ∷ patched 140 (0x80 ∷ []) (keeps (lent 768) opt (refusal 11) (zeros 768))
    ∷ patched 160 (3 ∷ []) (keeps (lent 768) (ins [] []) (refusal 10) (zeros 768))
    ∷ patched 160 (3 ∷ []) (keeps (lent 768) (ins_as (ascii "A") 0x90 []) (refusal 10) (zeros 768))
    ∷ patched 160 (3 ∷ []) (keeps (lent 768) (del []) (refusal 10) (zeros 768))
    ∷ patched 160 (3 ∷ []) (patched 140 (16 ∷ []) (keeps (lent 768) opt (refusal 10) (zeros 768)))
    ∷ patched 141 (6 ∷ []) (patched 140 (16 ∷ []) (keeps (lent 768) opt (refusal 3) (zeros 768)))
    ∷ with_length 767 (keeps (lent 5) opt (refusal 1) (lent 5))
    ∷ with_length 1_024 (keeps (lent 768) (del (ascii "ABC")) (refusal 1) (lent 768))
    ∷ keeps (lent 768) (ins_as [] 0x90 []) (refusal 12) (zeros 768)
    ∷ keeps (lent 768) (ins_as (ascii "A") 0x90 (t 300)) (refusal 13) (zeros 768)
    ∷ keeps (lent 768) (del (t 249)) (refusal 12) (zeros 768)
    ∷ keeps (lent 768) (ins_as (ascii "A") 0x90 []) (refusal 13) (zeros 768)
    ∷ keeps (lent 768) (ins_as (ascii "A") 0x60 []) (refusal 13) (zeros 768)
    ∷ keeps (lent 768) (ins (ascii "A") (65 ∷ 0 ∷ [])) (refusal 13) (zeros 768)
    ∷ keeps (lent 768) (ins (ascii "A") (t 300)) (refusal 15) (zeros 768)
    ∷ keeps (lent 768) (del (ascii "A")) [] (zeros 768)
    ∷ works (lent 770) (del (ascii "ABC")) (768 ∷ []) (zeros 770)
    -- every attribute bit but 0x10
    ∷ works (lent 768) (ins_as (ascii "ABC") 0xEF (ascii "one")) (768 ∷ []) (zeros 768)
    ∷ patched 140 (15 ∷ []) (works (lent 768) opt (768 ∷ []) (zeros 768))
    ∷ []

-- the bytes of P3's image: the fields that a change writes, the index, the run; and what the program prints of it with a fault
unfoldable pub bytes_probes : List Probe
bytes_probes =
    -- the whole header: create's fields, and those that two insertions wrote
    stores 0 (zeros 141 ++ (4 ∷ 248 ∷ 0 ∷ 0xB8 ∷ 0x0B ∷ 0 ∷ 1 ∷ 1 ∷ 0 ∷ 0 ∷ 1 ∷ 0 ∷ 0 ∷ 0xFF ∷ 0xFF ∷ []) ++ zeros 4 ++ (2 ∷ []) ++ zeros 5 ++ (1 ∷ [])
    ++ zeros 19 ++ (0xFF ∷ 0xFF ∷ 0xFF ∷ 0xFF ∷ 1 ∷ 0 ∷ 0 ∷ 0 ∷ 1 ∷ []) ++ zeros 13 ++ (2 ∷ []) ++ zeros 47)
    ∷ stores 256 (0 ∷ 0 ∷ ascii "ABC" ++ zeros 251)
    ∷ stores 512 (1 ∷ 0 ∷ 8 ∷ 0 ∷ 0 ∷ ascii "ABC" ++ 0 ∷ 128 ∷ ascii "one" ++ 8 ∷ 0 ∷ 2 ∷ ascii "DEF" ++ 0 ∷ 0xE5 ∷ ascii "two" ++ zeros 232)
    ∷ patched 514 (0 ∷ []) (prints (ascii "refused   8\n"))
    ∷ patched 194 (2 ∷ []) (prints (ascii "refused  10\n"))
    ∷ []

-- the first headword deleted: the next one in the index, with no front. "the update count goes from 4,294,967,295 to 0"
unfoldable pub deleted_probes : List Probe
deleted_probes =
    stores 256 (0 ∷ 0 ∷ ascii "ABDEF" ++ zeros 249)
    ∷ stores 512 (1 ∷ 0 ∷ 10 ∷ 0 ∷ 0 ∷ ascii "ABDEF" ++ 0 ∷ 0xE5 ∷ ascii "two" ++ zeros 241)
    ∷ stores 207 (zeros 6)
    ∷ []

-- P7's deletion: a free block keeps all but its first six bytes; 9 for a cycle, a block in neither, a free block that does not start with zeros
unfoldable pub free_probes : List Probe
free_probes =
    checks 1_792 (1 ∷ 1 ∷ 5 ∷ 2 ∷ [])
    ∷ stores 512 (0 ∷ 0 ∷ 1 ∷ 0 ∷ 0 ∷ 0 ∷ 0 ∷ 128 ∷ 97 ∷ [])
    ∷ stores 768 (0 ∷ 0 ∷ 0xFF ∷ 0xFF ∷ 0xFF ∷ 0xFF ∷ 97 ∷ [])
    ∷ stores 1_024 (3 ∷ 0 ∷ 0 ∷ 2 ∷ 0 ∷ 98 ∷ 0 ∷ 128 ∷ [])
    ∷ patched 770 (0 ∷ 0 ∷ 0 ∷ 0 ∷ []) (checks 1_792 (refusal 9))
    ∷ patched 186 (1 ∷ []) (checks 1_792 (refusal 9))
    ∷ patched 769 (1 ∷ []) (checks 1_792 (refusal 9))
    ∷ []

-- a new file of a version, with an identifier
unfoldable pub file_of : ℕ → ℕ → NewFile
file_of v ident = record { version = v; identifier = ident }

-- version 5: create's header up to attrlen, with this many index blocks and entries
unfoldable pub front5 : ℕ → ℕ → List ℕ
front5 blocks words =
    zeros 141 ++ (5 ∷ 248 ∷ 0 ∷ 0xB8 ∷ 0x0B ∷ 0 ∷ 1 ∷ blocks ∷ 0 ∷ 0 ∷ 1 ∷ 0 ∷ 0 ∷ 0xFF ∷ 0xFF ∷ []) ++ zeros 4 ++ (words ∷ []) ++ zeros 5 ++ (1 ∷ [])

-- create's whole header in version 5, with an identifier's eight bytes
unfoldable pub empty5 : List ℕ → List ℕ
empty5 ident = front5 0 0 ++ zeros 21 ++ (0xFF ∷ 0xFF ∷ 0xFF ∷ 0xFF ∷ []) ++ zeros 24 ++ ident ++ zeros 32

-- the identifier of `file5`, low byte first
unfoldable pub ident5 : List ℕ
ident5 = 0x11 ∷ 0x22 ∷ 0x33 ∷ 0x44 ∷ 0x55 ∷ 0x66 ∷ 0x77 ∷ 0x88 ∷ []

-- P3's image in version 5: its header, the versions, and each moved field at its new place and at its old
unfoldable pub version_probes : List Probe
version_probes =
    checks 768 (2 ∷ 1 ∷ 1 ∷ 0 ∷ [])
    ∷ stores 0 (front5 1 2 ++ zeros 21 ++ (0xFF ∷ 0xFF ∷ 0xFF ∷ 0xFF ∷ 1 ∷ 0 ∷ 0 ∷ 0 ∷ 1 ∷ []) ++ zeros 11 ++ (2 ∷ []) ++ zeros 7 ++ ident5 ++ zeros 32)
    -- 3: 6, 3 and 0x85; read as version 4, this header has too many elements
    ∷ patched 141 (6 ∷ []) (checks 768 (refusal 3))
    ∷ patched 141 (3 ∷ []) (checks 768 (refusal 3))
    ∷ patched 141 (0x85 ∷ []) (checks 768 (refusal 3))
    ∷ patched 141 (4 ∷ []) (checks 768 (refusal 6))
    -- a low byte of 16 may be read, and 15 changed
    ∷ patched 140 (16 ∷ []) (checks 768 (2 ∷ 1 ∷ 1 ∷ 0 ∷ []))
    ∷ patched 140 (16 ∷ []) (keeps (lent 768) (del (ascii "ABC")) (refusal 11) (zeros 768))
    ∷ patched 140 (15 ∷ []) (works (lent 768) opt (768 ∷ []) (zeros 768))
    -- 4: dicorder, dictype, os, index_blkbit, the first and the last byte of extheader; nothing at the old os, nor between index_blkbit and extheader
    ∷ patched 164 (1 ∷ []) (checks 768 (refusal 4))
    ∷ patched 165 (1 ∷ []) (checks 768 (refusal 4))
    ∷ patched 167 (1 ∷ []) (checks 768 (refusal 4))
    ∷ patched 171 (1 ∷ []) (checks 768 (2 ∷ 1 ∷ 1 ∷ 0 ∷ []))
    ∷ patched 182 (1 ∷ []) (checks 768 (refusal 4))
    ∷ patched 183 (1 ∷ []) (checks 768 (2 ∷ 1 ∷ 1 ∷ 0 ∷ []))
    ∷ patched 184 (1 ∷ []) (checks 768 (refusal 4))
    ∷ patched 187 (1 ∷ []) (checks 768 (refusal 4))
    -- 9, 6, 10: empty_block2, nindex2, nblock2, and its last two bytes, of which version 4 has the one as index_blkbit and does not test the other
    ∷ patched 188 (0 ∷ 0 ∷ 0 ∷ 0 ∷ []) (checks 768 (refusal 9))
    ∷ patched 192 (2 ∷ []) (checks 768 (refusal 6))
    ∷ patched 196 (2 ∷ []) (checks 768 (refusal 10))
    ∷ patched 198 (1 ∷ []) (checks 768 (refusal 10))
    ∷ patched 199 (1 ∷ []) (checks 768 (refusal 10))
    -- where version 4 has empty_block2, nindex2 and nblock2, a byte of extheader, of empty_block2 and of nindex2 stands
    ∷ patched 186 (1 ∷ []) (checks 768 (refusal 4))
    ∷ patched 190 (0 ∷ []) (checks 768 (refusal 9))
    ∷ patched 194 (1 ∷ []) (checks 768 (refusal 6))
    -- the identifier may be anything
    ∷ patched 216 (lent 8) (checks 768 (2 ∷ 1 ∷ 1 ∷ 0 ∷ []))
    ∷ looks_up (ascii "ABC") (lent 5) (128 ∷ 3 ∷ []) (ascii "one" ++ lent 2)
    ∷ []

-- version 5: another program's bytes in all header bytes that no refusal names
unfoldable pub strange_header5 : List Step
strange_header5 =
    store 0 (lent 140) ∷ store 142 (lent 4) ∷ store 152 (lent 8) ∷ store 168 (lent 14) ∷ store 183 (lent 1) ∷ store 200 (lent 56) ∷ []

-- the same header after a change of P3's image: update_count is one higher, all else of it is kept
unfoldable pub strange_bytes5 : List ℕ
strange_bytes5 =
    lent 140 ++ (0 ∷ 5 ∷ []) ++ lent 4 ++ (0 ∷ 1 ∷ 1 ∷ 0 ∷ 0 ∷ 1 ∷ []) ++ lent 8 ++ (2 ∷ 0 ∷ 0 ∷ 0 ∷ 0 ∷ 0 ∷ 1 ∷ 0 ∷ []) ++ lent 14 ++ (0 ∷ []) ++ lent 1
    ++ zeros 4 ++ (0xFF ∷ 0xFF ∷ 0xFF ∷ 0xFF ∷ 1 ∷ 0 ∷ 0 ∷ 0 ∷ 1 ∷ 0 ∷ 0 ∷ 0 ∷ []) ++ lent 8 ++ (0xAB ∷ []) ++ lent 47

-- another program's run of 3 blocks that takes 26 bytes: an image of 1,280 bytes
unfoldable pub spare_blocks : List Step
spare_blocks = two_entries ++ store 194 (3 ∷ []) ∷ store 512 (3 ∷ []) ∷ []

-- another program's file without an entry, with 3 index blocks: an image of 1,024 bytes
unfoldable pub idle_index : List Step
idle_index = store 148 (3 ∷ []) ∷ store 256 (zeros 768) ∷ []

-- P9's calls: 2 index blocks, both needed, and no free block
unfoldable pub none_free : List Step
none_free = ins (ascii "a") [] ∷ ins (t 248) [] ∷ ins (ascii "b") (t 762) ∷ del (ascii "a") ∷ []

-- "15 is never given by optimise": images that fill their slice to the last byte
unfoldable pub optimise_cases : List Case
optimise_cases =
    -- no run; a packed image, of which only update_count changes
    after file5 256 [] (optimised (lays_out (256 ∷ []) 0 [] []) ∷ [])
    ∷ after file4 768 two_entries (optimised (lays_out (768 ∷ []) 1 (0 ∷ []) []) ∷ optimised (stores 208 (3 ∷ [])) ∷ map (λ p. optimised (patched 208 (2 ∷ []) p)) bytes_probes)
    -- nothing free and no index block to spare; then 2 index blocks where 1 is needed, and 2 free blocks
    ∷ after file4 2_304 none_free (optimised (lays_out (2_304 ∷ []) 2 (0 ∷ 2 ∷ []) []) ∷ [])
    ∷ after file4 2_304 (none_free ++ del (t 248) ∷ opt ∷ []) (lays_out (1_536 ∷ []) 1 (0 ∷ []) [] ∷ stores 1_536 (zeros 768) ∷ [])
    -- 1 index block where none is needed; 3, and no data block
    ∷ after file5 768 (ins (ascii "ABC") (ascii "one") ∷ del (ascii "ABC") ∷ opt ∷ []) (lays_out (256 ∷ []) 0 [] [] ∷ stores 256 (zeros 512) ∷ [])
    ∷ after file4 1_024 idle_index (map (with_length 1_024) (checks 1_024 (0 ∷ 3 ∷ 0 ∷ 0 ∷ []) ∷ optimised (lays_out (256 ∷ []) 0 [] []) ∷ optimised (stores 256 (zeros 768)) ∷ []))
    -- a run with blocks to spare keeps them
    ∷ after file4 1_280 spare_blocks (map (with_length 1_280) (checks 1_280 (2 ∷ 1 ∷ 3 ∷ 0 ∷ []) ∷ optimised (lays_out (1_280 ∷ []) 1 (0 ∷ []) []) ∷ []))
    -- the numbers that it can give
    ∷ gives change_numbers (1 ∷ 2 ∷ 3 ∷ 4 ∷ 5 ∷ 6 ∷ 7 ∷ 8 ∷ 9 ∷ 10 ∷ 11 ∷ [])
    ∷ []

-- "add in the page's order: header, extended header, index blocks times block size, block size times number"
unfoldable pub position_cases : List Case
position_cases =
    -- the first block behind an index of no block, one, two and the most
    gives (block_position 0 0 0 ∷ block_position 0 1 0 ∷ block_position 0 2 0 ∷ block_position 0 32_767 0 ∷ []) (256 ∷ 512 ∷ 768 ∷ 8_388_608 ∷ [])
    -- blocks behind no index
    ∷ gives (block_position 0 0 1 ∷ block_position 0 0 2 ∷ block_position 0 0 65_535 ∷ []) (512 ∷ 768 ∷ 16_777_216 ∷ [])
    -- the image of `free_probes`: its two free blocks, its run, and its end
    ∷ gives (block_position 0 1 0 ∷ block_position 0 1 1 ∷ block_position 0 1 2 ∷ block_position 0 1 5 ∷ []) (512 ∷ 768 ∷ 1_024 ∷ 1_792 ∷ [])
    -- the ends of a new image and of the largest
    ∷ gives (block_position 0 0 0 ∷ block_position 0 32_767 65_536 ∷ []) (256 ∷ 25_165_824 ∷ [])
    -- the extended header is a term of its own
    ∷ gives (block_position 256 0 0 ∷ block_position 512 3 5 ∷ block_position 65_536 1 0 ∷ []) (512 ∷ 2_816 ∷ 66_048 ∷ [])
    ∷ []

-- runs a at block 0 and 81 40, 81 41 at block 4: the second entry of the latter stands at 1,665
unfoldable pub pair_runs : List Step
pair_runs = ins (ascii "a") (t 900) ∷ ins (0x81 ∷ 0x40 ∷ []) (t 120) ∷ ins (0x81 ∷ 0x41 ∷ []) (ascii "two") ∷ []

-- that entry as we write it, and the end marks
unfoldable pub pair_whole : List ℕ
pair_whole = 7 ∷ 0 ∷ 0 ∷ 0x81 ∷ 0x41 ∷ 0 ∷ 128 ∷ ascii "two" ++ 0 ∷ 0 ∷ []

-- and as another program stores it, with a front that ends inside the pair
unfoldable pub pair_cut : List ℕ
pair_cut = 6 ∷ 0 ∷ 1 ∷ 0x41 ∷ 0 ∷ 128 ∷ ascii "two" ++ 0 ∷ 0 ∷ []

-- two entries whose headwords differ in the byte behind b: with a front of one byte they encode in 1,024 bytes
unfoldable pub two_texts : ℕ → List Entry
two_texts b = entry_of (b ∷ 0x40 ∷ []) 128 (t 500) ∷ entry_of (b ∷ 0x41 ∷ []) 128 (t 507) ∷ []

-- "the largest front, up to the common one, that ends inside no pair of the later headword"
unfoldable pub pair_cases : List Case
pair_cases =
    -- bytes that begin a pair, and their neighbours, in front of 40 and 41
    gives
    (map (λ b. shared_front (b ∷ 0x40 ∷ []) (b ∷ 0x41 ∷ [])) (0x7F ∷ 0x80 ∷ 0x81 ∷ 0x9F ∷ 0xA0 ∷ 0xDF ∷ 0xE0 ∷ 0xFC ∷ 0xFD ∷ 0xFF ∷ []))
    (1 ∷ 1 ∷ 0 ∷ 0 ∷ 1 ∷ 1 ∷ 0 ∷ 0 ∷ 1 ∷ 1 ∷ [])
    -- a letter and a pair; two pairs; a pair whose second byte is 9F; the same second byte in front of a letter
    ∷ gives (shared_front (0x41 ∷ 0x81 ∷ 0x40 ∷ []) (0x41 ∷ 0x81 ∷ 0x41 ∷ []) ∷ shared_front (0x82 ∷ 0xA0 ∷ 0x82 ∷ 0xA2 ∷ []) (0x82 ∷ 0xA0 ∷ 0x82 ∷ 0xA4 ∷ []) ∷ [])
    (1 ∷ 2 ∷ [])
    ∷ gives (shared_front (0x81 ∷ 0x9F ∷ 0x81 ∷ 0x40 ∷ []) (0x81 ∷ 0x9F ∷ 0x81 ∷ 0x41 ∷ []) ∷ shared_front (0x81 ∷ 0x9F ∷ 0x40 ∷ []) (0x81 ∷ 0x9F ∷ 0x41 ∷ []) ∷ [])
    (2 ∷ 2 ∷ [])
    -- "read from the headword's start": a pair 81 81, then a byte by itself
    ∷ gives (shared_front (0x81 ∷ 0x81 ∷ 0x81 ∷ []) (0x81 ∷ 0x81 ∷ 0x82 ∷ []) ∷ shared_front (0x81 ∷ 0x81 ∷ 0x40 ∷ []) (0x81 ∷ 0x81 ∷ 0x41 ∷ []) ∷ []) (2 ∷ 2 ∷ [])
    ∷ gives (shared_front (0x41 ∷ 0x81 ∷ 0x81 ∷ 0x40 ∷ []) (0x41 ∷ 0x81 ∷ 0x81 ∷ 0x41 ∷ []) ∷ []) (3 ∷ [])
    -- "of the later headword": the lead byte stands alone in the earlier; "such a byte at the very end stands alone" in the later
    ∷ gives (shared_front (0x81 ∷ []) (0x81 ∷ 0x40 ∷ []) ∷ shared_front (0x81 ∷ []) (0x81 ∷ 0x81 ∷ []) ∷ shared_front (0x81 ∷ 0x40 ∷ []) (0x81 ∷ []) ∷ []) (0 ∷ 0 ∷ 1 ∷ [])
    -- the longest: 247 and 246 lead bytes in front of the byte that differs
    ∷ gives
    (shared_front (replicate 247 0x81 ++ 0x40 ∷ []) (replicate 247 0x81 ++ 0x41 ∷ []) ∷ shared_front (0x41 ∷ replicate 246 0xFC ++ 0x40 ∷ []) (0x41 ∷ replicate 246 0xFC ++ 0x41 ∷ []) ∷ [])
    (246 ∷ 247 ∷ [])
    -- the bytes of entries one after the other
    ∷ gives
    (entries_bytes [] (entry_of (0x41 ∷ 0x81 ∷ []) 128 [] ∷ entry_of (0x41 ∷ 0x81 ∷ 0x40 ∷ []) 128 (ascii "x") ∷ entry_of (0x41 ∷ 0x81 ∷ 0x41 ∷ []) 128 []
    ∷ entry_of (0xB1 ∷ 0xB2 ∷ []) 128 [] ∷ entry_of (0xB1 ∷ 0xB3 ∷ []) 128 [] ∷ []))
    (4 ∷ 0 ∷ 0 ∷ 0x41 ∷ 0x81 ∷ 0 ∷ 128 ∷ 5 ∷ 0 ∷ 1 ∷ 0x81 ∷ 0x40 ∷ 0 ∷ 128 ∷ 0x78 ∷ 4 ∷ 0 ∷ 1 ∷ 0x81 ∷ 0x41 ∷ 0 ∷ 128
    ∷ 4 ∷ 0 ∷ 0 ∷ 0xB1 ∷ 0xB2 ∷ 0 ∷ 128 ∷ 3 ∷ 0 ∷ 1 ∷ 0xB3 ∷ 0 ∷ 128 ∷ [])
    -- "cuts and places follow its sizes": letters in the place of lead bytes encode in 1,024 bytes, and pairs in 1,025
    ∷ gives (encoded_size (two_texts 0x61) ∷ encoded_size (two_texts 0x81) ∷ []) (1_024 ∷ 1_025 ∷ [])
    ∷ gives (map length (cut 1_024 (two_texts 0x61)) ++ map length (cut 1_024 (two_texts 0x81))) (2 ∷ 1 ∷ 1 ∷ [])
    ∷ after file4 1_792 (ins (0x81 ∷ 0x40 ∷ []) (t 500) ∷ ins (0x81 ∷ 0x41 ∷ []) (t 507) ∷ []) (lays_out (1_792 ∷ []) 1 (0 ∷ 2 ∷ []) [] ∷ [])
    -- "Reading is as before": a stored front that ends inside a pair is read, and kept by optimise and by a change of the other run; a change of its own run
    -- writes the entry anew
    ∷ after file4 1_792 pair_runs (stores 1_665 pair_whole ∷ map (patched 1_665 pair_cut) (checks 1_792 (3 ∷ 1 ∷ 5 ∷ 0 ∷ [])
    ∷ looks_up (0x81 ∷ 0x41 ∷ []) (lent 3) (128 ∷ 3 ∷ []) (ascii "two") ∷ optimised (stores 1_665 pair_cut) ∷ stepped (del (ascii "a")) (stores 1_665 pair_cut)
    ∷ stepped (ins (0x81 ∷ 0x40 ∷ []) (t 120)) (stores 1_665 pair_whole) ∷ []))
    ∷ []

-- all cases
unfoldable pub cases : List Case
cases =
    -- a slice too small, and one of 258 bytes: what stands past 256 is kept
    creates file4 (lent 255) (refusal 1) (lent 255)
    ∷ creates file4 (lent 258) (256 ∷ []) (zeros 141 ++ (4 ∷ 248 ∷ 0 ∷ 0xB8 ∷ 0x0B ∷ 0 ∷ 1 ∷ 0 ∷ 0 ∷ 0 ∷ 1 ∷ 0 ∷ 0 ∷ 0xFF ∷ 0xFF ∷ []) ++ zeros 10 ++ (1 ∷ [])
    ++ zeros 19 ++ (0xFF ∷ 0xFF ∷ 0xFF ∷ 0xFF ∷ []) ++ zeros 66 ++ lent 2)
    ∷ after file4 256 [] (checks 256 (0 ∷ 0 ∷ 0 ∷ 0 ∷ []) ∷ looks_up (ascii "ABC") (lent 3) [] (lent 3) ∷ prints (ascii "     0     0     0     0\n") ∷ [])
    ∷ after file4 768 two_entries (check_probes ++ look_up_probes ++ walk_probes ++ refusal_probes ++ bytes_probes)
    ∷ after file4 768 (two_entries ++ store 208 (0xFF ∷ 0xFF ∷ 0xFF ∷ 0xFF ∷ []) ∷ del (ascii "ABC") ∷ []) deleted_probes
    -- the working slice is measured by the whole image slice, not by L
    ∷ after file4 770 two_entries (keeps (lent 769) opt (refusal 2) (lent 769) ∷ works (lent 770) opt (768 ∷ []) (zeros 770) ∷ stores 768 (lent 2) ∷ [])
    -- header bytes that no refusal names are not tested, and a change keeps them
    ∷ after file4 768 (two_entries ++ strange_header ++ ins (ascii "ABC") (ascii "one") ∷ []) (checks 768 (2 ∷ 1 ∷ 1 ∷ 0 ∷ []) ∷ stores 0 strange_bytes ∷ [])
    -- optimise keeps the bytes of a run
    ∷ after file4 768 (two_entries ++ store 525 strange_entry ∷ opt ∷ []) (stores 525 strange_entry ∷ [])
    -- the longest front
    ∷ after file4 1_280 (ins (t 247) [] ∷ ins (t 248) [] ∷ []) (stores 1_022 (3 ∷ 0 ∷ 247 ∷ 97 ∷ 0 ∷ 128 ∷ 0 ∷ 0 ∷ []) ∷ [])
    -- two elements of 252 bytes together and four zero bytes fill one index block
    ∷ after file4 2_304 (ins (ascii "a") (t 600) ∷ ins (replicate 245 98) (t 600) ∷ []) (lays_out (2_304 ∷ []) 1 (0 ∷ 3 ∷ []) [] ∷ optimised (lays_out (2_304 ∷ []) 1 (0 ∷ 3 ∷ []) []) ∷ [])
    -- a headword between two runs goes into the lower one
    ∷ after file4 2_560 (ins (ascii "a") (t 500) ∷ ins (ascii "b") (t 509) ∷ ins (ascii "aa") [] ∷ []) (lays_out (2_560 ∷ []) 1 (5 ∷ 2 ∷ []) (0 ∷ 1 ∷ []) ∷ [])
    -- unsigned byte order
    ∷ after file4 768 (ins (0x83 ∷ 0x41 ∷ []) (ascii "ka") ∷ ins (ascii "Z") (ascii "zed") ∷ []) (walks false [] (lent 2) (lent 3) (128 ∷ 1 ∷ 3 ∷ []) (ascii "Z" ++ lent 1) (ascii "zed") ∷ [])
    -- the last entry deleted: its block is free, the index keeps its block; optimise leaves the header
    ∷ after file4 768 (ins (ascii "ABC") (ascii "one") ∷ del (ascii "ABC") ∷ []) (lays_out (768 ∷ []) 1 [] (0 ∷ []) ∷ works (lent 768) opt (256 ∷ []) (zeros 768) ∷ [])
    ∷ after file4 1_792 (ins (ascii "a") (t 500) ∷ ins (ascii "b") (t 509) ∷ []) run_probes
    ∷ after file4 1_280 (ins (ascii "a") [] ∷ ins (t 248) [] ∷ []) long_headword_probes
    ∷ after file4 3_584 (ins (ascii "a") (t 3_000) ∷ []) long_text_probes
    -- zeros inside a printed number
    ∷ after file4 1_536 (ins (ascii "a") (t 1_005) ∷ []) (prints (ascii "     1     1     4     0\n     1     0     4 128  1005 a\n") ∷ [])
    -- an input of 65,536 bytes is read, a longer one is 1
    ∷ lists [] (ascii "refused   1\n")
    ∷ lists (zeros 65_536) (ascii "refused   3\n")
    ∷ lists (zeros 65_792) (ascii "refused   1\n")
    -- six columns
    ∷ gives (column 6 65_536) (ascii " 65536")
    ∷ formats file4 (256 ∷ 2 ∷ 65_536 ∷ 1_024 ∷ [])
    ∷ formats file5 (256 ∷ 2 ∷ 65_536 ∷ 1_024 ∷ [])
    -- the engine's answers and the C codes
    ∷ gives (told_length (length_answer (Ok 256)) ++ told_length (length_answer (Err Refusal.Full))) (256 ∷ 0 ∷ 15 ∷ [])
    ∷ gives (told_figures (check_answer (Ok (record { headwords = 1; index_blocks = 2; data_blocks = 3; free_blocks = 4 }))) ++ told_figures (check_answer (Err Refusal.BadBlocks)))
    (1 ∷ 2 ∷ 3 ∷ 4 ∷ 0 ∷ 9 ∷ [])
    ∷ gives (told_text (look_up_answer (Ok (Some (record { attribute = 1; text_length = 2 })))) ++ told_text (look_up_answer (Ok None)) ++ told_text (look_up_answer (Err Refusal.ShortOutput)))
    (1 ∷ 2 ∷ 0 ∷ 14 ∷ [])
    ∷ gives (told_entry (walk_answer (Ok (Some (record { attribute = 1; headword_length = 2; text_length = 3 })))) ++ told_entry (walk_answer (Ok None))
    ++ told_entry (walk_answer (Err Refusal.BadHeadword))) (1 ∷ 2 ∷ 3 ∷ 0 ∷ 12 ∷ [])
    ∷ gives (told_removed (delete_answer (Ok (Some 512))) ++ told_removed (delete_answer (Ok None)) ++ told_removed (delete_answer (Err Refusal.ShortWork))) (512 ∷ 0 ∷ 2 ∷ [])
    ∷ gives
    (number_of Refusal.BadLength
    ∷ number_of Refusal.ShortWork
    ∷ number_of Refusal.BadVersion
    ∷ number_of Refusal.LeftOut
    ∷ number_of Refusal.BadAreas
    ∷ number_of Refusal.BadIndex
    ∷ number_of Refusal.BadPlace
    ∷ number_of Refusal.BadRun
    ∷ number_of Refusal.BadBlocks
    ∷ number_of Refusal.BadCounts
    ∷ number_of Refusal.ReadOnly
    ∷ number_of Refusal.BadHeadword
    ∷ number_of Refusal.BadText
    ∷ number_of Refusal.ShortOutput
    ∷ number_of Refusal.Full
    ∷ number_of Refusal.BadParts
    ∷ [])
    (1 ∷ 2 ∷ 3 ∷ 4 ∷ 5 ∷ 6 ∷ 7 ∷ 8 ∷ 9 ∷ 10 ∷ 11 ∷ 12 ∷ 13 ∷ 14 ∷ 15 ∷ 16 ∷ [])
    ∷ gives (code (check_answer (Ok (record { headwords = 1; index_blocks = 2; data_blocks = 3; free_blocks = 4 }))) ∷ code (check_answer (Err Refusal.BadBlocks)) ∷ []) (0 ∷ 9 ∷ [])
    ∷ gives (code_or_absent (look_up_answer (Ok (Some (record { attribute = 1; text_length = 2 })))) ∷ code_or_absent (look_up_answer (Ok None))
    ∷ code_or_absent (look_up_answer (Err Refusal.ShortOutput)) ∷ []) (0 ∷ 100 ∷ 14 ∷ [])
    ∷ gives (lent_number (λ c. c.headwords) 77 (check_answer (Ok (record { headwords = 1; index_blocks = 2; data_blocks = 3; free_blocks = 4 })))
    ∷ lent_number (λ c. c.headwords) 77 (check_answer (Err Refusal.BadBlocks)) ∷ []) (1 ∷ 77 ∷ [])
    ∷ gives
    (lent_number_or_absent (λ f. f.text_length) 77 (look_up_answer (Ok (Some (record { attribute = 1; text_length = 2 }))))
    ∷ lent_number_or_absent (λ f. f.text_length) 77 (look_up_answer (Ok None))
    ∷ lent_number_or_absent (λ f. f.text_length) 77 (look_up_answer (Err Refusal.ShortOutput))
    ∷ [])
    (2 ∷ 77 ∷ 77 ∷ [])
    ∷ after file4 1_792 two_free free_probes
    -- optimise: zeros from the new L, 1,280, to the old, 1,792; what stands past the old is kept
    ∷ after file4 1_794 (two_free ++ store 1_792 (7 ∷ 8 ∷ []) ∷ opt ∷ []) (stores 1_278 (0 ∷ 0 ∷ zeros 512 ++ 7 ∷ 8 ∷ []) ∷ [])
    -- what a deletion leaves is cut too
    ∷ after file4 1_792 long_run (lays_out (1_792 ∷ []) 1 (0 ∷ 2 ∷ []) [] ∷ [])
    -- a growth by one: the run at block 0 is moved, the one at block 1 stays
    ∷ after file4 3_328 (ins (ascii "c") (t 100) ∷ ins (ascii "b") (t 1_000) ∷ ins (t 248) [] ∷ ins (replicate 248 98) [] ∷ []) (lays_out (3_328 ∷ []) 3 (0 ∷ 3 ∷ 7 ∷ 2 ∷ []) [] ∷ [])
    -- "If it must grow by g and D is below g, D becomes g.": g is 3 and D 2, so the run at 0 goes to 3, that at 1 to 4, and D to 5; then all fall by 3
    ∷ gives (told_grown (grown 3 2 (one_block 1 ∷ []) (one_block 0 ∷ []))) (1 ∷ 0 ∷ 2 ∷ [])
    -- the lowest of three free extents of one length
    ∷ after file4 4_352 equal_extents (lays_out (4_352 ∷ []) 1 (3 ∷ 9 ∷ 0 ∷ []) (6 ∷ 7 ∷ 8 ∷ 12 ∷ 13 ∷ 14 ∷ []) ∷ [])
    -- a growth by two with two moved runs: the runs, empty_block2 to nblock2, the last bytes of a moved run, and a link of the free list
    ∷ after file4 4_352 two_moved (lays_out (4_352 ∷ []) 3 (1 ∷ 0 ∷ 3 ∷ 8 ∷ 4 ∷ []) (6 ∷ 7 ∷ []) ∷ stores 186 (6 ∷ 0 ∷ 0 ∷ 0 ∷ 5 ∷ 0 ∷ 0 ∷ 0 ∷ 11 ∷ 0 ∷ 0 ∷ 0 ∷ [])
    ∷ stores 1_278 (9 ∷ 9 ∷ []) ∷ stores 2_560 (0 ∷ 0 ∷ 7 ∷ 0 ∷ 0 ∷ 0 ∷ []) ∷ [])
    -- create: another version is 3, but 1 comes before; a file of version 5 with identifiers 0, 1 and 2^64 - 1, and low byte first
    ∷ creates (file_of 6 1) (lent 255) (refusal 1) (lent 255)
    ∷ creates (file_of 6 1) (lent 256) (refusal 3) (lent 256)
    ∷ creates (file_of 3 1) (lent 258) (refusal 3) (lent 258)
    ∷ creates (file_of 0x85 1) (lent 256) (refusal 3) (lent 256)
    ∷ creates file5 (lent 255) (refusal 1) (lent 255)
    ∷ creates file5 (lent 258) (256 ∷ []) (empty5 ident5 ++ lent 2)
    ∷ creates (file_of 5 0) (lent 256) (256 ∷ []) (empty5 (zeros 8))
    ∷ creates (file_of 5 1) (lent 256) (256 ∷ []) (empty5 (1 ∷ zeros 7))
    ∷ creates (file_of 5 0xFFFFFFFFFFFFFFFF) (lent 256) (256 ∷ []) (empty5 (replicate 8 0xFF))
    ∷ after file5 256 [] (checks 256 (0 ∷ 0 ∷ 0 ∷ 0 ∷ []) ∷ prints (ascii "     0     0     0     0\n") ∷ [])
    ∷ after file5 768 two_entries version_probes
    ∷ after file5 768 (two_entries ++ strange_header5 ++ ins (ascii "ABC") (ascii "one") ∷ []) (checks 768 (2 ∷ 1 ∷ 1 ∷ 0 ∷ []) ∷ stores 0 strange_bytes5 ∷ [])
    -- a growth by two, and an optimising, in version 5
    ∷ after file5 4_352 two_moved (lays_out (4_352 ∷ []) 3 (1 ∷ 0 ∷ 3 ∷ 8 ∷ 4 ∷ []) (6 ∷ 7 ∷ []) ∷ stores 184 (zeros 4 ++ 6 ∷ 0 ∷ 0 ∷ 0 ∷ 5 ∷ 0 ∷ 0 ∷ 0 ∷ 11 ∷ 0 ∷ 0 ∷ 0 ∷ [])
    ∷ stores 216 ident5 ∷ optimised (lays_out (3_840 ∷ []) 3 (0 ∷ 2 ∷ 3 ∷ 4 ∷ 9 ∷ []) []) ∷ optimised (stores 1_790 (9 ∷ 9 ∷ [])) ∷ optimised (stores 3_840 (zeros 512)) ∷ [])
    ∷ after file5 1_794 (two_free ++ store 1_792 (7 ∷ 8 ∷ []) ∷ opt ∷ []) (stores 1_278 (0 ∷ 0 ∷ zeros 512 ++ 7 ∷ 8 ∷ []) ∷ stores 188 (0xFF ∷ 0xFF ∷ 0xFF ∷ 0xFF ∷ 1 ∷ [])
    ∷ stores 216 ident5 ∷ [])
    ∷ []

-- THE THEOREM: every row holds
unfoldable pub CasesHold : Type 0
CasesHold = T (all case_holds (cases ++ optimise_cases ++ position_cases ++ pair_cases))

-- names all definitions of this module: who unfolds it unfolds them
unfoldable pub open_cases : Unit {0}
unfolding open_answers probe_holds patched optimised case_holds file_of front5 empty5 ident5 version_probes strange_header5 strange_bytes5 strange_header strange_bytes
    strange_entry two_entries two_free xq xr two_moved long_run equal_extents one_block
    told_grown check_probes run_probes long_headword_probes long_text_probes look_up_probes walk_probes refusal_probes bytes_probes deleted_probes free_probes
    spare_blocks idle_index none_free optimise_cases position_cases pair_runs pair_whole pair_cut two_texts pair_cases cases CasesHold
open_cases = tt
