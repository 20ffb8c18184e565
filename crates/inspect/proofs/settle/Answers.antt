use native.Mathlib.Omega.{arith}
use Rattle.marks.proofs.Laws.{length_marks}
use Rattle.inspect.proofs.Laws.{settle_many, settle_length, settle_gap, settle_words, settle_blocks, settle_sound}
use Rattle.inspect.proofs.settle.Goals as goal

pub returns-then-d-blocks : goal.returns-then-d-blocks
returns-then-d-blocks c = settle_many _ _ _ _ c.requires.runs_read c.if-d-blocks.true

pub returns-then-not-read_free_list : goal.returns-then-not-read_free_list
returns-then-not-read_free_list c =
    settle_length _ _ _ _ c.requires.runs_read (search) _ c.empty_block2-first.ensures.value _ c.requires.area_value.0 _ c.requires.area_value.1
    _ c.read_free_list.ensures.value (search)

pub returns-then-next_unmarked-d : goal.returns-then-next_unmarked-d
returns-then-next_unmarked-d c =
    let read = c.read_free_list.ensures in
    settle_gap _ _ _ _ c.requires.runs_read (search) _ c.empty_block2-first.ensures.value _ c.requires.area_value.0 _ c.requires.area_value.1 _ read.value (search)
    _ read.marked _ (length_marks _) c.requires.d_value.1 _
    c.next_unmarked.ensures.0 c.if-next_unmarked-d.true

pub returns-then-nword-v : goal.returns-then-nword-v
returns-then-nword-v c =
    let read = c.read_free_list.ensures in
    settle_words _ _ _ _ c.requires.runs_read (search) _ c.empty_block2-first.ensures.value _ c.requires.area_value.0 _ c.requires.area_value.1 _ read.value (search)
    _ read.marked _ (length_marks _) c.requires.d_value.1 _
    c.next_unmarked.ensures.0 c.if-next_unmarked-d.false _ c.nword.ensures.value (search)

pub nblock2-requires : goal.nblock2-requires
nblock2-requires c = omega (arith, c.requires.d_value.0)

pub returns-then-nblock2-blocks : goal.returns-then-nblock2-blocks
returns-then-nblock2-blocks c =
    let read = c.read_free_list.ensures in
    settle_blocks _ _ _ _ c.requires.runs_read (search) _ c.empty_block2-first.ensures.value _ c.requires.area_value.0 _ c.requires.area_value.1 _ read.value (search)
    _ read.marked _ (length_marks _) c.requires.d_value.1 _
    c.next_unmarked.ensures.0 c.if-next_unmarked-d.false _ c.nword.ensures.value (search) _ c.nblock2.ensures.value
    (search)

pub returns : goal.returns
returns c =
    let read = c.read_free_list.ensures in
    settle_sound _ _ _ _ c.requires.runs_read (search) _ c.empty_block2-first.ensures.value _ c.requires.area_value.0 _ c.requires.area_value.1 _ read.value (search)
    _ read.marked _ (length_marks _) c.requires.d_value.1 _
    c.next_unmarked.ensures.0 c.if-next_unmarked-d.false _ c.nword.ensures.value (search) _ c.nblock2.ensures.value
    (search) _ _ _ c.requires.free_value c.requires.d_value.2 read.marks_free
