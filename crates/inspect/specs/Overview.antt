-- What testing an image whole tells of it.
use Rattle.std.specs.Prelude.{ℕ, ◌-◌, ◌≡◌, Bool, false, Result, Ok, Err, List, ◌++◌, length, replicate}
use Rattle.spec.specs.Answers.{number_of}
use Rattle.spec.specs.declared.Refusal.{Refusal}
use Rattle.spec.specs.Order.{below_of}
use Rattle.spec.specs.Outcome.{refused, ok}
use Rattle.spec.specs.Header.{format_of, get}
use Rattle.spec.specs.Run.{Run}
use Rattle.spec.specs.Index.{Element, index_from}
use Rattle.spec.specs.Blocks.{run_blocks, free_marks}
use Rattle.spec.specs.Check.{Image, index_area, frame_from, runs_from, image_from, all_entries, entries_of}
use Rattle.header.specs.declared.Form.{Form}
use Rattle.header.specs.Form.{layout_named, frame_by, GoodForm, index_part, data_part}
use Rattle.index.specs.Elements.{elements_end}
use Rattle.tally.specs.Tally.{covered}
use Rattle.inspect.specs.declared.Overview.{Overview}

-- where the elements end in the index of an image of that form with n index blocks
abbrev pub index_end : Form → List ℕ → ℕ → ℕ
index_end f s n = elements_end f.width (index_part f s n) 0 (get (layout_named s).nindex2 s)

-- an accepted image, of which v tells
pub record AcceptedImage (s : List ℕ) (v : Overview) : Type 0 where
  pub image : Image
  pub is : image_from s ≡ ok image
  pub frame_is : image.frame ≡ frame_by (layout_named s) v.form v.n v.d
  pub good : GoodForm v.form
  pub words_are : v.words ≡ length (entries_of image)
  pub end_is : v.end ≡ index_end v.form s v.n

-- the marks of its free blocks, then none up to the table's end
abbrev pub FreeMarked : List ℕ → List Bool → Type 0
FreeMarked s ms = (i : Image) → image_from s ≡ ok i → ms ≡ free_marks i.frame.data_blocks i.free_list ++ replicate (length ms - i.frame.data_blocks) false

-- the answer about the image s, with the marks then
abbrev pub Told : List ℕ → List Bool → Result Overview Refusal → Type 0
Told s ms (Ok v) = AcceptedImage s v × FreeMarked s ms
Told s ms (Err r) = image_from s ≡ refused (number_of r)

-- an image that keeps rows 3 to 8, all its runs read: its form, its blocks and where its elements end, its entries and the blocks of its runs counted and these marked
pub record RunsRead (s : List ℕ) (v : Overview) (blocks : ℕ) (ms : List Bool) : Type 0 where
  pub frame : frame_from (format_of s) s ≡ ok (frame_by (layout_named s) v.form v.n v.d)
  pub good : GoodForm v.form
  pub elements : List Element
  pub index : index_from v.form.width (below_of v.form.order) v.n (get (layout_named s).nindex2 s) (index_area (frame_by (layout_named s) v.form v.n v.d) s) ≡ ok elements
  pub end_is : v.end ≡ index_end v.form s v.n
  pub runs : List Run
  pub read : runs_from (below_of v.form.order) v.d (data_part v.form s v.n) elements ≡ ok runs
  pub words_are : v.words ≡ length (all_entries runs)
  pub blocks_are : blocks ≡ run_blocks runs
  pub marked : ms ≡ covered runs (replicate (length ms) false)
