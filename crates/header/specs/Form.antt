-- What a file fixes, as the code carries it.
use Rattle.std.specs.Prelude.{◌≡◌, ℕ, ◌+◌, ◌-◌, ◌%◌, ◌<◌, ◌≤◌, List, length, take, drop}
use Rattle.spec.specs.Order.{below_of}
use Rattle.spec.specs.Header.{Layout, Format, format_of, block_position}
use Rattle.spec.specs.Check.{Frame}
use Rattle.byteops.specs.Width.{Width}
use Rattle.header.specs.declared.Form.{Form}

-- the layout that the header of an image names
abbrev pub layout_named : List ℕ → Layout
layout_named s = (format_of s).layout

-- "D over 65,536": the most data blocks with block numbers of that width
abbrev pub most_of : ℕ → ℕ
most_of width = 65_536

-- the format of a file with that layout and form
abbrev pub format_by : Layout → Form → Format
format_by o f =
    record {
      layout = o;
      extended = f.extended;
      number_width = f.width;
      most_blocks = most_of f.width;
      below = below_of f.order;
      run_limit = f.limit;
    }

-- the frame of n index blocks and d data blocks of such a file
abbrev pub frame_by : Layout → Form → ℕ → ℕ → Frame
frame_by o f n d = record { format = format_by o f; index_blocks = n; data_blocks = d }

-- a form that the code takes: block numbers of two or four bytes, a limit that its buffers hold, and an extended header in whole blocks
abbrev pub GoodForm : Form → Type 0
GoodForm f = Width f.width × (f.limit ≤ 1_024) × (f.extended < 4_294_967_296) × (f.extended % 256 ≡ 0)

-- bytes in front of the index
abbrev pub index_start : Form → ℕ
index_start f = 256 + f.extended

-- the position of the first data block, behind n index blocks
abbrev pub area_start : Form → ℕ → ℕ
area_start f n = block_position f.extended n 0

-- the index and the data area of an image whose data blocks begin at `start`, as the code cuts them out
abbrev pub index_cut : Form → List ℕ → ℕ → List ℕ
index_cut f s start = take (start - index_start f) (drop (index_start f) s)

abbrev pub data_cut : List ℕ → ℕ → List ℕ
data_cut s start = take (length s - start) (drop start s)

-- those of an image with n index blocks
abbrev pub index_part : Form → List ℕ → ℕ → List ℕ
index_part f s n = index_cut f s (area_start f n)

abbrev pub data_part : Form → List ℕ → ℕ → List ℕ
data_part f s n = data_cut s (area_start f n)
