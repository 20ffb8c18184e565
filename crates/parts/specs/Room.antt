-- What the buffer of a part holds.
use Rattle.std.specs.Prelude.{ℕ}

-- its bytes: the blocks of the longest run
abbrev pub part_room : ℕ
part_room = 3_328

-- the largest limit by which a part has no more bytes than the longest entry
abbrev pub largest_limit : ℕ
largest_limit = 3_257
