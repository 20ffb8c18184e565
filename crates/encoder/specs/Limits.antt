-- The most that is encoded: by these numbers sums do not overflow, and buffers are long enough.
use Rattle.std.specs.Prelude.{ℕ}

-- bytes of a headword
abbrev pub longest_headword : ℕ
longest_headword = 248

-- bytes of a body: an attribute and a text
abbrev pub longest_body : ℕ
longest_body = 3_001

-- bytes of an entry: field length, shared front, headword, zero byte, body
abbrev pub longest_entry : ℕ
longest_entry = 3_253

-- blocks of a run of such an entry
abbrev pub longest_run : ℕ
longest_run = 13
