-- The widths of numbers that a file may fix.
use Rattle.std.specs.Prelude.{ℕ, ◌%◌, ◌≤◌, ◌≡◌}

-- two or four bytes
abbrev pub Width : ℕ → Type 0
Width w = (2 ≤ w) × (w ≤ 4) × (w % 2 ≡ 0)
