-- The arrays are named by their lengths, so that nothing goes through their elements.
use Rattle.std.proofs.Common.{ℕ, ◌≤◌, sym, length, replicate, arith}
use Rattle.std.proofs.lemmas.List.{length-replicate}
use Rattle.list.proofs.main.Goals as goal

-- n equal bytes
as_long : (n : ℕ) → n ≤ length {A = ℕ} (replicate n 0)
as_long n = rw (length-replicate {A = ℕ} n 0) (omega arith)

pub slice_bounds-print_list-end : goal.slice_bounds-print_list-end
slice_bounds-print_list-end c = sym (length-replicate {A = ℕ} 65_537 0)

pub slice_bounds-print_list-end-2 : goal.slice_bounds-print_list-end-2
slice_bounds-print_list-end-2 c = sym (length-replicate {A = ℕ} 4_000_000 0)

pub print_list-requires : goal.print_list-requires
print_list-requires c = as_long 4_000_000
