-- What is written at a block's position, for the crates above.
use Rattle.std.proofs.Common.{◌≡◌, ℕ, ◌-◌, ◌*◌, ◌≤◌, List, ◌++◌, length, take, drop, sym, ap, ◌∙◌, arith, take-append-drop, length-take-le}
use Rattle.spec.specs.Bytes.{write}
use Rattle.spec.specs.Header.{block_position}
use Rattle.spec.proofs.WriteLaws.{write_right}

-- bytes written at the position of block b are written 256 * b bytes into the data area
pub write_block : (extended index : ℕ) (x s : List ℕ) (b at : ℕ) → at ≡ block_position extended index b → let start : ℕ = block_position extended index 0 in
    start ≤ length s → write at x s ≡ take start s ++ write (256 * b) x (drop start s)
write_block extended index x s b at p h =
    let start : ℕ = block_position extended index 0 in
    let l : length (take start s) ≡ start = length-take-le start s h in
    let o : at - length (take start s) ≡ 256 * b = omega arith in
    ap (write at x) (sym (take-append-drop start s)) ∙ write_right at x (take start s) (drop start s) (omega arith)
    ∙ ap (λ (k : ℕ). take start s ++ write k x (drop start s)) o
