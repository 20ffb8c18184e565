-- `listing` meets its contract.
use native.Mathlib.Omega.{arith}
use Rattle.listing.proofs.Images.{listed_short, listed_whole, list_end, list_stored}
use Rattle.listing.proofs.listing.Goals as goal

pub returns-then-out-lt-LONGEST_LIST : goal.returns-then-out-lt-LONGEST_LIST
returns-then-out-lt-LONGEST_LIST c =
    let k = listed_short _ c.args.out.now c.if-out-lt-LONGEST_LIST.true in
    record { value = (k.0, omega arith); out_after = k.1 }

pub returns-clause-value : goal.returns-clause-value
returns-clause-value c = (search (list_end, listed_whole), omega arith)

pub returns-clause-out_after : goal.returns-clause-out_after
returns-clause-out_after c = search (list_stored, listed_whole)
