-- `pdic_optimise` meets its contract.
use Rattle.pdic.proofs.Laws.{change_told, optimise_number}
use Rattle.pdic.proofs.pdic_optimise.Goals as goal

pub returns : goal.returns
returns c =
    let promised = c.optimise.ensures in
    let number = optimise_number _ c.args.new_len.now _ c.tell_length.ensures.returned promised.never_fifteen promised.known_number in
    record { new_len_after = search change_told; never_fifteen = number.0; known_number = number.1 }
