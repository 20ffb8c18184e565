-- `give_entry` meets its contract.
use Rattle.reader.proofs.Found.{entry_long, entry_short, entry_given}
use Rattle.reader.proofs.give_entry.Goals as goal

pub returns-then-out-headword_length : goal.returns-then-out-headword_length
returns-then-out-headword_length c = search entry_long

pub returns-then-text-text_length : goal.returns-then-text-text_length
returns-then-text-text_length c = search entry_short

pub returns : goal.returns
returns c = search entry_given
