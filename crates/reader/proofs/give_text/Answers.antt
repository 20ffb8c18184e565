-- `give_text` meets its contract.
use Rattle.reader.proofs.Found.{text_short, text_given}
use Rattle.reader.proofs.give_text.Goals as goal

pub returns-then-text-text_length : goal.returns-then-text-text_length
returns-then-text-text_length c = search text_short

pub returns : goal.returns
returns c = search text_given
