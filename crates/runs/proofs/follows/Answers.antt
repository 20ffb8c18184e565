use Rattle.runs.proofs.Returns.{front_long, word_long, prev_shared, rest_none, first_differs, tails_told}
use Rattle.runs.proofs.follows.Goals as goal

pub returns-then-prev-front : goal.returns-then-prev-front
returns-then-prev-front c = search front_long

pub returns-then-front-rest-gt-LONGEST_HEADWORD : goal.returns-then-front-rest-gt-LONGEST_HEADWORD
returns-then-front-rest-gt-LONGEST_HEADWORD c = search word_long

pub returns-then-prev-front-2 : goal.returns-then-prev-front-2
returns-then-prev-front-2 c = search prev_shared

pub returns-then-rest-eq0 : goal.returns-then-rest-eq0
returns-then-rest-eq0 c = search rest_none

pub returns-then-prev-front-3 : goal.returns-then-prev-front-3
returns-then-prev-front-3 c = search first_differs

pub returns : goal.returns
returns c = search tails_told
