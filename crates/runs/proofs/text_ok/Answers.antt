use Rattle.std.proofs.Common.{arith, refl}
use Rattle.std.proofs.lemmas.Grind.{common_steps}
use Rattle.spec.specs.Entry.{text_ok}
use Rattle.spec.proofs.PartLaws.{rest_at}
use Rattle.runs.proofs.text_ok.Goals as goal

pub returns-then-t-le-LONGEST_TEXT : goal.returns-then-t-le-LONGEST_TEXT
unfolding text_ok
returns-then-t-le-LONGEST_TEXT c =
    let t = c.args.t.now in
    let whole = rest_at t 0 _ refl in
    grind (arith, common_steps)

pub returns-else-t-le-LONGEST_TEXT : goal.returns-else-t-le-LONGEST_TEXT
unfolding text_ok
returns-else-t-le-LONGEST_TEXT c = grind (arith, common_steps)
