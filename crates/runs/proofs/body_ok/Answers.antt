use Rattle.std.proofs.Common.{arith, sym, ◌∙◌}
use Rattle.std.proofs.lemmas.Grind.{common_steps}
use Rattle.spec.specs.Entry.{text_ok}
use Rattle.runs.proofs.Returns.{body_apart, text_length, body_attribute, body_long}
use Rattle.runs.proofs.body_ok.Goals as goal
use Rattle.runs.proofs.body_ok.Goals.{then-attribute_ok, else-attribute_ok}

pub returns-then-end-from-le-LONGEST_TEXT : goal.returns-then-end-from-le-LONGEST_TEXT
unfolding text_ok
returns-then-end-from-le-LONGEST_TEXT c =
    let apart = body_apart c.args.run.now c.args.from c.args.end c.requires.0 c.requires.1 _ c.attribute_ok.ensures in
    let long = text_length c.args.run.now c.args.from c.args.end c.requires.0 c.requires.1 _ c.attribute_ok.ensures in
    grind (arith, common_steps)

pub returns-else-end-from-le-LONGEST_TEXT : goal.returns-else-end-from-le-LONGEST_TEXT
returns-else-end-from-le-LONGEST_TEXT c =
    let refused = c.if-end-from-le-LONGEST_TEXT.false in
    elim c.if-attribute_ok.branch [
      | then-attribute_ok w ↦ refused ∙ body_long _ _ _ c.requires.0 c.requires.1 _ c.attribute_ok.ensures w.if-attribute_ok.true (sym w.value-is ∙ refused)
      | else-attribute_ok w ↦ refused ∙ body_attribute _ _ _ c.requires.0 c.requires.1 _ c.attribute_ok.ensures w.if-attribute_ok.false
    ]
