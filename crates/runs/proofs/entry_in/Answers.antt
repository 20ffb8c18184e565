use Rattle.runs.proofs.Returns.{no_body, not_above, word_room, bad_body, made, made_inside}
use mathlib.Core.Path.{refl}
use borrow.Author.Rules.{rules}
use Rattle.runs.proofs.entry_in.Goals as goal

pub returns-then-end-zero-clause-result_after : goal.returns-then-end-zero-clause-result_after
returns-then-end-zero-clause-result_after c = search no_body

pub returns-then-not-follows-clause-result_after : goal.returns-then-not-follows-clause-result_after
returns-then-not-follows-clause-result_after c = search not_above

pub returns-then-not-body_ok-clause-result_after : goal.returns-then-not-body_ok-clause-result_after
returns-then-not-body_ok-clause-result_after c = search bad_body

pub copy_over-requires : goal.copy_over-requires
copy_over-requires c = (
  word_room _ c.args.run.now _ c.args.held _ _ c.args.field.end _ _ c.follows.ensures (search) (search) (search) (search)
      (search),
  search rules,
)

pub returns-clause-result_after : goal.returns-clause-result_after
returns-clause-result_after c =
    made _ _ _ c.args.held _ _ _ _ c.first_zero-zero.ensures.value (search) (search) _ c.follows.ensures (search) (search) _ c.body_ok.ensures (search) (search) (search)
    (search) _ c.copy_over.ensures.dst_after

pub returns-clause-inside : goal.returns-clause-inside
returns-clause-inside c =
    made_inside _ _ _ c.args.held _ _ _ _ c.first_zero-zero.ensures.value (search) (search) _ c.follows.ensures (search) (search) _ c.body_ok.ensures (search) (search)
    (search) (search) _ refl
