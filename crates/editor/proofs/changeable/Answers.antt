-- `changeable` meets its contract.
use mathlib.Core.Path.{sym}
use Rattle.std.proofs.lemmas.Result.{err_from_is_err_and}
use Rattle.editor.proofs.Rows.{change_refused, change_eleven}
use Rattle.editor.proofs.changeable.Goals as goal

pub returns-in_err-v-clause-changeable : goal.returns-in_err-v-clause-changeable
returns-in_err-v-clause-changeable c =
    let p = c.requires.in_bounds in
    let e = err_from_is_err_and c.from_residual.result c.from_residual.ensures.1 in
    rw (e.1, e.2) (λ work enough. change_refused _ _ work p.0 p.1 p.2 enough _ c.in_err-v.ensures)

pub returns-then-not-writable-clause-changeable : goal.returns-then-not-writable-clause-changeable
returns-then-not-writable-clause-changeable c =
    let p = c.requires.in_bounds in
    λ work enough. change_eleven _ _ work p.0 p.1 p.2 enough _ c.in_ok-v.ensures.0 (sym c.if-not-writable.ensures)
