-- Each part is zero, and the last bytes are.
use Rattle.std.proofs.Common.{rules, tests}
use Rattle.std.proofs.lemmas.Iterator.Search.{all_from_yields_List}
use Rattle.spec.specs.Bytes.{is_zero, all_zero}
use Rattle.scans.proofs.Parts.{parts_of, parts_pass, parts_fail}
use Rattle.scans.proofs.all_zero_by.Goals as goal

pub returns-then-all : goal.returns-then-all
unfolding all_zero
returns-then-all g c =
    parts_pass is_zero g.row.PART c.args.s.now c.all.result c.requires.0 c.requires.1
    (all_from_yields_List all_zero _ _ c.all.result c.all.ensures.ran (parts_of c.chunks_exact.result g.row.PART c.args.s.now c.requires.0 c.chunks_exact.ensures.size c.chunks_exact.ensures.rest)
    (λ x b q k. search (rules, tests)))
    _ c.if-all.true c.all_zero_flat.ensures

pub returns-else-all : goal.returns-else-all
unfolding all_zero
returns-else-all g c =
    parts_fail is_zero g.row.PART c.args.s.now c.all.result c.requires.0 c.requires.1
    (all_from_yields_List all_zero _ _ c.all.result c.all.ensures.ran (parts_of c.chunks_exact.result g.row.PART c.args.s.now c.requires.0 c.chunks_exact.ensures.size c.chunks_exact.ensures.rest)
    (λ x b q k. search (rules, tests)))
    c.if-all.false
