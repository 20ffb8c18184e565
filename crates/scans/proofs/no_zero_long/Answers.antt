-- Each part holds no zero byte, and the last bytes hold none.
use native.Mathlib.Omega.{arith}
use Rattle.std.proofs.Common.{rules, tests}
use Rattle.std.proofs.lemmas.Iterator.Search.{all_from_yields_List}
use Rattle.spec.specs.Bytes.{no_zero, not_zero}
use Rattle.scans.proofs.Parts.{parts_of, parts_pass, parts_fail}
use Rattle.scans.proofs.no_zero_long.Goals as goal

pub returns-then-all : goal.returns-then-all
unfolding no_zero
returns-then-all c =
    parts_pass not_zero 64 c.args.s.now c.all.result (omega arith) c.requires
    (all_from_yields_List no_zero _ _ c.all.result c.all.ensures.ran (parts_of c.chunks_exact.result 64 c.args.s.now (omega arith) c.chunks_exact.ensures.size c.chunks_exact.ensures.rest)
    (λ x b q k. search (rules, tests)))
    _ c.if-all.true c.no_zero_flat.ensures

pub returns-else-all : goal.returns-else-all
unfolding no_zero
returns-else-all c =
    parts_fail not_zero 64 c.args.s.now c.all.result (omega arith) c.requires
    (all_from_yields_List no_zero _ _ c.all.result c.all.ensures.ran (parts_of c.chunks_exact.result 64 c.args.s.now (omega arith) c.chunks_exact.ensures.size c.chunks_exact.ensures.rest)
    (λ x b q k. search (rules, tests)))
    c.if-all.false
