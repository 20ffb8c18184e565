-- `count` meets its contract.
use Rattle.std.proofs.Common.{rules, ◌≡◌}
use Rattle.std.specs.List.{sum_by}
use lib.Count.{ones}
use Rattle.marks.proofs.Laws.{count_words}
use Rattle.marks.proofs.count.Goals as goal

pub returns : goal.returns
returns c =
    let n : c.sum.result ≡ sum_by ones c.args.ws.now = search rules in
    rw n (count_words c.args.ws.now (λ k. (c.type_inv.ws k).fits))
