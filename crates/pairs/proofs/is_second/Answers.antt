-- How many lead bytes stand right before the byte at n.
use Prim.Native.Nat.{ℕ, ◌%◌}
use mathlib.Core.Path.{ap, ◌∙◌}
use lib.Dec.{eqb}
use lib.ListN.{take}
use Rattle.std.proofs.Common.{rules, tests, reverse}
use Rattle.std.proofs.lemmas.Iterator.Adapters.{YieldsList-from_rev_slice}
use Rattle.std.proofs.lemmas.Iterator.Consumers.{count_from_yields_List}
use Rattle.std.proofs.lemmas.Iterator.Search.{YieldsList-from_take_while}
use Rattle.std.proofs.lemmas.List.Folds.{length-prefix_len}
use Rattle.spec.specs.Pairs.{is_lead}
use Rattle.pairs.proofs.Laws.{leads_before}
use Rattle.pairs.proofs.is_second.Goals as goal

pub returns : goal.returns
returns c =
    let leads = count_from_yields_List c.take_while.result _ c.count-leads.ensures.ran
    (YieldsList-from_take_while _ is_lead (YieldsList-from_rev_slice (take c.args.n c.args.s.now) (cc)) c.take_while.ensures.closure c.take_while.ensures.done (λ x b q k. search (rules, tests)))
    ∙ length-prefix_len is_lead (reverse (take c.args.n c.args.s.now)) in
    ap (λ (m : ℕ). eqb (m % 2) 1) leads ∙ leads_before _ _ c.requires
