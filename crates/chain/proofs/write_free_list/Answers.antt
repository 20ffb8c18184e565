-- What is left of the list, written over what stands there now, is the whole list written.
use Rattle.std.proofs.Common.{rules, arith}
use Rattle.chain.proofs.Laws.{gap_next, chain_turn, chain_laws}
use Rattle.chain.proofs.write_free_list.Goals as goal

pub loop-b-init : goal.loop-b-init
loop-b-init c = search chain_laws

pub loop-b-preserved : goal.loop-b-preserved
loop-b-preserved c =
    let l = c.loop-b in
    let n = c.next_marked-next in (
      omega arith,
      omega arith,
      search (gap_next, rules),
      chain_turn _ _ _ l.image _ _ _ _ _ l.b n.result _ _ l.invariant.3 l.invariant.2 n.ensures.0 c.position-at.ensures c.link.ensures
          c.write_u16.ensures.dst_after c.write_u32.ensures.dst_after
          (omega arith) (omega arith) (omega arith) (omega arith) (omega arith),
    )

pub returns-clause-image_after : goal.returns-clause-image_after
returns-clause-image_after c = search chain_laws

pub returns-clause-value : goal.returns-clause-value
returns-clause-value c = search chain_laws
