-- `read_free_list` meets its contract.
use Rattle.freelist.proofs.Reading.{Sofar}
use Rattle.freelist.proofs.read_free_list.Given as goal

abbrev pub invariant-loop : goal.invariant-loop
invariant-loop l = Sofar l.area.bytes.now l.area.blocks l.first l.count l.initial.used l.initial.free l.used l.free l.b l.counter
