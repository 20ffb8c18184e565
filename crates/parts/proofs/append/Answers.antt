-- `append` meets its contract.
use native.Mathlib.Omega.{arith}
use lib.ListN.{length, take}
use Prim.Native.Nat.{◌+◌, ◌≤◌}
use mathlib.Core.Path.{◌≡◌}
use mathlib.Core.Logic.{◌⊎◌, inl, inr}
use Rattle.parts.proofs.Laws.{append_full, append_done, last_renewed}
use Rattle.parts.proofs.append.Goals as goal
use Rattle.parts.proofs.append.Goals.{else-used-gt0-via-then-used-gt0+else-limit-whole, else-used-gt0-via-else-used-gt0}

pub returns-then-limit-whole-clause-appended : goal.returns-then-limit-whole-clause-appended
returns-then-limit-whole-clause-appended c =
    append_full _ _ _ _ _ _ c.args.part.now c.args.part.now c.args.last.now c.entry_size-size.ensures.value c.if-used-gt0.true (omega (arith, c.if-limit-whole.true))

pub returns-clause-appended : goal.returns-clause-appended
returns-clause-appended c =
    let room : (c.args.used ≡ 0) ⊎ (c.args.used + c.entry_size-size.result + 4 ≤ c.args.limit) =
    elim c.else-used-gt0.branch [ else-used-gt0-via-then-used-gt0+else-limit-whole w ↦ inr (omega arith) | else-used-gt0-via-else-used-gt0 w ↦ inl (omega arith) ] in
    let renewed : take (length c.args.headword.now) c.copy.new.dst ≡ c.args.headword.now = last_renewed _ _ _ c.copy.ensures.dst_after in
    append_done _ _ _ _ _ _ _ _ _ c.entry_size-size.ensures.value room (omega arith) c.put_entry.ensures.dst_after renewed
