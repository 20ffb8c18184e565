-- `put_entry` meets its contract.
use Prim.Native.Nat.{◌+◌, ◌-◌}
use mathlib.Core.Path.{◌≡◌, sym}
use native.Mathlib.Omega.{arith}
use lib.ListN.{length}
use Rattle.spec.specs.Entry.{entry_bytes}
use Rattle.encoder.proofs.Laws.{entry_measured, entry_stored}
use Rattle.encoder.proofs.put_entry.Goals as goal

pub write_u16-requires : goal.write_u16-requires
write_u16-requires c =
    let size : length (entry_bytes c.args.prev.now (record { headword = c.args.headword.now; body = c.args.body.now }))
    ≡ 4 + (length c.args.headword.now - c.shared_front-front.result) + length c.args.body.now =
    sym (search entry_measured) in
    omega (arith, size)

pub write_u8-requires : goal.write_u8-requires
write_u8-requires c =
    let size : length (entry_bytes c.args.prev.now (record { headword = c.args.headword.now; body = c.args.body.now }))
    ≡ 4 + (length c.args.headword.now - c.shared_front-front.result) + length c.args.body.now =
    sym (search entry_measured) in
    omega (arith, size)

pub copy-requires : goal.copy-requires
copy-requires c =
    let size : length (entry_bytes c.args.prev.now (record { headword = c.args.headword.now; body = c.args.body.now }))
    ≡ 4 + (length c.args.headword.now - c.shared_front-front.result) + length c.args.body.now =
    sym (search entry_measured) in
    (omega (arith, size), omega arith)

pub write_u8-requires-2 : goal.write_u8-requires-2
write_u8-requires-2 c =
    let size : length (entry_bytes c.args.prev.now (record { headword = c.args.headword.now; body = c.args.body.now }))
    ≡ 4 + (length c.args.headword.now - c.shared_front-front.result) + length c.args.body.now =
    sym (search entry_measured) in
    omega (arith, size)

pub copy-requires-2 : goal.copy-requires-2
copy-requires-2 c =
    let size : length (entry_bytes c.args.prev.now (record { headword = c.args.headword.now; body = c.args.body.now }))
    ≡ 4 + (length c.args.headword.now - c.shared_front-front.result) + length c.args.body.now =
    sym (search entry_measured) in
    (omega (arith, size), omega arith)

pub returns-clause-dst_after : goal.returns-clause-dst_after
returns-clause-dst_after c = entry_stored _ _ _ _ _ _ _ _ _ _ _
    c.shared_front-front.ensures.value
    c.requires.body_in_bounds
    c.write_u16.ensures.dst_after
    c.write_u8.ensures.dst_after
    c.copy.ensures.dst_after
    c.write_u8-2.ensures.dst_after
    c.copy-2.ensures.dst_after
