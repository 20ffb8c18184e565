use Rattle.std.proofs.Common.{◌≡◌, ℕ, eqb, arith}
use Rattle.std.specs.Prelude.{bit_and}
use Rattle.std.proofs.lemmas.Grind.{common_steps}
use Rattle.std.proofs.lemmas.Nat.Bits.{and_pow}
use Rattle.spec.specs.Entry.{attribute_ok}
use Rattle.runs.proofs.attribute_ok.Goals as goal

-- with 0x80 set, 0x10 decides
low_decides : (a : ℕ) → (bit_and a 128 ≡ 0 → ⊥) → eqb (bit_and a 16) 0 ≡ attribute_ok a
unfolding attribute_ok
low_decides a high = grind (arith, common_steps, and_pow a 7, and_pow a 4)

pub returns-then-a-ne0 : goal.returns-then-a-ne0
returns-then-a-ne0 c = low_decides _ c.if-a-ne0.true

pub returns-else-a-ne0 : goal.returns-else-a-ne0
unfolding attribute_ok
returns-else-a-ne0 c = grind (arith, common_steps, and_pow c.args.a 7)
