use Rattle.std.proofs.Common.{arith}
use Rattle.hid_fields.proofs.WordLemmas.{gathered}
use Rattle.hid_usages.proofs.changed_bits.eight_bytes.Goals as goal

pub returns-in-len8 : goal.returns-in-len8
returns-in-len8 c =
    gathered _ 7 _ (omega arith) (λ i. omega (arith, c.type_inv.bytes i)) (omega (arith, c.from_le_bytes.ensures))
