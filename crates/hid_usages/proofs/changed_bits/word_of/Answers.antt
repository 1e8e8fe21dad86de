use Rattle.std.proofs.Common.{arith}
use Rattle.hid_fields.proofs.WordLemmas.{gathered}
use Rattle.hid_usages.proofs.changed_bits.word_of.Goals as goal

pub returns-in-len1 : goal.returns-in-len1
returns-in-len1 c =
    gathered _ 0 _ (omega arith) (λ i. omega (arith, c.type_inv.bytes i)) (omega (arith, c.from.ensures))

pub returns-in-len2 : goal.returns-in-len2
returns-in-len2 c =
    gathered _ 1 _ (omega arith) (λ i. omega (arith, c.type_inv.bytes i)) (omega (arith, c.from_le_bytes.ensures))

pub returns-in-len3 : goal.returns-in-len3
returns-in-len3 c =
    gathered _ 2 _ (omega arith) (λ i. omega (arith, c.type_inv.bytes i)) (omega (arith, c.from_le_bytes-in-len3.ensures))

pub returns-in-len4 : goal.returns-in-len4
returns-in-len4 c =
    gathered _ 3 _ (omega arith) (λ i. omega (arith, c.type_inv.bytes i)) (omega (arith, c.from_le_bytes-in-len4.ensures))

pub returns-in-len5 : goal.returns-in-len5
returns-in-len5 c =
    gathered _ 4 _ (omega arith) (λ i. omega (arith, c.type_inv.bytes i)) (omega (arith, c.from_le_bytes-in-len5.ensures))

pub returns-in-len6 : goal.returns-in-len6
returns-in-len6 c =
    gathered _ 5 _ (omega arith) (λ i. omega (arith, c.type_inv.bytes i)) (omega (arith, c.from_le_bytes-in-len6.ensures))

pub returns-in-len7 : goal.returns-in-len7
returns-in-len7 c =
    gathered _ 6 _ (omega arith) (λ i. omega (arith, c.type_inv.bytes i)) (omega (arith, c.from_le_bytes-in-len7.ensures))

pub returns-in-len8-up : goal.returns-in-len8-up
returns-in-len8-up c =
    gathered _ 7 _ (omega arith) (λ i. omega (arith, c.type_inv.bytes i)) (omega (arith, c.from_le_bytes-in-len8-up.ensures))
