-- A flag is there where the bits that it has in common with the flags are itself.
use Rattle.std.proofs.Common.{◌≡◌, ℕ, zero, suc, ◌*◌, ◌^◌, ◌<◌, ◌∙◌, ap, arith, nat_eq, bit_and}
use Rattle.std.specs.Int.{bit_at}
use Rattle.std.proofs.lemmas.Nat.Bits.{and_pow}
use Rattle.std.proofs.lemmas.Grind.{common_steps}
use Rattle.hid_report_descriptor.specs.Flags.{has_flag}

scaled : (b p : ℕ) → 0 < p → b < 2 → nat_eq (b * p) p ≡ nat_eq b 1
scaled zero p some small = grind (arith, common_steps)
scaled (suc zero) p some small = grind (arith, common_steps)
scaled (suc (suc b)) p some small = grind (arith, common_steps)

-- the bits in common with the flag `n`, which is 2 to the n, are that flag exactly where bit `n` is 1
pub contains_flag : (flags n : ℕ) → 0 < 2 ^ n → nat_eq (bit_and flags (2 ^ n)) (2 ^ n) ≡ has_flag n flags
contains_flag flags n some = ap (λ b. nat_eq b (2 ^ n)) (and_pow flags n) ∙ scaled (bit_at flags n) (2 ^ n) some (omega arith)
