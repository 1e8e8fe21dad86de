use Rattle.std.proofs.Common.{◌≡◌, ◌<◌, ◌^◌, ◌-◌, arith, rules, to_z, of_z, w64}
use Rattle.std.specs.Prelude.{ℤ, pos, ◌+ℤ◌, ◌≤ℤ◌}
use lib.Signed.{mag}
use Rattle.std.proofs.lemmas.Int.{ints}
use Rattle.hid_report_descriptor.specs.Faults.{greatest_value}
use Rattle.hid_layout.proofs.CodeLemmas.{greatest_small}
use Rattle.hid_layout.proofs.codes.from_zero.Goals as goal

one_over : (r g : ℤ) → r ≡ g → mag r < 2 ^ 63 → g ≤ℤ pos (2 ^ 32 - 1) → to_z w64 (of_z w64 (to_z w64 (of_z w64 r) +ℤ pos 1)) ≡ (g +ℤ pos 1)
one_over r g e m h = omega (arith, ints, e, m, h)

pub returns-clause-end : goal.returns-clause-end
returns-clause-end c =
    let item = c.args.item.now in
    let g : c.greatest_value.result ≡ greatest_value item.min item.size = search rules in
    one_over c.greatest_value.result (greatest_value item.min item.size) g c.greatest_value.type_inv (greatest_small item.min item.size c.requires.narrow)
