use Rattle.std.proofs.Common.{◌≡◌, ◌<◌, ◌^◌, ◌-◌, arith, to_z, of_z, w64}
use Rattle.std.specs.Prelude.{ℤ, pos, ◌+ℤ◌, ◌≤ℤ◌}
use Rattle.std.proofs.lemmas.Int.{ints, to_z-of_z}
use lib.Signed.{mag}
use Rattle.hid_layout.specs.Controls.{greatest_of}
use Rattle.hid_layout.proofs.CodeLemmas.{greatest_of_small}
use Rattle.hid_layout.proofs.codes.up_to_over.Goals as goal

one_over : (r g : ℤ) → r ≡ g → mag r < 2 ^ 63 → g ≤ℤ pos (2 ^ 32 - 1) → to_z w64 (of_z w64 (to_z w64 (of_z w64 r) +ℤ pos 1)) ≡ (g +ℤ pos 1)
one_over r g e m h = omega (arith, ints, e, m, h)

as_it_is : (r : ℤ) → mag r < 2 ^ 63 → to_z w64 (of_z w64 r) ≡ r
as_it_is r m = omega (arith, ints, m)

pub returns : goal.returns
returns c =
    let item = c.args.item.now in
    let r : to_z w64 (of_z w64 c.min.result) ≡ c.min.result = as_it_is c.min.result c.min.type_inv in
    let n : to_z w64 (of_z w64 c.args.number) ≡ c.args.number = to_z-of_z w64 c.args.number c.ranges.number in
    let o : to_z w64 (of_z w64 (to_z w64 (of_z w64 c.greatest.result) +ℤ pos 1)) ≡ (greatest_of item +ℤ pos 1) = one_over c.greatest.result (greatest_of item) c.greatest.ensures c.greatest.type_inv (greatest_of_small item c.requires.narrow) in
    cc (r, n, o, c.min.ensures.value)
