use Rattle.std.proofs.Common.{w64, arith}
use Rattle.std.proofs.lemmas.Bool.{ne_eqb}
use Rattle.std.proofs.lemmas.Int.{to_z-of_z}
use Rattle.hid_page.proofs.physical.print_times.Goals as goal

pub returns : goal.returns
returns c =
    let same = to_z-of_z w64 c.exponent_at-exponent.result (omega (arith, c.exponent_at-exponent.type_inv)) in
    let some = ne_eqb c.number_at.result 0 c.if-number_at-eq0.false in
    rw (rw c.number_at.ensures at some) (rw (same, c.exponent_at-exponent.ensures) at c.write.ensures.bytes)
