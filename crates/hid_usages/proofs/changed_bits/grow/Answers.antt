use Rattle.std.proofs.Common.{◌<◌, ◌^◌, bit_xor, refl, arith}
use Rattle.std.proofs.lemmas.Nat.{xor_lt}
use Rattle.hid_usages.proofs.ChangedBitLemmas.{grows}
use Rattle.hid_usages.proofs.changed_bits.grow.Goals as goal

pub returns : goal.returns
returns c =
    let some : 0 < bit_xor c.args.before c.args.now = omega arith in
    let fits : bit_xor c.args.before c.args.now < 2 ^ 64 = xor_lt 64 c.args.before c.args.now (omega arith) (omega arith) in
    grows c.args.span _ c.args.index c.args.before c.args.now some fits c.requires.order c.requires.end
    c.first_of.ensures.empty c.first_of.ensures.begun refl
