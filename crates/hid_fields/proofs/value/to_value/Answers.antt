use Rattle.std.proofs.Common.{arith}
use Rattle.std.proofs.lemmas.Int.{ints}
use Rattle.hid_fields.proofs.ValueLemmas.{value_of-top, width_fits}
use Rattle.hid_fields.proofs.value.to_value.Goals as goal

pub overflow_sub-result : goal.overflow_sub-result
overflow_sub-result c =
    let most = width_fits c.args.width c.requires.width in
    omega (arith, ints)

pub returns-then-pattern-width-eq1 : goal.returns-then-pattern-width-eq1
returns-then-pattern-width-eq1 c =
    let most = width_fits c.args.width c.requires.width in
    let top = value_of-top c.args.pattern c.args.width c.args.signed c.if-signed.true c.if-pattern-width-eq1.true in
    omega (arith, ints)
