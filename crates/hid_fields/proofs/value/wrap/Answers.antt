use Rattle.std.proofs.Common.{sym, arith}
use Rattle.std.proofs.lemmas.Int.{ints}
use Rattle.hid_fields.proofs.ValueLemmas.{pattern_for-pos, pattern_for-neg, twice_half, width_fits}
use Rattle.hid_fields.proofs.value.wrap.Goals as goal

pub overflow_add-result : goal.overflow_add-result
overflow_add-result c = omega (arith, ints)

pub overflow_cast-result : goal.overflow_cast-result
overflow_cast-result c = omega (arith, ints)

pub overflow_cast-result-then-value-lt0 : goal.overflow_cast-result-then-value-lt0
overflow_cast-result-then-value-lt0 c =
    let half = twice_half c.args.width c.requires.some in
    (omega (arith, ints), omega (arith, ints))

pub overflow_cast-result-else-value-lt0 : goal.overflow_cast-result-else-value-lt0
overflow_cast-result-else-value-lt0 c =
    let most = width_fits c.args.width c.requires.width in
    (omega (arith, ints), omega (arith, ints))

pub returns-then-value-lt0 : goal.returns-then-value-lt0
returns-then-value-lt0 c =
    let half = twice_half c.args.width c.requires.some in
    sym (pattern_for-neg c.args.value c.args.width _ (omega (arith, ints)) (omega (arith, ints)))

pub returns-else-value-lt0 : goal.returns-else-value-lt0
returns-else-value-lt0 c =
    sym (pattern_for-pos c.args.value c.args.width _ (omega (arith, ints)))
