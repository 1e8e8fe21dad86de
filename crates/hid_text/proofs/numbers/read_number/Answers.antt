use Rattle.std.proofs.Common.{rules, arith}
use Rattle.hid_text.proofs.NumberLemmas.{one_digit_more}
use Rattle.hid_text.proofs.numbers.read_number.Goals as goal

pub loop-byte-preserved : goal.loop-byte-preserved
loop-byte-preserved c = one_digit_more c.args.base c.args.word.now c.loop-byte.byte-index c.loop-byte.value c.saturating_mul.result c.saturating_add-value.result (omega arith) (omega arith) c.loop-byte.invariant.0 c.loop-byte.invariant.1
    (search (rules, c.in_ok-digit.ensures.value.0)) (rw c.from-in-loop-byte-2.ensures at c.saturating_mul.ensures) (search (rules, c.in_ok-digit.ensures.value.1))
