use Rattle.std.proofs.Common.{arith, sym, ◌∙◌, lit≤}
use Rattle.std.proofs.lemmas.Bool.{cond-true, le-leb}
use Rattle.hid_text.proofs.NumberLemmas.{short_number}
use Rattle.hid_text.proofs.numbers.read_hex_number.Goals as goal

pub overflow_cast-result : goal.overflow_cast-result
overflow_cast-result c = omega (arith, (short_number 16 4 c.args.word.now c.read_number.result c.in_ok-value.value (omega arith) c.if-word-gt4.false (lit≤ tt) c.read_number.ensures c.in_ok-value.was).1)

pub returns : goal.returns
returns c = sym (short_number 16 4 c.args.word.now c.read_number.result c.in_ok-value.value (omega arith) c.if-word-gt4.false (lit≤ tt) c.read_number.ensures c.in_ok-value.was).0 ∙ sym (cond-true _ _ _ (le-leb _ _ c.if-word-gt4.false))
