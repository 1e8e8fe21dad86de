use Rattle.std.proofs.Common.{arith, sym, ◌∙◌, lit≤}
use Rattle.std.proofs.lemmas.Bool.{cond-true, le-leb}
use Rattle.hid_text.proofs.NumberLemmas.{short_number}
use Rattle.hid_text.proofs.numbers.read_short_number.Goals as goal

pub returns-clause-value : goal.returns-clause-value
returns-clause-value c = sym (short_number 10 18 c.args.word.now c.read_number.result c.in_ok-value.value (omega arith) c.if-word-gt18.false (lit≤ tt) c.read_number.ensures c.in_ok-value.was).0 ∙ sym (cond-true _ _ _ (le-leb _ _ c.if-word-gt18.false))

pub returns-clause-small : goal.returns-clause-small
returns-clause-small c = (short_number 10 18 c.args.word.now c.read_number.result c.in_ok-value.value (omega arith) c.if-word-gt18.false (lit≤ tt) c.read_number.ensures c.in_ok-value.was).1
