use Rattle.std.proofs.Common.{arith, sym, ◌∙◌, lit≤}
use Rattle.std.proofs.lemmas.Bool.{cond-true, le-leb}
use Rattle.hid_text.proofs.NumberLemmas.{short_number}
use Rattle.lab_lines.proofs.control_name.read_index.Goals as goal

pub returns : goal.returns
returns c = sym (short_number 10 5 c.args.digits.now c.read_number.result c.in_ok-index.index (omega arith) c.if-digits-gt-MAX_DIGITS.false (lit≤ tt) c.read_number.ensures c.in_ok-index.was).0 ∙ sym (cond-true _ _ _ (le-leb _ _ c.if-digits-gt-MAX_DIGITS.false))
