use Rattle.std.proofs.Common.{arith, sym, ◌∙◌, lit≤}
use Rattle.std.proofs.lemmas.Bool.{cond-true, le-leb}
use Rattle.hid_text.proofs.NumberLemmas.{short_number}
use Rattle.lab_lines.proofs.lab_line.read_seed.Goals as goal

pub returns : goal.returns
returns c = sym (short_number 10 18 c.args.word.now c.read_number.result c.in_ok-seed.seed (omega arith) c.if-word-gt-MAX_SEED_DIGITS.false (lit≤ tt) c.read_number.ensures c.in_ok-seed.was).0 ∙ sym (cond-true _ _ _ (le-leb _ _ c.if-word-gt-MAX_SEED_DIGITS.false))
