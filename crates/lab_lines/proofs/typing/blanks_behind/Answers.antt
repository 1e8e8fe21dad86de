use Rattle.std.proofs.Common.{arith}
use Rattle.lab_lines.proofs.TypingLemmas.{blanks_stop, blanks_go_on}
use Rattle.lab_lines.proofs.typing.blanks_behind.Goals as goal

pub returns-then-not-is_blank-clause-value : goal.returns-then-not-is_blank-clause-value
returns-then-not-is_blank-clause-value c = blanks_stop c.args.text.now c.loop-at.at _ c.loop-at.invariant (omega arith) c.is_blank.ensures c.if-not-is_blank.true

pub loop-at-preserved : goal.loop-at-preserved
loop-at-preserved c = blanks_go_on c.args.text.now c.loop-at.at _ c.loop-at.invariant (omega arith) c.is_blank.ensures c.if-not-is_blank.false
