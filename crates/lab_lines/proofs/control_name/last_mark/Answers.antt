use Rattle.std.proofs.Common.{arith}
use Rattle.lab_lines.proofs.ControlLemmas.{mark_step, mark_within, mark_end}
use Rattle.lab_lines.proofs.control_name.last_mark.Goals as goal

pub loop-at-preserved : goal.loop-at-preserved
loop-at-preserved c = (
  mark_step c.args.word.now c.loop-at.at c.loop-at.mark _ _ c.loop-at.invariant.0 (omega arith) c.mark_after-mark.ensures,
  mark_within c.loop-at.mark _ c.loop-at.at _ c.mark_after-mark.ensures c.loop-at.invariant.1,
)

pub returns-clause-mark : goal.returns-clause-mark
returns-clause-mark c = mark_end c.args.word.now c.loop-at.at _ _ c.loop-at.invariant.0 (omega arith)
