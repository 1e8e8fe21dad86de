use Rattle.std.proofs.Common.{length}
use Rattle.lab_session.proofs.ahead.Ahead.line_at.Given as goal

abbrev pub decreases-loop-last : goal.decreases-loop-last
decreases-loop-last l = length l.rest
