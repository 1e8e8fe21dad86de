use Rattle.std.proofs.Common.{length}
use Rattle.hidlab.proofs.words.without_blanks_before.Given as goal

abbrev pub decreases-loop-rest : goal.decreases-loop-rest
decreases-loop-rest l = length l.rest
