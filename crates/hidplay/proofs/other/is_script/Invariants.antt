use Rattle.std.proofs.Common.{◌≡◌, length}
use Rattle.hidplay.specs.Other.{is_script}
use Rattle.hidplay.proofs.other.is_script.Given as goal

-- what is left says whether the text is a script
abbrev pub invariant-loop-line : goal.invariant-loop-line
invariant-loop-line l = is_script l.text ≡ is_script l.rest

abbrev pub decreases-loop-line : goal.decreases-loop-line
decreases-loop-line l = length l.rest
