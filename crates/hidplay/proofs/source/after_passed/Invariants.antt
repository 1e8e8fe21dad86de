use Rattle.std.proofs.Common.{◌≡◌, ◌++◌, List, ℕ, length, All}
use Rattle.std.specs.List.{flat_map}
use Rattle.hidplay.specs.Source.{IsSilent, with_end}
use Rattle.hidplay.proofs.source.after_passed.Given as goal

-- the lines before what is left say nothing
abbrev pub invariant-loop-line : goal.invariant-loop-line
invariant-loop-line l = (passed : List (List ℕ)) × All IsSilent passed × (l.text ≡ flat_map with_end passed ++ l.rest)

abbrev pub decreases-loop-line : goal.decreases-loop-line
decreases-loop-line l = length l.rest
