use Rattle.std.proofs.Common.{◌≡◌, None, length}
use Rattle.std.specs.Option.{option_map}
use Rattle.lab_expectations.specs.Expectations.{parts_of, last_line}
use Rattle.lab_expectations.proofs.looking.last_line.Given as goal

-- the last line is that of the lines left, or the one before them
abbrev pub invariant-loop-line : goal.invariant-loop-line
invariant-loop-line l =
    last_line (option_map (λ line. line.now) l.last) (parts_of l.rest) ≡ last_line None (parts_of l.waiting)

abbrev pub decreases-loop-line : goal.decreases-loop-line
decreases-loop-line l = length l.rest
