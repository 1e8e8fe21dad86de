use Rattle.std.proofs.Common.{◌≡◌, length}
use Rattle.lab_expectations.specs.Expectations.{parts_of, first_required}
use Rattle.lab_expectations.proofs.looking.first_required.Given as goal

-- the lines left have the first one that has to be expected
abbrev pub invariant-loop-line : goal.invariant-loop-line
invariant-loop-line l = first_required (parts_of l.rest) ≡ first_required (parts_of l.waiting)

abbrev pub decreases-loop-line : goal.decreases-loop-line
decreases-loop-line l = length l.rest
