use Rattle.std.proofs.Common.{◌≡◌, ◌≤◌, ◌-◌, length, drop}
use Rattle.lab_expectations.specs.Expectations.{parts_of, outcome}
use Rattle.lab_expectations.proofs.looking.look.Given as goal

-- the lines left have the outcome of all lines
abbrev pub invariant-loop-line : goal.invariant-loop-line
invariant-loop-line l =
    (outcome l.expected (parts_of l.rest) ≡ outcome l.expected (parts_of l.waiting)) × (length l.rest ≤ length l.waiting) × (l.rest ≡ drop (length l.waiting - length l.rest) l.waiting)

abbrev pub decreases-loop-line : goal.decreases-loop-line
decreases-loop-line l = length l.rest
