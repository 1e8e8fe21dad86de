use Rattle.std.proofs.Common.{◌≡◌, ◌+◌, drop}
use Rattle.hid_report_descriptor.specs.Totals.{place_for}
use Rattle.hid_report_descriptor.proofs.totals.place_by_walk.Given as goal

-- the place is not among those passed
abbrev pub invariant-loop-i : goal.invariant-loop-i
invariant-loop-i l = place_for l.kind l.id l.reports ≡ place_for l.kind l.id (drop l.i l.reports) + l.i
