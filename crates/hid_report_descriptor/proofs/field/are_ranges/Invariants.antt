use Rattle.std.proofs.Common.{◌≡◌, drop}
use Rattle.hid_report_descriptor.proofs.Paths.{ranges_on}
use Rattle.hid_report_descriptor.proofs.field.are_ranges.Given as goal

-- the entries after decide
abbrev pub invariant-loop-e : goal.invariant-loop-e
invariant-loop-e l = ranges_on l.page (drop l.e-index l.entries) ≡ ranges_on l.page l.entries
