use Rattle.std.proofs.Common.{◌≡◌, drop}
use Rattle.hid_report_descriptor.proofs.Paths.{listed_on}
use Rattle.hid_report_descriptor.proofs.path.first_usage.Given as goal

-- the entries after have no usage
abbrev pub invariant-loop-e : goal.invariant-loop-e
invariant-loop-e l = listed_on l.page (drop l.e-index l.entries) ≡ listed_on l.page l.entries
