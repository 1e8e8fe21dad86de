use Rattle.std.proofs.Common.{◌≡◌, drop}
use Rattle.hid_snapshots.specs.Codes.{has_empty_codes, empty_codes_from}
use Rattle.hid_snapshots.proofs.empty_codes.has_empty_codes.Given as goal

abbrev pub invariant-loop-i : goal.invariant-loop-i
invariant-loop-i l = has_empty_codes l.layout ≡ empty_codes_from l.layout.reports (drop l.i l.layout.items) (drop l.i l.layout.entries)
