use Rattle.std.proofs.Common.{◌≡◌, drop}
use Rattle.usbip_import.specs.Submits.{report_due}
use Rattle.usbip_import.proofs.submits.report_due.Given as goal

abbrev pub invariant-loop-place : goal.invariant-loop-place
invariant-loop-place l = report_due l.place l.flights (drop l.place l.interfaces) ≡ report_due 0 l.flights l.interfaces
