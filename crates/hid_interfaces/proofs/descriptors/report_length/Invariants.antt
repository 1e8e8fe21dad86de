use Rattle.std.proofs.Common.{◌≡◌, length}
use Rattle.usb_control.specs.Descriptors.{report_entry, report_length}
use Rattle.hid_interfaces.proofs.descriptors.report_length.Given as goal

abbrev pub invariant-loop-entries : goal.invariant-loop-entries
invariant-loop-entries l = report_length l.hid ≡ report_entry l.entries

abbrev pub decreases-loop-entries : goal.decreases-loop-entries
decreases-loop-entries l = length l.entries
