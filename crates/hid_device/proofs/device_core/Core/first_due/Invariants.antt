use Rattle.std.proofs.Common.{◌≡◌, ◌-◌, length}
use Rattle.std.specs.List.{find, range_with_len}
use Rattle.hid_layout.specs.Controls.{items_of}
use Rattle.hid_bus.specs.ReportState.{is_due, first_due}
use Rattle.hid_device.proofs.device_core.Core.first_due.Given as goal

abbrev pub invariant-loop-report : goal.invariant-loop-report
invariant-loop-report l =
    first_due (items_of l.self.layout) l.self.reports
    ≡ find (is_due (items_of l.self.layout) l.self.reports)
    (range_with_len l.report (length l.self.reports.frames - l.report))
