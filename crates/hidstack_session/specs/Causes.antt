-- The causes of refusals as numbers (our choice).
use Rattle.std.specs.Prelude.{ℕ}
use Rattle.hid_report_descriptor.specs.declared.fault.Cause.{Cause}
use Rattle.hid_report_descriptor.specs.declared.fault.Cause.TheVariants.{Truncated, TooLong, PopEmpty, PushDepth, CollectionDepth, EndWithout, Unclosed, BadReportId, MixedReportId, BadRange, BadSize, BadUsageRange, UnpairedUsage, Delimiter, ReportTooLong, TooMany, Memory}

-- each cause has the number of its code: 1 for L1 to 17 for L17
abbrev pub cause_number : Cause → ℕ
cause_number Truncated = 1
cause_number TooLong = 2
cause_number PopEmpty = 3
cause_number PushDepth = 4
cause_number CollectionDepth = 5
cause_number EndWithout = 6
cause_number Unclosed = 7
cause_number BadReportId = 8
cause_number MixedReportId = 9
cause_number BadRange = 10
cause_number BadSize = 11
cause_number BadUsageRange = 12
cause_number UnpairedUsage = 13
cause_number Delimiter = 14
cause_number ReportTooLong = 15
cause_number TooMany = 16
cause_number Memory = 17
