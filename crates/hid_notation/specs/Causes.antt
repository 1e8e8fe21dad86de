-- Why a descriptor is refused, in words (our choice: docs/RECORDINGS.md).
use Rattle.std.specs.Prelude.{ℕ, List, ◌++◌, Option, None, Some, codes}
use Rattle.hid_report_descriptor.specs.declared.fault.Cause as layouts
use Rattle.hid_report_descriptor.specs.declared.fault.LayoutFault.{LayoutFault}
use Rattle.hid_report_descriptor.specs.declared.long_reports.LongReport.{LongReport}
use Rattle.hid_report_descriptor.specs.Codes.{layout_fault_text}
use Rattle.hid_report_descriptor.specs.LongReports.{long_report_text}
use Rattle.hid_report_descriptor.specs.declared.fault.Cause.TheVariants.{Truncated, TooLong, PopEmpty, PushDepth, CollectionDepth, EndWithout, Unclosed, BadReportId, MixedReportId, BadRange, BadSize, BadUsageRange, UnpairedUsage, Delimiter, ReportTooLong, TooMany, Memory}

-- the words for each cause of which a descriptor is refused. Example: L3 is a Pop without a Push
abbrev pub layout_words : layouts.Cause → List ℕ
layout_words Truncated = codes "the descriptor ends in the middle of an item"
layout_words TooLong = codes "a descriptor of over 4096 bytes"
layout_words PopEmpty = codes "a Pop without a Push"
layout_words PushDepth = codes "over 8 open Pushes"
layout_words CollectionDepth = codes "over 16 open collections"
layout_words EndWithout = codes "an End Collection without its Collection"
layout_words Unclosed = codes "a Collection is open at the end"
layout_words BadReportId = codes "a Report ID of 0, or over 255"
layout_words MixedReportId = codes "some items have a Report ID, and some have none"
layout_words BadRange = codes "no number is in the range of a field"
layout_words BadSize = codes "a data field of 0 bits, or too wide"
layout_words BadUsageRange = codes "a Usage Minimum over its Maximum, or on another page"
layout_words UnpairedUsage = codes "a Usage Minimum or Maximum without the other"
layout_words Delimiter = codes "a Delimiter"
layout_words ReportTooLong = codes "a report that is too long"
layout_words TooMany = codes "too many items, fields, usages or Report IDs"
layout_words Memory = codes "out of memory"

-- A refusal: cause and place, and then the report that is too long, or else the cause in words.
-- Example: L15 at 326: Feature report 68 has 20000 bytes, over 16384
abbrev pub layout_refusal_text : LayoutFault → Option LongReport → List ℕ
layout_refusal_text fault None = layout_fault_text fault ++ codes ": " ++ layout_words fault.cause
layout_refusal_text fault (Some report) = layout_fault_text fault ++ codes ": " ++ long_report_text report
