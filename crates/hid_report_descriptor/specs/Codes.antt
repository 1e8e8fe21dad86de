-- What a refusal of a descriptor is printed as (our choice).
use Rattle.std.specs.Prelude.{ℕ, List, ◌++◌, codes}
use Rattle.std.specs.Fmt.{decimal}
use Rattle.hid_report_descriptor.specs.declared.fault.Cause.{Cause}
use Rattle.hid_report_descriptor.specs.declared.fault.Cause.TheVariants.{Truncated, TooLong, PopEmpty, PushDepth, CollectionDepth, EndWithout, Unclosed, BadReportId, MixedReportId, BadRange, BadSize, BadUsageRange, UnpairedUsage, Delimiter, ReportTooLong, TooMany, Memory}
use Rattle.hid_report_descriptor.specs.declared.fault.LayoutFault.{LayoutFault}

-- each cause has its code, from L1 to L17
abbrev pub code_of : Cause → List ℕ
code_of Truncated = codes "L1"
code_of TooLong = codes "L2"
code_of PopEmpty = codes "L3"
code_of PushDepth = codes "L4"
code_of CollectionDepth = codes "L5"
code_of EndWithout = codes "L6"
code_of Unclosed = codes "L7"
code_of BadReportId = codes "L8"
code_of MixedReportId = codes "L9"
code_of BadRange = codes "L10"
code_of BadSize = codes "L11"
code_of BadUsageRange = codes "L12"
code_of UnpairedUsage = codes "L13"
code_of Delimiter = codes "L14"
code_of ReportTooLong = codes "L15"
code_of TooMany = codes "L16"
code_of Memory = codes "L17"

-- a refusal is printed as its code, the word at, and its place in decimal
abbrev pub layout_fault_text : LayoutFault → List ℕ
layout_fault_text fault = code_of fault.cause ++ codes " at " ++ decimal fault.at
