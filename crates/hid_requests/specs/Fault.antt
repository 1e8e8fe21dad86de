-- What a refusal of a device is printed as (our choice).
use Rattle.std.specs.Prelude.{ℕ, if◌then◌else◌, List, ◌++◌, codes}
use Rattle.std.specs.Fmt.{decimal}
use Rattle.hid_report_descriptor.specs.declared.fault.Cause.{Cause}
use Rattle.hid_report_descriptor.specs.declared.fault.Cause.TheVariants as cause
use Rattle.hid_report_descriptor.specs.Faults.{is_memory}
use Rattle.hid_requests.specs.declared.fault.DeviceCause.{DeviceCause}
use Rattle.hid_requests.specs.declared.fault.DeviceCause.TheVariants.{BadConfig, Layout, NoEmptyCode, RelativeWithoutZero, Memory}

-- the causes of the layout, by their own numbers
abbrev pub layout_code : Cause → List ℕ
layout_code cause.Truncated = codes "V1"
layout_code cause.TooLong = codes "V2"
layout_code cause.PopEmpty = codes "V3"
layout_code cause.PushDepth = codes "V4"
layout_code cause.CollectionDepth = codes "V5"
layout_code cause.EndWithout = codes "V6"
layout_code cause.Unclosed = codes "V7"
layout_code cause.BadReportId = codes "V8"
layout_code cause.MixedReportId = codes "V9"
layout_code cause.BadRange = codes "V10"
layout_code cause.BadSize = codes "V11"
layout_code cause.BadUsageRange = codes "V12"
layout_code cause.UnpairedUsage = codes "V13"
layout_code cause.Delimiter = codes "V14"
layout_code cause.ReportTooLong = codes "V15"
layout_code cause.TooMany = codes "V16"
layout_code cause.Memory = codes "V17"

-- the code of each cause for which there is no device: V1 to V21
abbrev pub device_cause_code : DeviceCause → List ℕ
device_cause_code BadConfig = codes "V20"
device_cause_code (Layout found) = layout_code found
device_cause_code NoEmptyCode = codes "V18"
device_cause_code RelativeWithoutZero = codes "V19"
device_cause_code Memory = codes "V21"

-- the code of a cause, and its place if it has one
abbrev pub device_fault_text : DeviceCause → ℕ → List ℕ
device_fault_text (Layout found) at =
    if is_memory found then layout_code found else layout_code found ++ codes " at " ++ decimal at
device_fault_text BadConfig at = device_cause_code BadConfig
device_fault_text NoEmptyCode at = device_cause_code NoEmptyCode
device_fault_text RelativeWithoutZero at = device_cause_code RelativeWithoutZero
device_fault_text Memory at = device_cause_code Memory
