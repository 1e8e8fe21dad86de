-- What a reader of reports can rely on.
use Rattle.std.specs.Prelude.{◌≡◌, ℕ, Bool, true, false}
use Rattle.std.specs.List.{list_any}
use Rattle.hid_capture.specs.declared.tracker.Content.{Content}
use Rattle.hid_capture.specs.declared.tracker.Content.TheVariants.{Nothing, Descriptor, TruncatedDescriptor, TooManyInterfaces, Report, TruncatedReport, Undescribed, Unknown, BootReport, InterfaceDisconnected, DeviceDisconnected}
use Rattle.hid_capture.specs.Tracking.{Tracking, is_described_on}

-- the data of a URB are a descriptor of a numbered interface
abbrev pub is_descriptor : Content → Bool
is_descriptor (Descriptor n) = true
is_descriptor Nothing = false
is_descriptor TruncatedDescriptor = false
is_descriptor TooManyInterfaces = false
is_descriptor (Report n) = false
is_descriptor (TruncatedReport n) = false
is_descriptor Undescribed = false
is_descriptor Unknown = false
is_descriptor BootReport = false
is_descriptor (InterfaceDisconnected n) = false
is_descriptor (DeviceDisconnected bus device) = false

-- the data of a URB are a report
abbrev pub is_report : Content → Bool
is_report (Report n) = true
is_report Nothing = false
is_report (Descriptor n) = false
is_report TruncatedDescriptor = false
is_report TooManyInterfaces = false
is_report (TruncatedReport n) = false
is_report Undescribed = false
is_report Unknown = false
is_report BootReport = false
is_report (InterfaceDisconnected n) = false
is_report (DeviceDisconnected bus device) = false

-- no interface of a device has a descriptor
abbrev pub IsUndescribed : Tracking → ℕ → ℕ → Type 0
IsUndescribed t bus device = list_any (is_described_on bus device) t.interfaces ≡ false
