-- The causes for which there is no device as numbers (our choice): those of their codes.
use Rattle.std.specs.Prelude.{ℕ}
use Rattle.hid_requests.specs.declared.fault.DeviceCause.{DeviceCause}
use Rattle.hid_requests.specs.declared.fault.DeviceCause.TheVariants.{BadConfig, Layout, NoEmptyCode, RelativeWithoutZero, Memory}
use Rattle.hidstack_session.specs.Causes.{cause_number}

-- the number of a device's cause, by its code. Example: of an interval of 0, V20, it is 20
abbrev pub device_cause_number : DeviceCause → ℕ
device_cause_number (Layout cause) = cause_number cause
device_cause_number NoEmptyCode = 18
device_cause_number RelativeWithoutZero = 19
device_cause_number BadConfig = 20
device_cause_number Memory = 21
