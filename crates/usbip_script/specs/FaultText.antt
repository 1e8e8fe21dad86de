-- Why a script isn't served, and why serving ends early, as it is printed: codes, and words (our choice: docs/USBIP.md).
use Rattle.std.specs.Prelude.{ℕ, List, ◌++◌, codes}
use Rattle.std.specs.Fmt.{decimal}
use Rattle.hid_snapshots.specs.declared.fault.ChangeFault.{ChangeFault}
use Rattle.hid_snapshots.specs.declared.fault.ChangeFault.TheVariants.{NoSuchControl, WrongKind, OutOfRange, NoNull, NoDirection, MotionFull, ArrayFull}
use Rattle.hid_snapshots.specs.Faults.{change_code}
use Rattle.hid_notation.specs.Causes.{layout_words}
use Rattle.hid_requests.specs.declared.fault.DeviceCause.{DeviceCause}
use Rattle.hid_requests.specs.declared.fault.DeviceCause.TheVariants as devices
use Rattle.hid_requests.specs.Fault.{device_fault_text}
use Rattle.hid_text.specs.declared.fault.LineFault.{LineFault}
use Rattle.hid_text.specs.declared.fault.LineFault.TheVariants.{Syntax, LineTooLong, BadHex}
use Rattle.usbip_export.specs.Faults.{export_fault_code}
use Rattle.usbip_serving.specs.Words.{export_words}
use Rattle.usbip_script.specs.declared.fault.LineCause.{LineCause}
use Rattle.usbip_script.specs.declared.fault.LineCause.TheVariants.{Text, NoDevice, Change, Device, TooManyDevices, NotServed, TooLong, Unmet}
use Rattle.usbip_script.specs.declared.fault.ServeFault.{ServeFault}
use Rattle.usbip_script.specs.declared.fault.ServeFault.TheVariants.{Line, Message, NoDevices, HalfMessage, Script, Memory, Input, Output, Full, Told, Clock}
use Rattle.usbip_script.specs.declared.fault.ServeFault.TheVariants as faults

-- of a line that is none
abbrev pub text_words : LineFault → List ℕ
text_words Syntax = codes "X1: no line of a script"
text_words LineTooLong = codes "X2: a line of over 1024 bytes"
text_words BadHex = codes "X3: a word of hex has a bad digit, or an odd number of digits"

-- of a change that is refused, after its code
abbrev pub change_words : ChangeFault → List ℕ
change_words NoSuchControl = codes "the device has no such control"
change_words WrongKind = codes "the control is of a kind that can't change so"
change_words OutOfRange = codes "the value is out of the control's range"
change_words NoNull = codes "the control has no null"
change_words NoDirection = codes "the control doesn't move that way"
change_words MotionFull = codes "too much motion isn't reported yet"
change_words ArrayFull = codes "more keys are pressed than a report has room for"

-- of a device that can't be, after its code
abbrev pub device_words : DeviceCause → List ℕ
device_words devices.BadConfig = codes "not the descriptor of a boot device: call it plain"
device_words (devices.Layout cause) = layout_words cause
device_words devices.NoEmptyCode = codes "an array that can't say that no key is pressed"
device_words devices.RelativeWithoutZero = codes "a relative control that can't send 0"
device_words devices.Memory = codes "out of memory"

-- why a line is refused. Example: X4 S3 U1: the device has no such control
abbrev pub line_cause_text : LineCause → List ℕ
line_cause_text (Text fault) = text_words fault
line_cause_text NoDevice = codes "X4 S1: no device has this number"
line_cause_text (Change fault) = codes "X4 S3 " ++ change_code fault ++ codes ": " ++ change_words fault
line_cause_text (Device fault) = codes "X4 S5 " ++ device_fault_text fault.cause fault.at ++ codes ": " ++ device_words fault.cause
line_cause_text TooManyDevices = codes "X4 S7: there are seven devices already"
line_cause_text NotServed = codes "E1: not with a real host, which polls and asks by itself"
line_cause_text TooLong = codes "E11: the script is too long"
line_cause_text Unmet = codes "X13: the host set another report, or none"

-- why serving ends early. Example: line 2: X1: no line of a script
abbrev pub serve_fault_text : ServeFault → List ℕ
serve_fault_text (Line number cause) = codes "line " ++ decimal number ++ codes ": " ++ line_cause_text cause
serve_fault_text (Message fault) = export_fault_code fault ++ codes ": " ++ export_words fault
serve_fault_text NoDevices = codes "E2: the script has no device"
serve_fault_text HalfMessage = codes "E3: the connection ends in the middle of a message"
serve_fault_text Script = codes "E4: the script can't be read"
serve_fault_text Memory = codes "E5: out of memory"
serve_fault_text Input = codes "E6: standard input can't be read"
serve_fault_text Output = codes "E7: standard output can't be written"
serve_fault_text Full = codes "E8: the host took nothing for ten seconds"
serve_fault_text Told = codes "E9: what the host sets can't be written"
serve_fault_text Clock = codes "E10: the clock can't be read"
serve_fault_text faults.TooLong = codes "E11: the script has over 16777216 bytes"
serve_fault_text faults.NoHost = codes "E12: no host imported a device"
