-- Which report a host sets (HID 1.11, 7.2.2; USB/IP).
use Rattle.std.specs.Prelude.{ℕ, ◌==◌, ◌&&◌, Bool, true, false, if◌then◌else◌, List, slice_get, Option, Some, None, Result, Ok, Err}
use Rattle.usb_control.specs.SetupBytes.{setup_of}
use Rattle.hid_requests.specs.declared.request_kinds.RequestKind.{RequestKind}
use Rattle.hid_requests.specs.declared.request_kinds.RequestKind.TheVariants as asked
use Rattle.hid_requests.specs.RequestKinds.{request_kind_of}
use Rattle.hid_device.specs.Core.{CoreState}
use Rattle.usbip.specs.declared.message.Status.{Status}
use Rattle.usbip.specs.declared.message.Status.TheVariants.{Success}
use Rattle.usbip.specs.declared.message.Submit.{Submit}
use Rattle.usbip_export.specs.declared.fault.ExportFault.{ExportFault}
use Rattle.usbip_export.specs.declared.connection.Stage.{Stage}
use Rattle.usbip_export.specs.declared.connection.Stage.TheVariants.{Data}
use Rattle.usbip_export.specs.declared.exported_device.ExportedDevice.{ExportedDevice}
use Rattle.usbip_export.specs.ExportedDevices.{control_reply}
use Rattle.usbip_serving.specs.declared.set_report.SetReport.{SetReport}
use Rattle.usbip_serving.specs.declared.set_report.Taken.{Taken}

-- the report that a request to the device at a place sets, if it is SET_REPORT
abbrev pub report_of_request : ℕ → Option RequestKind → Option SetReport
report_of_request place (Some (asked.SetReport kind id len)) = Some (record { place = place; kind = kind; id = id })
report_of_request place _ = None

-- the report that a submit to the device at a place names, if its setup data are SET_REPORT
abbrev pub named_report : ℕ → Submit → Option SetReport
named_report place s = report_of_request place (request_kind_of (setup_of s.setup))

-- the report that the data which come at this stage set, if their submit takes effect
abbrev pub awaited_report : Stage → Option SetReport
awaited_report (Data place s) = named_report place s
awaited_report _ = None

-- a submit with this status is done
abbrev pub is_done : Status → Bool
is_done Success = true
is_done _ = false

-- A control submit takes effect: the reply to it says that it is done.
abbrev pub takes_effect : CoreState → Submit → Bool
takes_effect core s = (s.endpoint == 0) && is_done (control_reply core s).status

-- The report that a submit with its data sets at this device, if it takes effect
abbrev pub set_at : ℕ → Submit → Option ExportedDevice → Option SetReport
set_at place s None = None
set_at place s (Some d) = if takes_effect d.gadget s then named_report place s else None

-- The report that the bytes which come at this stage set: the data of a submit set one, and nothing else does. Example: 21 09
-- 00 02 00 00 01 00 with a byte sets the Output report without an ID
abbrev pub report_set : List ExportedDevice → Stage → Option SetReport
report_set ds (Data place s) = set_at place s (slice_get ds place)
report_set ds _ = None

-- the report that is awaited, where the reply to its submit has this status: that it is done
abbrev pub set_by : Option SetReport → Option Status → Option SetReport
set_by awaited None = None
set_by awaited (Some status) = if is_done status then awaited else None

-- how many bytes of an answer there are, of what came of bytes
abbrev pub count_of : Result Taken ExportFault → Result ℕ ExportFault
count_of (Ok taken) = Ok taken.length
count_of (Err fault) = Err fault
