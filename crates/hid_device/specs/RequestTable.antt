-- The requests that endpoint 0 of a device answers, and what they bring about (USB 2.0, 9.1.1.5 and 9.4; HID 1.11, 4.2,
-- 4.3, 7.1 and 7.2).
use Rattle.std.specs.Prelude.{◌≡◌, ℕ, Bool, true, false, not, ◌&&◌, ◌==◌, nat_le, if◌then◌else◌, List, [], ◌∷◌, length, replicate, slice_get, slice_set, Option, Some, None, option_map}
use Rattle.std.specs.Option.{option_and_then}
use Rattle.hid_report_descriptor.specs.declared.report.ReportKind.{ReportKind}
use Rattle.hid_report_descriptor.specs.declared.report.ReportKind.TheVariants.{Input, Output, Feature}
use Rattle.hid_layout.specs.Controls.{items_of}
use Rattle.hid_snapshots.specs.Parts.{blank_parts, still_parts}
use Rattle.hid_snapshots.specs.PartBytes.{part_bytes}
use Rattle.usb_control.specs.declared.device.TheConstants.{MAX_WRITE}
use Rattle.usb_control.specs.declared.setup.Setup.{Setup}
use Rattle.usb_control.specs.declared.descriptors.DeviceInfo.{DeviceInfo}
use Rattle.usb_control.specs.declared.descriptors.ConfigInfo.{ConfigInfo}
use Rattle.usb_control.specs.TryFunctions.{Table}
use Rattle.hid_requests.specs.declared.request_kinds.RequestKind.{RequestKind}
use Rattle.hid_requests.specs.declared.request_kinds.RequestKind.TheVariants.{Status, InterfaceStatus, ControlStatus, ReportStatus, DeviceDescriptor, Configuration, HidDescriptor, ReportDescriptor, GetConfiguration, GetInterface, SetConfiguration, ClearFeature, SetFeature, GetReport, GetIdle, GetProtocol, SetReport, SetIdle, SetProtocol}
use Rattle.hid_requests.specs.RequestKinds.{request_kind_of}
use Rattle.hid_requests.specs.Class.{protocol_number}
use Rattle.hid_requests.specs.Descriptors.{device_bytes, configuration_bytes, hid_bytes}
use Rattle.hid_requests.specs.Boot.{is_boot, protocol_of, subclass_of}
use Rattle.hid_device.specs.declared.config.Config.{Config}
use Rattle.hid_requests.specs.declared.codes.TheConstants.{REPORT_ENDPOINT}
use Rattle.hid_device.specs.declared.decisions.PendingWrite.{PendingWrite}
use Rattle.hid_device.specs.declared.decisions.PendingWrite.TheVariants.{Nothing, Configure, Keep, Idle, Halt, Clear}
use Rattle.hid_device.specs.declared.decisions.PendingWrite.TheVariants as pendings
use Rattle.hid_device.specs.Outputs.{kept_bytes, kept_place, report_number_of, with_report}
use Rattle.hid_bus.specs.ReportState.{with_idle}
use Rattle.hid_device.specs.RequestDecisions.{RequestDecision, Refuses, Reads, Writes, is_accepted, reads_if, writes_if}
use Rattle.hid_device.specs.Core.{CoreState, cleared_core, configured_core, halted_core}

-- what the device descriptor of a configuration says
abbrev pub device_info : Config → DeviceInfo
device_info config = record { vendor = config.vendor; product = config.product }

-- what a host reads of a device's configuration, if its report descriptor has this length
abbrev pub config_info : Config → ℕ → ConfigInfo
config_info config len = record {
  report_length = len;
  endpoint = REPORT_ENDPOINT;
  subclass = subclass_of config.boot;
  protocol = protocol_of config.boot;
}

-- the number of the configuration, 0 where there is none (9.4.2)
abbrev pub configuration_number : Bool → ℕ
configuration_number false = 0
configuration_number true = 1

-- the status of an endpoint: its lowest bit reports a halt (9.4.5)
abbrev pub endpoint_status : Bool → List ℕ
endpoint_status false = 0 ∷ 0 ∷ []
endpoint_status true = 1 ∷ 0 ∷ []

-- the bytes of an Input report as it is now, with every motion 0 (our choice): nothing is fixed or taken out for them
abbrev pub still_bytes : CoreState → ℕ → List ℕ
still_bytes core r =
    part_bytes core.layout r
    (still_parts (items_of core.layout) r core.reports.snapshot (blank_parts (items_of core.layout)))

-- the Output or Feature report of this kind and ID as it was set last. Example: an Output report of ID 1 and two bytes
-- is 01 00 00 at first
abbrev pub output_of : CoreState → ReportKind → ℕ → Option (List ℕ)
output_of core kind id = option_and_then (slice_get core.outputs) (kept_place core.layout.reports kind id)

-- the report of this kind and ID as it is now (HID 1.11, 7.2.1)
abbrev pub report_now : CoreState → ReportKind → ℕ → Option (List ℕ)
report_now core Input id = option_map (still_bytes core) (report_number_of core.layout.reports Input id)
report_now core Output id = output_of core Output id
report_now core Feature id = output_of core Feature id

-- a read of these bytes, refused where there are none
abbrev pub reads_optional : Option (List ℕ) → RequestDecision
reads_optional None = Refuses
reads_optional (Some bytes) = Reads bytes

-- the idle time of the Input report with this ID, or for 0 of the first (HID 1.11, 7.2.3)
abbrev pub idle_time_of : CoreState → ℕ → Option ℕ
idle_time_of core id =
    if id == 0 then slice_get core.reports.idle 0
    else option_and_then (slice_get core.reports.idle) (report_number_of core.layout.reports Input id)

-- a report is set with as many bytes as it has (HID 1.11, 7.2.2), which are no more than a device takes
abbrev pub sets_report : CoreState → ℕ → Option ℕ → RequestDecision
sets_report core len None = Refuses
sets_report core len (Some i) = writes_if ((len == kept_bytes core.layout i) && nat_le len MAX_WRITE) (Keep i)

-- the idle time of a report is set where there is one
abbrev pub sets_idle_of : ℕ → Option ℕ → RequestDecision
sets_idle_of time None = Refuses
sets_idle_of time (Some r) = Writes (Idle (Some r) time)

-- the Input reports whose idle time is set: that with the ID, and with ID 0 all (HID 1.11, 7.2.4)
abbrev pub sets_idle : CoreState → ℕ → ℕ → RequestDecision
sets_idle core id time =
    if id == 0 then Writes (Idle None time)
    else sets_idle_of time (report_number_of core.layout.reports Input id)

-- What is decided on each row of the request tables. A status is two bytes of zeros: neither powered by itself nor able
-- to wake its host, and endpoint 0 is never halted; that of the other endpoint reports its halt (9.4.5). No such
-- endpoint, and so no halt of it, exists before a device is configured (9.4.1, 9.4.5 and 9.4.9). Protocols are those of
-- boot devices alone (HID 1.11, 7.2.5 and 7.2.6), and are set before a device is configured (our choice).
abbrev pub row_decision : CoreState → RequestKind → RequestDecision
row_decision core Status = Reads (0 ∷ 0 ∷ [])
row_decision core InterfaceStatus = reads_if core.is_configured (0 ∷ 0 ∷ [])
row_decision core ControlStatus = Reads (0 ∷ 0 ∷ [])
row_decision core ReportStatus = reads_if core.is_configured (endpoint_status core.halted)
row_decision core DeviceDescriptor = Reads (device_bytes (device_info core.config))
row_decision core Configuration =
    Reads (configuration_bytes (config_info core.config (length core.descriptor)) core.config.interval)
row_decision core HidDescriptor = Reads (hid_bytes (length core.descriptor))
row_decision core ReportDescriptor = Reads core.descriptor
row_decision core GetConfiguration = Reads (configuration_number core.is_configured ∷ [])
row_decision core GetInterface = reads_if core.is_configured (0 ∷ [])
row_decision core SetConfiguration = Writes Configure
row_decision core ClearFeature = writes_if core.is_configured Clear
row_decision core SetFeature = writes_if core.is_configured Halt
row_decision core (GetReport kind id) = reads_optional (report_now core kind id)
row_decision core (GetIdle id) = reads_optional (option_map (λ time. time ∷ []) (idle_time_of core id))
row_decision core GetProtocol = reads_if (is_boot core.config.boot) (protocol_number core.protocol ∷ [])
row_decision core (SetReport kind id len) = sets_report core len (kept_place core.layout.reports kind id)
row_decision core (SetIdle id time) = sets_idle core id time
row_decision core (SetProtocol protocol) =
    writes_if (is_boot core.config.boot && not core.is_configured) (pendings.Protocol protocol)

-- what is decided on a setup, by its row of the request tables; one without a row is refused
abbrev pub decision_on : CoreState → Option RequestKind → RequestDecision
decision_on core None = Refuses
decision_on core (Some asked) = row_decision core asked

-- what is decided on a request: it reads bytes, writes and brings something about, or is refused. Example:
-- GET_CONFIGURATION reads 00 before SET_CONFIGURATION, 01 after it
unfoldable pub decide : CoreState → Setup → RequestDecision
decide core setup = decision_on core (request_kind_of setup)

-- A decision leaves the answer and what is to be brought about, and nothing else changes.
abbrev pub core_after_decision : CoreState → RequestDecision → CoreState
core_after_decision core Refuses = record core { answer = None; pending = Nothing }
core_after_decision core (Reads bytes) = record core { answer = Some bytes; pending = Nothing }
core_after_decision core (Writes pending) = record core { answer = None; pending = pending }

-- A request is decided on so: whether it is accepted, and what that leaves.
abbrev pub Decides : CoreState → RequestDecision → Bool → CoreState → Type 0
Decides core decided accepted new =
    (accepted ≡ is_accepted decided) × (new ≡ core_after_decision core decided)

-- an idle time is set: that of one Input report, or of all (HID 1.11, 7.2.4)
abbrev pub with_idle_time : List ℕ → Option ℕ → ℕ → List ℕ
with_idle_time idle None time = replicate (length idle) time
with_idle_time idle (Some r) time = slice_set idle r time

-- What a write of these bytes brings about. Frames are counted on (our choice).
abbrev pub core_after_write : CoreState → List ℕ → PendingWrite → CoreState
core_after_write core bytes Nothing = core
core_after_write core bytes Configure = configured_core core
core_after_write core bytes (Keep i) = record core { outputs = with_report core.outputs i bytes }
core_after_write core bytes (Idle report time) =
    record core { reports = with_idle (with_idle_time core.reports.idle report time) core.reports }
core_after_write core bytes (pendings.Protocol protocol) = record core { protocol = protocol }
core_after_write core bytes Halt = halted_core core
core_after_write core bytes Clear = cleared_core core

-- what answers the requests of a device, as functions
abbrev pub core_table : Table CoreState
core_table = record {
  answer_of = λ core. core.answer;
  accepts = λ core setup. is_accepted (decide core setup);
  prepared = λ core setup. core_after_decision core (decide core setup);
  applied = λ core bytes. core_after_write core bytes core.pending;
}
