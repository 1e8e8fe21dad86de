-- What a host makes of the answer to a request that is done (USB 2.0, 9.1.1.5, 9.4.5 and 9.6; HID 1.11, 6.2.1 and
-- 6.2.2; the phases are our choice).
use Rattle.std.specs.Prelude.{◌≡◌, ◌≢◌, ℕ, ◌<◌, ◌≤◌, if◌then◌else◌, List, length, Result, Ok, Err}
use Rattle.hid_layout.specs.Layout.{Contents}
use Rattle.hid_report_descriptor.specs.declared.limits.TheConstants.{MAX_DESCRIPTOR}
use Rattle.hid_report_descriptor.specs.declared.fault.LayoutFault.{LayoutFault}
use Rattle.hid_report_descriptor.specs.Faults.{is_memory}
use Rattle.hid_report_descriptor.specs.Bus.{Refuses}
use Rattle.usb_control.specs.declared.descriptors.ConfigInfo.{ConfigInfo}
use Rattle.usb_control.specs.declared.fault.InfoFault.TheVariants.{TooShort, WrongType}
use Rattle.usb_control.specs.Descriptors.{IsDevice, ReadsConfig}
use Rattle.hid_requests.specs.declared.request.Request.{Request}
use Rattle.hid_requests.specs.declared.request.Request.TheVariants as requests
use Rattle.hid_layout.specs.Parsing.{ParsesTo}
use Rattle.hid_host.specs.declared.fault.StackFault.{StackFault}
use Rattle.hid_host.specs.declared.fault.StackFault.TheVariants.{BadDescriptor, Memory}
use Rattle.hid_host.specs.declared.fault.DescriptorFault.TheVariants.{Info, ReportLength, Layout}
use Rattle.hid_host.specs.declared.phase.HostPhase.{HostPhase}
use Rattle.hid_host.specs.declared.phase.HostPhase.TheVariants.{Described, Parsed, Ready}
use Rattle.hid_host.specs.Phase.{cleared_phase}
use Rattle.hid_host.specs.Ready.{ready_host_at_start}

-- How a host reports a layout's fault: running out of memory is the host's, and each other cause the descriptor's.
abbrev pub layout_refusal : LayoutFault → StackFault
layout_refusal fault = if is_memory fault.cause then Memory else BadDescriptor (Layout fault)

-- why a host can't be given a layout: the descriptor is refused, or it isn't too long and memory ran out
abbrev pub IsNoLayout : List ℕ → StackFault → Type 0
IsNoLayout bytes (BadDescriptor (Layout fault)) = Refuses bytes fault.cause fault.at
IsNoLayout bytes Memory = length bytes ≤ MAX_DESCRIPTOR
IsNoLayout bytes fault = ⊥

-- A device descriptor is read.
abbrev pub DeviceRead : List ℕ → Result (Unit {0}) StackFault → Type 0
DeviceRead bytes (Ok done) = (18 ≤ length bytes) × IsDevice bytes
DeviceRead bytes (Err (BadDescriptor (Info TooShort))) = length bytes < 18
DeviceRead bytes (Err (BadDescriptor (Info WrongType))) = (18 ≤ length bytes) × ¬ IsDevice bytes
DeviceRead bytes (Err fault) = ⊥

-- The descriptors of a configuration are read.
abbrev pub ConfigRead : List ℕ → Result ConfigInfo StackFault → Type 0
ConfigRead bytes (Ok info) = ReadsConfig bytes (Ok info)
ConfigRead bytes (Err (BadDescriptor (Info fault))) = ReadsConfig bytes (Err fault)
ConfigRead bytes (Err fault) = ⊥

-- A report descriptor is laid out, where it is as long as the configuration says.
abbrev pub ReportRead : ConfigInfo → List ℕ → Result Contents StackFault → Type 0
ReportRead info bytes (Ok layout) = (length bytes ≡ info.report_length) × ParsesTo bytes layout
ReportRead info bytes (Err (BadDescriptor ReportLength)) = length bytes ≢ info.report_length
ReportRead info bytes (Err fault) = (length bytes ≡ info.report_length) × IsNoLayout bytes fault

-- a host polls the endpoint of its device, from DATA0 and the initial view on
abbrev pub Configured : ℕ → ConfigInfo → Contents → Result HostPhase StackFault → Type 0
Configured addr info layout (Ok next) = next ≡ Ready (ready_host_at_start addr info.endpoint layout)
Configured addr info layout (Err fault) = fault ≡ Memory

-- the phase after a request whose answer was read, or why it is refused
abbrev pub phase_or_fault : {A : Type 0} → (A → HostPhase) → Result A StackFault → Result HostPhase StackFault
phase_or_fault next (Ok read) = Ok (next read)
phase_or_fault next (Err fault) = Err fault

-- The phase after a request that is done, or why its answer is refused. A device descriptor leaves the phase; a
-- configuration and a layout are kept; after Configure the device is polled; after Clear DATA0 is expected. Example: B4 as
-- report descriptor is L3 at 0
abbrev pub Concludes : ℕ → Request → HostPhase → List ℕ → Result HostPhase StackFault → Type 0
Concludes addr requests.Device phase bytes made =
    (read : Result (Unit {0}) StackFault) × DeviceRead bytes read × (made ≡ phase_or_fault (λ _. phase) read)
Concludes addr requests.Config phase bytes made =
    (read : Result ConfigInfo StackFault) × ConfigRead bytes read × (made ≡ phase_or_fault Described read)
Concludes addr requests.Report (Described info) bytes made =
    (read : Result Contents StackFault) × ReportRead info bytes read
    × (made ≡ phase_or_fault (Parsed info) read)
Concludes addr requests.Configure (Parsed info layout) bytes made = Configured addr info layout made
Concludes addr requests.Clear phase bytes made = made ≡ Ok (cleared_phase phase)
Concludes addr request phase bytes made = made ≡ Ok phase

-- the phase after a request that is done: one whose answer is refused leaves it
abbrev pub phase_after_answer : HostPhase → Result HostPhase StackFault → HostPhase
phase_after_answer phase (Ok next) = next
phase_after_answer phase (Err fault) = phase
