-- What a driver reads of the answers to its requests (USB 2.0, 9.6.1 and 9.6.3; HID 1.11, 6.2.1 and 6.2.2).
use Rattle.std.specs.Prelude.{◌≡◌, ◌≢◌, ℕ, nat_lt, ◌==◌, if◌then◌else◌, List, length, slice_index, Result, Ok, Err}
use Rattle.hid_report_descriptor.specs.declared.fault.LayoutFault.{LayoutFault}
use Rattle.hid_report_descriptor.specs.Faults.{is_memory}
use Rattle.hid_report_descriptor.specs.Items.{EncodedItem}
use Rattle.hid_report_descriptor.specs.Real.{Accepts, Refuses}
use Rattle.hid_layout.specs.Layout.{layout_of}
use Rattle.usb_control.specs.declared.descriptors.DeviceInfo.{DeviceInfo}
use Rattle.usb_control.specs.declared.fault.InfoFault.TheVariants.{TooShort, WrongType}
use Rattle.usb_control.specs.Descriptors.{device_info_of}
use Rattle.hid_interfaces.specs.declared.configuration.Configuration.{Configuration}
use Rattle.hid_interfaces.specs.declared.fault.ConfigurationFault.{ConfigurationFault}
use Rattle.hid_interfaces.specs.declared.fault.ConfigurationFault.TheVariants as faults
use Rattle.hid_interfaces.specs.declared.interface.InterfaceInfo.{InterfaceInfo}
use Rattle.hid_interfaces.specs.Configuration as configurations
use Rattle.hid_driver.specs.declared.answers.NoPipe.{NoPipe}
use Rattle.hid_driver.specs.declared.answers.NoPipe.TheVariants as pipes
use Rattle.hid_driver.specs.declared.fault.DriverFault.{DriverFault}
use Rattle.hid_driver.specs.declared.fault.DriverFault.TheVariants.{Memory, Stalled, Failed, Device}
use Rattle.hid_driver.specs.declared.fault.DriverFault.TheVariants as refusals
use Rattle.hid_driver.specs.declared.fault.InterfaceCause.TheVariants as causes
use Rattle.hid_driver.specs.declared.outcome.Outcome.{Outcome}
use Rattle.hid_driver.specs.declared.outcome.Outcome.TheVariants as outcomes
use Rattle.hid_driver.specs.Pipe.{PipeState, pipe_at_start}
use Rattle.hid_driver.specs.Requests.{length_of, packet_size_of}

-- a device descriptor has 18 bytes and type 1 (9.6.1)
abbrev pub device_read : List ℕ → Result DeviceInfo DriverFault
device_read bytes =
    if nat_lt (length bytes) 18 then Err (Device TooShort)
    else (if slice_index bytes 1 == 1 then Ok (device_info_of bytes) else Err (Device WrongType))

-- what is read of the answer for a device descriptor
abbrev pub device_answer : Outcome → Result DeviceInfo DriverFault
device_answer (outcomes.Done bytes) = device_read bytes.now
device_answer outcomes.Stalled = Err Stalled
device_answer outcomes.Failed = Err Failed

-- why a configuration's length can't be read
abbrev pub length_read : Result ℕ ConfigurationFault → Result ℕ DriverFault
length_read (Ok len) = Ok len
length_read (Err fault) = Err (refusals.Configuration fault)

-- what is read of the answer for the first nine bytes of a configuration
abbrev pub length_answer : Outcome → Result ℕ DriverFault
length_answer (outcomes.Done bytes) = length_read (configurations.total_length bytes.now)
length_answer outcomes.Stalled = Err Stalled
length_answer outcomes.Failed = Err Failed

-- what is read of the status of a write
abbrev pub status_answer : Outcome → Result (Unit {0}) DriverFault
status_answer (outcomes.Done bytes) = Ok tt
status_answer outcomes.Stalled = Err Stalled
status_answer outcomes.Failed = Err Failed

-- why a configuration can't be read, as the driver reports it
abbrev pub configuration_refusal : ConfigurationFault → DriverFault
configuration_refusal faults.Memory = Memory
configuration_refusal fault = refusals.Configuration fault

-- a configuration is read, or refused
abbrev pub ConfigurationRead : List ℕ → Result Configuration DriverFault → Type 0
ConfigurationRead bytes (Ok configuration) = configurations.IsConfiguration bytes configuration
ConfigurationRead bytes (Err refused) =
    (fault : ConfigurationFault) × configurations.Refuses bytes fault × (refused ≡ configuration_refusal fault)

-- What is read of the answer for a configuration.
abbrev pub ConfigurationCame : Outcome → Result Configuration DriverFault → Type 0
ConfigurationCame (outcomes.Done bytes) read = ConfigurationRead bytes.now read
ConfigurationCame outcomes.Stalled read = read ≡ Err Stalled
ConfigurationCame outcomes.Failed read = read ≡ Err Failed

-- why there is no layout of an interface's reports
abbrev pub no_layout : LayoutFault → NoPipe
no_layout fault = if is_memory fault.cause then pipes.Memory else pipes.Refused (causes.Layout fault)

-- a report descriptor is refused for this cause, or memory ran out
abbrev pub IsNoLayout : List ℕ → NoPipe → Type 0
IsNoLayout bytes pipes.Memory = Unit {0}
IsNoLayout bytes (pipes.Refused (causes.Layout fault)) = Refuses bytes fault.cause fault.at
IsNoLayout bytes (pipes.Refused cause) = ⊥

-- a report descriptor is as long as its HID descriptor says, and laid out; or it is refused; or memory ran out
abbrev pub DescriptorRead : InterfaceInfo → List ℕ → Result PipeState NoPipe → Type 0
DescriptorRead info bytes (Ok pipe) =
    (length bytes ≡ length_of info)
    × ((items : List EncodedItem) × Accepts bytes items × (pipe ≡ pipe_at_start (packet_size_of info) (layout_of items)))
DescriptorRead info bytes (Err pipes.Memory) = length bytes ≡ length_of info
DescriptorRead info bytes (Err (pipes.Refused causes.ReportLength)) = length bytes ≢ length_of info
DescriptorRead info bytes (Err (pipes.Refused (causes.Layout fault))) =
    (length bytes ≡ length_of info) × Refuses bytes fault.cause fault.at
DescriptorRead info bytes (Err (pipes.Refused cause)) = ⊥

-- What is read of the answer for the report descriptor of an interface.
abbrev pub ReportCame : InterfaceInfo → Outcome → Result PipeState NoPipe → Type 0
ReportCame info (outcomes.Done bytes) read = DescriptorRead info bytes.now read
ReportCame info outcomes.Stalled read = read ≡ Err (pipes.Refused causes.Stalled)
ReportCame info outcomes.Failed read = read ≡ Err (pipes.Refused causes.Failed)
