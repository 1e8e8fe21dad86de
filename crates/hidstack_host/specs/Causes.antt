-- The causes of a driver's refusals as numbers, those of their codes (our choice).
use Rattle.std.specs.Prelude.{ℕ}
use Rattle.hid_snapshots.specs.declared.fault.ReportFault.{ReportFault}
use Rattle.hid_snapshots.specs.declared.fault.ReportFault.TheVariants as reports
use Rattle.usb_control.specs.declared.fault.InfoFault.{InfoFault}
use Rattle.usb_control.specs.declared.fault.InfoFault.TheVariants as devices
use Rattle.hid_interfaces.specs.declared.fault.ConfigurationFault.{ConfigurationFault}
use Rattle.hid_interfaces.specs.declared.fault.ConfigurationFault.TheVariants as configurations
use Rattle.hid_interfaces.specs.declared.fault.InterfaceFault.{InterfaceFault}
use Rattle.hid_interfaces.specs.declared.fault.InterfaceFault.TheVariants as interfaces
use Rattle.hid_driver.specs.declared.fault.DriverFault.{DriverFault}
use Rattle.hid_driver.specs.declared.fault.DriverFault.TheVariants.{NoRequest, Memory, NoInterface, NotRead, Busy, NoReport, TooLong, Stalled, Failed, Device, Configuration, Report, LongTransfer, BootProtocol, NoBootProtocol, WrongId}
use Rattle.hid_driver.specs.declared.fault.InterfaceCause.{InterfaceCause}
use Rattle.hid_driver.specs.declared.fault.InterfaceCause.TheVariants as causes
use Rattle.hidstack_session.specs.Causes.{cause_number}
use Rattle.hidstack_host.specs.declared.cause.Code.{Code}

-- each refusal of a driver has the number of its code: 1 for H1 to 16 for H16
abbrev pub fault_number : DriverFault → ℕ
fault_number NoRequest = 1
fault_number Memory = 2
fault_number NoInterface = 3
fault_number NotRead = 4
fault_number Busy = 5
fault_number NoReport = 6
fault_number TooLong = 7
fault_number Stalled = 8
fault_number Failed = 9
fault_number (Device fault) = 10
fault_number (Configuration fault) = 11
fault_number (Report fault) = 12
fault_number LongTransfer = 13
fault_number BootProtocol = 14
fault_number NoBootProtocol = 15
fault_number WrongId = 16

-- a device descriptor that can't be read has the number of its code: 1 for B1 to 5 for B5
abbrev pub info_number : InfoFault → ℕ
info_number devices.TooShort = 1
info_number devices.WrongType = 2
info_number devices.NoHidInterface = 3
info_number devices.NoReportDescriptor = 4
info_number devices.NoEndpoint = 5

-- a configuration that can't be read has the number of its code: 1 of B1, 7 of B7
abbrev pub configuration_number : ConfigurationFault → ℕ
configuration_number configurations.TooShort = 1
configuration_number configurations.WrongType = 2
configuration_number configurations.TotalLength = 7
configuration_number configurations.NoDescriptors = 11
configuration_number configurations.NoNumber = 12
configuration_number configurations.NoHidInterface = 3
configuration_number configurations.Memory = 10

-- a report that can't be read has the number of its code: 8 of U8, 9 of U9
abbrev pub report_number : ReportFault → ℕ
report_number reports.Short = 8
report_number reports.UnknownReport = 9

-- the inner code of a refusal has this number: of H10 and H11 a B, of H12 a U; no other has one. Example: of `H10 B2` it is 2
abbrev pub detail_number : DriverFault → ℕ
detail_number (Device fault) = info_number fault
detail_number (Configuration fault) = configuration_number fault
detail_number (Report fault) = report_number fault
detail_number fault = 0

-- an interface whose descriptors can't be used has the number of its code: 13 of B13, 4 of B4
abbrev pub interface_number : InterfaceFault → ℕ
interface_number interfaces.SharedNumber = 13
interface_number interfaces.NoReportDescriptor = 4
interface_number interfaces.NoEndpoint = 5
interface_number interfaces.PacketSize = 8
interface_number interfaces.SharedEndpoint = 9

-- a code of a letter, in ASCII, and a number, without a place
abbrev pub code_of : ℕ → ℕ → Code
code_of letter number = record { letter = letter; number = number; at = 0 }

-- The code of the cause for which an interface isn't read: its letter, its number, and of an L its place. Example: a Pop without a
-- Push at 2 is L (76), 3, 2
abbrev pub cause_code : InterfaceCause → Code
cause_code (causes.Descriptors fault) = code_of 66 (interface_number fault)
cause_code causes.ReportLength = code_of 66 6
cause_code (causes.Layout fault) = record { letter = 76; number = cause_number fault.cause; at = fault.at }
cause_code causes.Stalled = code_of 72 8
cause_code causes.Failed = code_of 72 9
