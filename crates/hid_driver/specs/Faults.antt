-- What refusals are printed as: the codes from the outermost to the innermost (our choice).
use Rattle.std.specs.Prelude.{ℕ, List, ◌++◌, codes}
use Rattle.hid_report_descriptor.specs.Codes.{layout_fault_text}
use Rattle.hid_snapshots.specs.Faults.{report_code}
use Rattle.usb_control.specs.Fault.{info_code_of}
use Rattle.hid_interfaces.specs.Fault.{configuration_code_of, interface_code_of}
use Rattle.hid_driver.specs.declared.fault.InterfaceCause.{InterfaceCause}
use Rattle.hid_driver.specs.declared.fault.InterfaceCause.TheVariants as causes
use Rattle.hid_driver.specs.declared.fault.DriverFault.{DriverFault}
use Rattle.hid_driver.specs.declared.fault.DriverFault.TheVariants.{NoRequest, Memory, NoInterface, NotRead, Busy, NoReport, TooLong, Stalled, Failed, Device, Configuration, Report, LongTransfer, BootProtocol, NoBootProtocol, WrongId}

-- the code of an interface that is refused
abbrev pub cause_text : InterfaceCause → List ℕ
cause_text (causes.Descriptors fault) = interface_code_of fault
cause_text causes.ReportLength = codes "B6"
cause_text (causes.Layout fault) = layout_fault_text fault
cause_text causes.Stalled = codes "H8"
cause_text causes.Failed = codes "H9"

-- the code of a call that is refused, with that of its cause
abbrev pub fault_text : DriverFault → List ℕ
fault_text NoRequest = codes "H1"
fault_text Memory = codes "H2"
fault_text NoInterface = codes "H3"
fault_text NotRead = codes "H4"
fault_text Busy = codes "H5"
fault_text NoReport = codes "H6"
fault_text TooLong = codes "H7"
fault_text Stalled = codes "H8"
fault_text Failed = codes "H9"
fault_text (Device fault) = codes "H10 " ++ info_code_of fault
fault_text (Configuration fault) = codes "H11 " ++ configuration_code_of fault
fault_text (Report fault) = codes "H12 " ++ report_code fault
fault_text LongTransfer = codes "H13"
fault_text BootProtocol = codes "H14"
fault_text NoBootProtocol = codes "H15"
fault_text WrongId = codes "H16"
