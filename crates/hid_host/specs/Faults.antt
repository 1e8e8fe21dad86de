-- What refusals are printed as: the codes from the outermost to the innermost (our choice).
use Rattle.std.specs.Prelude.{ℕ, List, ◌++◌, codes}
use Rattle.hid_report_descriptor.specs.Codes.{layout_fault_text}
use Rattle.hid_snapshots.specs.Faults.{change_code, report_code}
use Rattle.hid_requests.specs.Fault.{device_fault_text}
use Rattle.usb_control.specs.Fault.{control_code_of, info_code_of}
use Rattle.hid_host.specs.declared.fault.DescriptorFault.{DescriptorFault}
use Rattle.hid_host.specs.declared.fault.DescriptorFault.TheVariants.{Info, ReportLength, Layout, Device}
use Rattle.hid_host.specs.declared.fault.StackFault.{StackFault}
use Rattle.hid_host.specs.declared.fault.StackFault.TheVariants.{NoDevice, NotReady, Refused, Control, BadDescriptor, Report, TooManyDevices, Memory}

-- a refusal of what is read of a device, of the layout, or of a virtual device
abbrev pub descriptor_text : DescriptorFault → List ℕ
descriptor_text (Info fault) = info_code_of fault
descriptor_text ReportLength = codes "B6"
descriptor_text (Layout fault) = layout_fault_text fault
descriptor_text (Device fault) = device_fault_text fault.cause fault.at

-- each refusal with the one that caused it, from the outermost code to the innermost
abbrev pub stack_text : StackFault → List ℕ
stack_text NoDevice = codes "S1"
stack_text NotReady = codes "S2"
stack_text (Refused fault) = codes "S3 " ++ change_code fault
stack_text (Control fault) = codes "S4 " ++ control_code_of fault
stack_text (BadDescriptor fault) = codes "S5 " ++ descriptor_text fault
stack_text (Report fault) = codes "S6 " ++ report_code fault
stack_text TooManyDevices = codes "S7"
stack_text Memory = codes "S8"
