-- Numbers of include/hidstack.h and of docs/FORMATS.md, written out: a wrong one fails the check.
use Rattle.std.specs.Prelude.{◌≡◌, refl}
use Rattle.usb_control.specs.declared.fault.InfoFault.TheVariants.{WrongType}
use Rattle.hid_interfaces.specs.declared.fault.ConfigurationFault.TheVariants.{NoNumber}
use Rattle.hid_interfaces.specs.declared.fault.InterfaceFault.TheVariants.{SharedNumber}
use Rattle.hid_report_descriptor.specs.declared.fault.Cause.TheVariants.{PopEmpty}
use Rattle.hid_driver.specs.declared.fault.DriverFault.TheVariants.{Configuration, Device, LongTransfer}
use Rattle.hid_driver.specs.declared.fault.InterfaceCause.TheVariants.{Descriptors, Layout}
use Rattle.hid_driver.specs.declared.state.Moved.TheVariants.{Live}
use Rattle.hidstack_host.specs.declared.asked.TheConstants.{GET_REPORT, SET_REPORT, SET_IDLE}
use Rattle.hidstack_host.specs.declared.info.TheConstants.{INTERFACE_STOPPED, HOST_REFUSED}
use Rattle.hidstack_host.specs.Causes.{cause_code, detail_number, fault_number}
use Rattle.hidstack_host.specs.Moved.{moved_record}

-- H13
a_long_transfer : fault_number LongTransfer ≡ 13
a_long_transfer = refl

-- H10 B2
no_device_descriptor : detail_number (Device WrongType) ≡ 2
no_device_descriptor = refl

-- H11 B12
no_number : detail_number (Configuration NoNumber) ≡ 12
no_number = refl

-- B13: the letter is 0x42 in ASCII
a_shared_number : cause_code (Descriptors SharedNumber) ≡ record { letter = 0x42; number = 13; at = 0 }
a_shared_number = refl

-- L3 at 2: the letter is 0x4C
a_pop_without_a_push : cause_code (Layout (record { cause = PopEmpty; at = 2 })) ≡ record { letter = 0x4C; number = 3; at = 2 }
a_pop_without_a_push = refl

-- interface 1 is live
live : moved_record (Live 1) ≡ record { interface = 1; step = 1; cause = 0; detail = 0; spare = 0 }
live = refl

-- bRequest (HID 1.11, 7.2)
get_report : GET_REPORT ≡ 0x01
get_report = refl

set_report : SET_REPORT ≡ 0x09
set_report = refl

set_idle : SET_IDLE ≡ 0x0A
set_idle = refl

stopped : INTERFACE_STOPPED ≡ 3
stopped = refl

refused : HOST_REFUSED ≡ 2
refused = refl
