-- The numbers of include/hidstack.h, written out, and worked values.
use Rattle.std.specs.Prelude.{◌≡◌, None, Some, refl}
use Rattle.hid_report_descriptor.specs.declared.report.ReportKind.TheVariants.{Input, Output, Feature}
use Rattle.hid_report_descriptor.specs.declared.fault.Cause.TheVariants.{BadRange}
use Rattle.hid_requests.specs.declared.boot.Boot.TheVariants as boot
use Rattle.hid_requests.specs.declared.fault.DeviceCause.TheVariants.{BadConfig, Layout, Memory}
use Rattle.hidstack_device.specs.Causes.{device_cause_number}
use Rattle.hidstack_device.specs.Making.{boot_of}
use Rattle.hidstack_device.specs.Outputs.{kind_with}

-- V10
bad_range : device_cause_number (Layout BadRange) ≡ 10
bad_range = refl

-- V20
bad_config : device_cause_number BadConfig ≡ 20
bad_config = refl

-- V21
no_memory : device_cause_number Memory ≡ 21
no_memory = refl

boot_keyboard : boot_of 1 ≡ Some boot.Keyboard
boot_keyboard = refl

boot_mouse : boot_of 2 ≡ Some boot.Mouse
boot_mouse = refl

no_boot_device : boot_of 0 ≡ Some boot.No
no_boot_device = refl

no_boot_protocol : boot_of 3 ≡ None
no_boot_protocol = refl

input : kind_with 0 ≡ Some Input
input = refl

output : kind_with 1 ≡ Some Output
output = refl

feature : kind_with 2 ≡ Some Feature
feature = refl

no_kind : kind_with 3 ≡ None
no_kind = refl
