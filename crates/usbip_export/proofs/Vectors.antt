-- Worked values, written by hand as a real kernel sends and takes them: a wrong one fails the check.
use Rattle.std.proofs.Common.{◌≡◌, [], ◌∷◌, Some, None, refl, replicate}
use Rattle.usbip.specs.declared.operation.OperationStatus.TheVariants.{Busy}
use Rattle.usbip_export.specs.declared.fault.ExportFault.TheVariants.{OtherDevice}
use Rattle.usbip_export.specs.Descriptions.{device_number, list_bytes, named_place, refused_import_bytes}
use Rattle.usbip_export.specs.Faults.{export_fault_code}

-- 1-2, then zeros
second_device : named_place (0x31 ∷ 0x2D ∷ 0x32 ∷ replicate 29 0) ≡ Some 1
second_device = refl

-- 1-8 is none of seven devices
eighth_device : named_place (0x31 ∷ 0x2D ∷ 0x38 ∷ replicate 29 0) ≡ None
eighth_device = refl

-- 1-1.2 is a device behind a hub
behind_hub : named_place (0x31 ∷ 0x2D ∷ 0x31 ∷ 0x2E ∷ 0x32 ∷ replicate 27 0) ≡ None
behind_hub = refl

-- bus 1, device 2
first_number : device_number 0 ≡ 0x10002
first_number = refl

no_devices : list_bytes [] ≡ 0x01 ∷ 0x11 ∷ 0x00 ∷ 0x05 ∷ replicate 8 0
no_devices = refl

busy_device : refused_import_bytes Busy ≡ 0x01 ∷ 0x11 ∷ 0x00 ∷ 0x03 ∷ 0x00 ∷ 0x00 ∷ 0x00 ∷ 0x02 ∷ []
busy_device = refl

-- "N6" in ASCII
other_device_code : export_fault_code OtherDevice ≡ 0x4E ∷ 0x36 ∷ []
other_device_code = refl
