-- Whether a device has the boot protocol, and what its interface says of it (HID 1.11, 4.2 and 4.3).
use Rattle.std.specs.Prelude.{ℕ, Bool, true, false}
use Rattle.hid_requests.specs.declared.boot.Boot.{Boot}
use Rattle.hid_requests.specs.declared.boot.Boot.TheVariants.{No, Keyboard, Mouse}

-- Whether a device has the boot protocol (HID 1.11, 4.2): boot keyboards and boot mice have it.
abbrev pub is_boot : Boot → Bool
is_boot No = false
is_boot Keyboard = true
is_boot Mouse = true

-- bInterfaceSubClass: 1 if the device has the boot protocol, else 0 (HID 1.11, 4.2)
abbrev pub subclass_of : Boot → ℕ
subclass_of No = 0
subclass_of Keyboard = 1
subclass_of Mouse = 1

-- bInterfaceProtocol: 1 of a boot keyboard, 2 of a boot mouse, else 0 (HID 1.11, 4.3)
abbrev pub protocol_of : Boot → ℕ
protocol_of No = 0
protocol_of Keyboard = 1
protocol_of Mouse = 2
