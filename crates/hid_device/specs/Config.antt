-- What a device is beside its report descriptor (USB 2.0, 9.6; HID 1.11, 4.2 and appendix B).
use Rattle.std.specs.Prelude.{ℕ, Bool, true, not, ◌&&◌, ◌==◌, nat_le, List}
use Rattle.std.specs.Cmp.Lexicographic.{pointwise}
use Rattle.usb_packet.specs.declared.packet.TheConstants.{MAX_ADDRESS}
use Rattle.hid_layout.specs.declared.boot.TheConstants.{KEYBOARD, MOUSE}
use Rattle.hid_requests.specs.declared.boot.Boot.{Boot}
use Rattle.hid_requests.specs.declared.boot.Boot.TheVariants as boot
use Rattle.hid_device.specs.declared.config.Config.{Config}

-- two byte strings are the same
abbrev pub same_bytes : List ℕ → List ℕ → Bool
same_bytes xs ys = pointwise (λ x y. x == y) xs ys

-- a boot device has the descriptor of its kind (our choice)
abbrev pub suits_boot : Boot → List ℕ → Bool
suits_boot boot.No descriptor = true
suits_boot boot.Keyboard descriptor = same_bytes descriptor KEYBOARD
suits_boot boot.Mouse descriptor = same_bytes descriptor MOUSE

-- Address 0 is for devices that have none yet (USB 2.0, 9.1.1.4), and an interval of 0 is no interval (USB 2.0,
-- table 9-13).
abbrev pub is_config : ℕ → Config → List ℕ → Bool
is_config addr config descriptor =
    (nat_le 1 addr && nat_le addr MAX_ADDRESS) && (not (config.interval == 0) && suits_boot config.boot descriptor)
