-- The interrupt IN endpoints of a configuration, and the HID interfaces that have them (USB 2.0, 9.6.3, 9.6.5 and 9.6.6; HID 1.11, 4.1 and 4.4).
--
--   configuration   0 length 9 | 1 type 2 | 2 total length, 2 | 4 interfaces, 1 | 5 value, 1 | ..
--   interface       0 length 9 | 1 type 4 | 2 number | 3 alternate active | 4 endpoints | 5 class, 3 is HID | ..
--   endpoint        0 length 7 | 1 type 5 | 2 address, bit 7 is IN | 3 attributes, the lowest two bits: 3 is interrupt | ..
--
-- Each begins with its length. One that is shorter than its table has no field after its end: an interface under 9 bytes isn't of the
-- class HID, and an endpoint under 7 isn't one. The endpoints of an interface come after it, and before the next.
use Rattle.std.specs.Prelude.{ℕ, zero, suc, ◌+◌, ◌*◌, ◌%◌, ◌==◌, ◌&&◌, nat_lt, nat_le, not, if◌then◌else◌, Bool, List, [], ◌∷◌, ◌++◌, length, drop, slice_index, Option, Some, None}
use Rattle.hid_capture.specs.declared.configuration.Configuration.{Configuration}
use Rattle.hid_capture.specs.declared.configuration.InterruptEndpoint.{InterruptEndpoint}

-- the byte at the place `at`, 0 where there is none
abbrev pub byte : List ℕ → ℕ → ℕ
byte bytes at = slice_index bytes at

-- the bytes of a configuration with all that belongs to it, as it says
abbrev pub total_length : List ℕ → ℕ
total_length bytes = byte bytes 2 + byte bytes 3 * 256

-- the descriptor of an interface, all 9 bytes of it, that is of the class HID
abbrev pub is_hid_interface : List ℕ → Bool
is_hid_interface bytes = (byte bytes 1 == 4) && nat_le 9 (byte bytes 0) && (byte bytes 5 == 3)

-- the HID interface to which the next endpoints belong, if they belong to one
unfoldable pub interface_after : Option ℕ → List ℕ → Option ℕ
interface_after here bytes =
    if byte bytes 1 == 4 then (if is_hid_interface bytes then Some (byte bytes 2) else None) else here

-- the descriptor, all 7 bytes of it, of an interrupt IN endpoint
unfoldable pub is_interrupt_in : List ℕ → Bool
is_interrupt_in bytes =
    (byte bytes 1 == 5) && nat_le 7 (byte bytes 0) && (byte bytes 3 % 4 == 3) && nat_le 128 (byte bytes 2)

-- the endpoint that a descriptor gives, if it gives one
unfoldable pub endpoint_at : Configuration → Option ℕ → List ℕ → List InterruptEndpoint
endpoint_at configuration here bytes =
    if is_interrupt_in bytes
    then record { configuration = configuration; interface = here; endpoint = byte bytes 2 % 128 } ∷ [] else []

-- a whole descriptor comes next
unfoldable pub has_descriptor : List ℕ → Bool
has_descriptor bytes = not (nat_lt (byte bytes 0) 2) && not (nat_lt (length bytes) (byte bytes 0))

-- The endpoints of descriptors that stand one after another, up to one of less than two bytes, or one that is cut off. `n` is
-- how many may come at most.
unfoldable pub endpoints_in : ℕ → Configuration → Option ℕ → List ℕ → List InterruptEndpoint
endpoints_in zero configuration here bytes = []
endpoints_in (suc n) configuration here bytes =
    if has_descriptor bytes
    then endpoint_at configuration (interface_after here bytes) bytes
    ++ endpoints_in n configuration (interface_after here bytes) (drop (byte bytes 0) bytes)
    else []

-- the value of a configuration and how long it is, where the bytes are all of it
abbrev pub whole_configuration : List ℕ → Option (ℕ × ℕ)
whole_configuration bytes =
    if nat_lt (total_length bytes) 9 then None
    else if nat_lt (length bytes) (total_length bytes) then None
    else Some (byte bytes 5, total_length bytes)
