-- The bytes of a request (USB 2.0, 9.3).
use Rattle.std.specs.Prelude.{◌≡◌, ℕ, Bool, nat_le, ◌++◌, List, ◌∷◌, slice_index, ◌+◌, ◌*◌}
use Rattle.std.specs.Int.{w16, to_le_bytes}
use Rattle.usb_control.specs.declared.setup.Setup.{Setup}

-- The eight bytes of a request: bmRequestType, bRequest, and the words wValue, wIndex and wLength, with their low byte
-- first (table 9-2; 8.1). Example: 80 06 00 01 00 00 12 00 is GET_DESCRIPTOR for a device, of 18 bytes
abbrev pub setup_bytes : Setup → List ℕ
setup_bytes s =
    s.request_type ∷ s.request ∷
    (to_le_bytes w16 s.value ++ to_le_bytes w16 s.index ++ to_le_bytes w16 s.length)

-- the word at a place, its low byte first
abbrev pub word_at : List ℕ → ℕ → ℕ
word_at bytes i = slice_index bytes i + 256 * slice_index bytes (i + 1)

-- the request that eight bytes encode
abbrev pub setup_of : List ℕ → Setup
setup_of bytes =
    record {
      request_type = slice_index bytes 0;
      request = slice_index bytes 1;
      value = word_at bytes 2;
      index = word_at bytes 4;
      length = word_at bytes 6;
    }

-- whether data go to the host: bit 7 of the request type
abbrev pub reads : Setup → Bool
reads s = nat_le 128 s.request_type

-- a request is encoded by its bytes: its fields fit their bytes
abbrev pub IsEncoded : Setup → Type 0
IsEncoded s = setup_of (setup_bytes s) ≡ s
