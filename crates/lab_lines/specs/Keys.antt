-- The keys of a US keyboard that type characters (HID Usage Tables, 10; which of two characters needs Shift: a US keyboard).
use Rattle.std.specs.Prelude.{ℕ, ◌+◌, ◌-◌, ◌==◌, ◌&&◌, nat_le, Bool, true, false, List, [], ◌∷◌, Option, None, Some, if◌then◌else◌}
use Rattle.lab_lines.specs.declared.keys.Key.{Key}

-- a key of page 07, and whether Shift is held meanwhile
abbrev pub keyboard_key : ℕ → Bool → Key
keyboard_key id shift = record { usage = record { page = 0x07; id = id }; is_shifted = shift }

-- characters that are no letters and no digits, by their codes, each with its key and whether Shift is held
abbrev pub signs : List (ℕ × ℕ × Bool)
signs =
    (10, 0x28, false) ∷ (9, 0x2B, false) ∷ (32, 0x2C, false)
    ∷ (45, 0x2D, false) ∷ (61, 0x2E, false) ∷ (91, 0x2F, false) ∷ (93, 0x30, false) ∷ (92, 0x31, false)
    ∷ (59, 0x33, false) ∷ (39, 0x34, false) ∷ (96, 0x35, false) ∷ (44, 0x36, false) ∷ (46, 0x37, false)
    ∷ (47, 0x38, false)
    ∷ (33, 0x1E, true) ∷ (64, 0x1F, true) ∷ (35, 0x20, true) ∷ (36, 0x21, true) ∷ (37, 0x22, true)
    ∷ (94, 0x23, true) ∷ (38, 0x24, true) ∷ (42, 0x25, true) ∷ (40, 0x26, true) ∷ (41, 0x27, true)
    ∷ (95, 0x2D, true) ∷ (43, 0x2E, true) ∷ (123, 0x2F, true) ∷ (125, 0x30, true) ∷ (124, 0x31, true)
    ∷ (58, 0x33, true) ∷ (34, 0x34, true) ∷ (126, 0x35, true) ∷ (60, 0x36, true) ∷ (62, 0x37, true)
    ∷ (63, 0x38, true) ∷ []

-- the key of a character in a table
abbrev pub key_under : List (ℕ × ℕ × Bool) → ℕ → Option Key
key_under [] character = None
key_under (row ∷ more) character = if row.0 == character then Some (keyboard_key row.1 row.2) else key_under more character

-- the key that types a character on a US keyboard, and whether Shift is held; none where no key does. Example: A is 07:04
-- with Shift, and 1 is 07:1E
unfoldable pub key_of : ℕ → Option Key
key_of character =
    if nat_le 97 character && nat_le character 122 then Some (keyboard_key (0x04 + (character - 97)) false)
    else if nat_le 65 character && nat_le character 90 then Some (keyboard_key (0x04 + (character - 65)) true)
    else if nat_le 49 character && nat_le character 57 then Some (keyboard_key (0x1E + (character - 49)) false)
    else if character == 48 then Some (keyboard_key 0x27 false)
    else key_under signs character
