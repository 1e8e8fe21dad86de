-- The controls of known layouts: the boot keyboard and mouse (HID 1.11, appendix B), a hat switch, a wheel beside a
-- button, and long reports.
use Rattle.std.specs.Prelude.{ℕ, true, nat_lt, List, [], ◌∷◌, map, replicate, pos, negsuc}
use Rattle.std.specs.List.{range_with_len}
use Rattle.hid_report_descriptor.specs.declared.usage.Usage.{Usage}
use Rattle.hid_layout.specs.declared.control.ControlKind.TheVariants.{Switch, Value, NullValue, Relative}
use Rattle.hid_layout.specs.Controls.{Item, NoControls, Elements, Keys, input_item, no_item}

-- the usage of a page with an ID
abbrev pub usage : ℕ → ℕ → Usage
usage page id = record { page = page; id = id }

-- the boot keyboard: its modifiers, a byte of padding, two Output items, and an array of six keys
abbrev pub keyboard : List Item
keyboard =
    input_item 0 8 (Elements Switch (pos 0) (pos 1) (map (usage 7) (range_with_len 0xE0 8)))
    ∷ input_item 0 8 NoControls ∷ no_item ∷ no_item
    ∷ input_item 0 8 (Keys 6 true
    (map (λ id. record { usage = usage 7 id; is_switch = nat_lt 3 id }) (range_with_len 0 102)))
    ∷ []

-- the boot mouse: three buttons, padding, and two motions
abbrev pub mouse : List Item
mouse =
    input_item 0 3 (Elements Switch (pos 0) (pos 1) (map (usage 9) (range_with_len 1 3)))
    ∷ input_item 0 3 NoControls
    ∷ input_item 0 3 (Elements Relative (negsuc 126) (pos 127) (usage 1 0x30 ∷ usage 1 0x31 ∷ []))
    ∷ []

-- a hat switch from 0 to 7 with null, and padding
abbrev pub hat : List Item
hat = input_item 0 1 (Elements NullValue (pos 0) (pos 7) (usage 1 0x39 ∷ [])) ∷ input_item 0 1 NoControls ∷ []

-- two Input reports with IDs
abbrev pub wheel_and_button : List Item
wheel_and_button =
    input_item 0 2 (Elements Relative (negsuc 126) (pos 127) (usage 1 0x30 ∷ []))
    ∷ input_item 1 2 (Elements Switch (pos 0) (pos 1) (usage 9 1 ∷ [])) ∷ []

-- a layout with this many values of a byte each, in one item
abbrev pub byte_values : ℕ → List Item
byte_values n = input_item 0 n (Elements Value (pos 0) (pos 255) (replicate n (usage 1 0x30))) ∷ []

-- a layout with this many motions of a byte each, in one item
abbrev pub byte_motions : ℕ → List Item
byte_motions n = input_item 0 n (Elements Relative (negsuc 126) (pos 127) (replicate n (usage 1 0x30))) ∷ []
