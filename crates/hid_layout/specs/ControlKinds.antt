-- What the kinds of controls are (HID 1.11, 5.10 and 6.2.2.5).
use Rattle.std.specs.Prelude.{Bool, true, false}
use Rattle.hid_layout.specs.declared.control.ControlKind.{ControlKind}
use Rattle.hid_layout.specs.declared.control.ControlKind.TheVariants.{Switch, Value, NullValue, Relative}

-- a control of this kind has a null state (5.10)
abbrev pub has_null : ControlKind → Bool
has_null NullValue = true
has_null Switch = false
has_null Value = false
has_null Relative = false

-- a control of this kind is pressed or not
abbrev pub is_switch : ControlKind → Bool
is_switch Switch = true
is_switch Value = false
is_switch NullValue = false
is_switch Relative = false
