-- Switches of one bit each, side by side: all of them are the pattern of one field (our choice).
use Rattle.std.specs.Prelude.{ℕ, ◌==◌, ◌&&◌, nat_le, Bool, true, false, length}
use Rattle.hid_layout.specs.ControlKinds.{is_switch}
use Rattle.hid_layout.specs.declared.main_item.MainItem.{MainItem}
use Rattle.hid_report_descriptor.specs.declared.shape.Shape.{Shape}
use Rattle.hid_report_descriptor.specs.declared.shape.Shape.TheVariants.{Padding, Variable, Array}
use Rattle.hid_layout.specs.Controls.{element_kind}
use Rattle.hid_snapshots.specs.declared.control_state.ControlState.{ControlState}
use Rattle.hid_snapshots.specs.declared.control_state.ControlState.TheVariants.{Absent, Switches, Values, Motions, RollOver}
use Rattle.hid_snapshots.specs.Words.{bits_in}

-- an item of this shape has an element for each control
abbrev pub is_variable : Shape → Bool
is_variable Variable = true
is_variable Padding = false
is_variable Array = false

-- The elements of an item are up to 32 switches of one bit each, side by side, so that they are the bits of one pattern.
-- Example: modifiers 02 are the left Shift
abbrev pub are_bits : MainItem → Bool
are_bits item = is_variable item.shape && (item.size == 1 && (nat_le item.count 32 && is_switch (element_kind item)))

-- what is kept of an item of switches once the pattern of their bits is read
abbrev pub read_bits : ℕ → ControlState → ControlState
read_bits pattern (Switches bs) = Switches (bits_in (length bs) pattern)
read_bits pattern Absent = Absent
read_bits pattern (Values vs) = Values vs
read_bits pattern (Motions ms) = Motions ms
read_bits pattern (RollOver bs) = RollOver bs
