-- Reports of the boot keyboard and mouse (HID 1.11, appendices B and E), written from their parts and read as they show them, worked out by hand.
use Rattle.std.specs.Prelude.{◌≡◌, ℕ, Bool, true, false, List, [], ◌∷◌, ◌++◌, replicate, Ok, pos, negsuc, refl}
use Rattle.hid_report_descriptor.specs.declared.shape.Shape.TheVariants.{Padding, Variable, Array}
use Rattle.hid_report_descriptor.specs.declared.report.ReportKind.TheVariants.{Input, Output}
use Rattle.hid_layout.specs.Layout.{Contents}
use Rattle.hid_layout.specs.Controls.{items_of, items_from, spread_usages, keys_from, rollover_from}
use Rattle.hid_layout.specs.Codes.{first_passing}
use Rattle.hid_snapshots.specs.declared.control_state.ControlState.{ControlState}
use Rattle.hid_snapshots.specs.declared.control_state.ControlState.TheVariants.{Absent, Switches, Motions, RollOver}
use Rattle.hid_snapshots.specs.declared.event.Event.TheVariants as event
use Rattle.hid_snapshots.specs.ControlStates.{blank}
use Rattle.hid_snapshots.specs.Encoding.{part_numbers}
use Rattle.hid_snapshots.specs.PartBytes.{part_bytes}
use Rattle.hid_snapshots.specs.Parts.{still_parts}
use Rattle.hid_snapshots.specs.Events.{control_at}
use Rattle.hid_usages.specs.Reading.{report_named}
use Rattle.hid_snapshots.specs.Samples.{usage}
use Rattle.hid_usages.specs.Taking.{read_view, read_events}
use Rattle.hid_snapshots.specs.Views.{view_after_part}

abbrev mouse : Contents
mouse = record {
  reports = record { kind = Input; id = 0; bits = 24 } ∷ [];
  numbered = false;
  items = record { report = 0; offset = 0; size = 1; count = 3; flags = record { 0 = 2 }; min = pos 0; max = pos 1; shape = Variable }
      ∷ record { report = 0; offset = 3; size = 5; count = 1; flags = record { 0 = 1 }; min = pos 0; max = pos 1; shape = Padding }
      ∷ record { report = 0; offset = 8; size = 8; count = 2; flags = record { 0 = 6 }; min = negsuc 126; max = pos 127; shape = Variable }
      ∷ [];
  entries = ((usage 9 1, usage 9 3) ∷ []) ∷ [] ∷ ((usage 1 0x30, usage 1 0x30) ∷ (usage 1 0x31, usage 1 0x31) ∷ []) ∷ [];
  paths = [] ∷ [] ∷ [] ∷ [];
}

-- button 1, 127 to the right and 127 up
abbrev mouse_bytes : List ℕ
mouse_bytes = 0x01 ∷ 0x7F ∷ 0x81 ∷ []

abbrev mouse_parts : List ControlState
mouse_parts = Switches (true ∷ false ∷ false ∷ []) ∷ Absent ∷ Motions (pos 127 ∷ negsuc 126 ∷ []) ∷ []

mouse_named : report_named mouse mouse_bytes ≡ Ok 0
mouse_named = refl

mouse_seen : read_view mouse 0 mouse_bytes (blank (items_of mouse))
    ≡ view_after_part (items_of mouse) 0 (blank (items_of mouse)) mouse_parts
unfolding items_from spread_usages
mouse_seen = refl

mouse_told : read_events mouse 0 mouse_bytes (blank (items_of mouse)) ≡ event.Down (control_at 0 0) (usage 9 1) ∷ event.Motion (control_at 2 0) (usage 1 0x30) (pos 127) ∷ event.Motion (control_at 2 1) (usage 1 0x31) (negsuc 126) ∷ []
unfolding items_from spread_usages
mouse_told = refl

mouse_written : part_bytes mouse 0 mouse_parts ≡ mouse_bytes
unfolding part_bytes items_from spread_usages
mouse_written = refl

-- its still part: the button alone, of 200 to the right and 3 up too
mouse_still : part_bytes mouse 0
    (still_parts (items_of mouse) 0
    (Switches (true ∷ false ∷ false ∷ []) ∷ Absent ∷ Motions (pos 200 ∷ negsuc 2 ∷ []) ∷ []) mouse_parts) ≡ 0x01 ∷ 0
    ∷ 0 ∷ []
unfolding part_bytes items_from spread_usages
mouse_still = refl

mouse_sent : part_numbers mouse mouse_parts 2 ≡ pos 127 ∷ negsuc 126 ∷ []
unfolding items_from spread_usages
mouse_sent = refl

-- the keyboard's Output report, the LEDs, comes after its Input report
abbrev keyboard : Contents
keyboard = record {
  reports = record { kind = Input; id = 0; bits = 64 } ∷ record { kind = Output; id = 0; bits = 8 } ∷ [];
  numbered = false;
  items = record { report = 0; offset = 0; size = 1; count = 8; flags = record { 0 = 2 }; min = pos 0; max = pos 1; shape = Variable }
      ∷ record { report = 0; offset = 8; size = 8; count = 1; flags = record { 0 = 1 }; min = pos 0; max = pos 1; shape = Padding }
      ∷ record { report = 1; offset = 0; size = 1; count = 5; flags = record { 0 = 2 }; min = pos 0; max = pos 1; shape = Variable }
      ∷ record { report = 1; offset = 5; size = 3; count = 1; flags = record { 0 = 1 }; min = pos 0; max = pos 1; shape = Padding }
      ∷ record { report = 0; offset = 16; size = 8; count = 6; flags = record { 0 = 0 }; min = pos 0; max = pos 101; shape = Array }
      ∷ [];
  entries = ((usage 7 0xE0, usage 7 0xE7) ∷ []) ∷ [] ∷ ((usage 8 1, usage 8 5) ∷ []) ∷ [] ∷ ((usage 7 0, usage 7 0x65) ∷ []) ∷ [];
  paths = [] ∷ [] ∷ [] ∷ [] ∷ [] ∷ [];
}

-- the left Shift, and the key 07:04
abbrev keyboard_bytes : List ℕ
keyboard_bytes = 0x02 ∷ 0 ∷ 0x04 ∷ 0 ∷ 0 ∷ 0 ∷ 0 ∷ 0 ∷ []

abbrev shift_down : List Bool
shift_down = false ∷ true ∷ replicate 6 false

abbrev four_down : List Bool
four_down = replicate 4 false ++ true ∷ replicate 97 false

abbrev keyboard_parts : List ControlState
keyboard_parts = Switches shift_down ∷ Absent ∷ Absent ∷ Absent ∷ Switches four_down ∷ []

keyboard_named : report_named keyboard keyboard_bytes ≡ Ok 0
keyboard_named = refl

keyboard_sent : part_numbers keyboard keyboard_parts 4 ≡ pos 4 ∷ pos 0 ∷ pos 0 ∷ pos 0 ∷ pos 0 ∷ pos 0 ∷ []
unfolding first_passing keys_from rollover_from
keyboard_sent = refl

keyboard_written : part_bytes keyboard 0 keyboard_parts ≡ keyboard_bytes
unfolding part_bytes items_from first_passing keys_from rollover_from spread_usages
keyboard_written = refl

-- the key alone, in place of a part that showed the left Shift too
keyboard_still : part_bytes keyboard 0
    (still_parts (items_of keyboard) 0
    (Switches (replicate 8 false) ∷ Absent ∷ Absent ∷ Absent ∷ Switches four_down ∷ []) keyboard_parts) ≡ 0 ∷ 0 ∷ 4
    ∷ 0 ∷ 0 ∷ 0 ∷ 0 ∷ 0 ∷ []
unfolding part_bytes items_from first_passing keys_from rollover_from spread_usages
keyboard_still = refl

keyboard_seen : read_view keyboard 0 keyboard_bytes (blank (items_of keyboard))
    ≡ view_after_part (items_of keyboard) 0 (blank (items_of keyboard)) keyboard_parts
unfolding items_from spread_usages keys_from rollover_from
keyboard_seen = refl

keyboard_told : read_events keyboard 0 keyboard_bytes (blank (items_of keyboard)) ≡ event.Down (control_at 0 1) (usage 7 0xE1) ∷ event.Down (control_at 4 4) (usage 7 4) ∷ []
unfolding items_from spread_usages keys_from rollover_from
keyboard_told = refl

-- more keys than elements: each element names ErrorRollOver, and the keys stay as they were
abbrev rolled_parts : List ControlState
rolled_parts =
    Switches (replicate 8 false) ∷ Absent ∷ Absent ∷ Absent
    ∷ RollOver (replicate 4 false ++ replicate 7 true ++ replicate 91 false) ∷ []

rolled_sent : part_numbers keyboard rolled_parts 4 ≡ replicate 6 (pos 1)
unfolding first_passing keys_from rollover_from
rolled_sent = refl

rolled_written : part_bytes keyboard 0 rolled_parts ≡ 0 ∷ 0 ∷ 1 ∷ 1 ∷ 1 ∷ 1 ∷ 1 ∷ 1 ∷ []
unfolding part_bytes items_from first_passing keys_from rollover_from spread_usages
rolled_written = refl

rolled_told : read_events keyboard 0 (0 ∷ 0 ∷ 1 ∷ 1 ∷ 1 ∷ 1 ∷ 1 ∷ 1 ∷ []) keyboard_parts ≡ event.Up (control_at 0 1) (usage 7 0xE1) ∷ []
unfolding items_from spread_usages keys_from rollover_from
rolled_told = refl

-- a wheel in report 1 and a button in report 2
abbrev numbered : Contents
numbered = record {
  reports = record { kind = Input; id = 1; bits = 8 } ∷ record { kind = Input; id = 2; bits = 1 } ∷ [];
  numbered = true;
  items = record { report = 0; offset = 0; size = 8; count = 1; flags = record { 0 = 6 }; min = negsuc 126; max = pos 127; shape = Variable }
      ∷ record { report = 1; offset = 0; size = 1; count = 1; flags = record { 0 = 2 }; min = pos 0; max = pos 1; shape = Variable }
      ∷ [];
  entries = ((usage 1 0x38, usage 1 0x38) ∷ []) ∷ ((usage 9 1, usage 9 1) ∷ []) ∷ [];
  paths = [] ∷ [] ∷ [];
}

button_named : report_named numbered (2 ∷ 1 ∷ []) ≡ Ok 1
button_named = refl

button_told : read_events numbered 1 (2 ∷ 1 ∷ []) (blank (items_of numbered)) ≡ event.Down (control_at 1 0) (usage 9 1) ∷ []
unfolding items_from spread_usages
button_told = refl

wheel_told : read_events numbered 0 (1 ∷ 0xFF ∷ []) (blank (items_of numbered)) ≡ event.Motion (control_at 0 0) (usage 1 0x38) (negsuc 0) ∷ []
unfolding items_from spread_usages
wheel_told = refl

-- one to the left, and the button, each after the ID of its report
wheel_written : part_bytes numbered 0 (Motions (negsuc 0 ∷ []) ∷ Switches (true ∷ []) ∷ []) ≡ 1 ∷ 0xFF ∷ []
unfolding part_bytes items_from spread_usages
wheel_written = refl

button_written : part_bytes numbered 1 (Motions (negsuc 0 ∷ []) ∷ Switches (true ∷ []) ∷ []) ≡ 2 ∷ 1 ∷ []
unfolding part_bytes items_from spread_usages
button_written = refl

-- the still part of a report leaves the motion of another
button_still : still_parts (items_of numbered) 1 (Motions (negsuc 0 ∷ []) ∷ Switches (true ∷ []) ∷ [])
    (Motions (pos 9 ∷ []) ∷ Switches (false ∷ []) ∷ []) ≡ Motions (pos 9 ∷ []) ∷ Switches (true ∷ []) ∷ []
unfolding items_from spread_usages
button_still = refl
