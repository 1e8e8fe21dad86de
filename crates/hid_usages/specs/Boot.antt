-- The reports of the boot keyboard and the boot mouse, the layouts of their descriptors, and that reports read along
-- these layouts give what the reports say (HID 1.11, appendix B).
use Rattle.std.specs.Prelude.{◌≡◌, ℕ, ◌-◌, ◌%◌, ◌≤◌, ◌==◌, ◌&&◌, not, nat_lt, nat_le, if◌then◌else◌, Bool, true, false, List, [], ◌∷◌, ◌++◌, length, map, slice_index, Some, Result, Ok, Err, ℤ, pos, negsuc, ◌≤ℤ◌}
use Rattle.std.specs.Int.{bit_at}
use Rattle.std.specs.List.{list_any, range_with_len}
use Rattle.std.specs.Ordering.{int_eq}
use Rattle.hid_fields.specs.Value.{value_of, pattern_for}
use Rattle.hid_report_descriptor.specs.declared.collection.Collection.{Collection}
use Rattle.hid_layout.specs.declared.control.ControlId.{ControlId}
use Rattle.hid_layout.specs.declared.main_item.MainItem.{MainItem}
use Rattle.hid_report_descriptor.specs.declared.shape.Shape.{Shape}
use Rattle.hid_report_descriptor.specs.declared.shape.Shape.TheVariants.{Padding, Variable, Array}
use Rattle.hid_report_descriptor.specs.declared.report.ReportKind.TheVariants.{Input, Output}
use Rattle.hid_report_descriptor.specs.declared.usage.Usage.{Usage}
use Rattle.hid_report_descriptor.specs.Items.{EncodedItem}
use Rattle.hid_report_descriptor.specs.Usages.{Entry}
use Rattle.hid_layout.specs.Layout.{Contents, layout_of}
use Rattle.hid_report_descriptor.specs.Bus.{Accepts}
use Rattle.hid_layout.specs.Controls.{items_of}
use Rattle.hid_layout.specs.Finding.{control_usage}
use Rattle.hid_usages.specs.declared.boot.KeyboardReport.{KeyboardReport}
use Rattle.hid_usages.specs.declared.boot.MouseReport.{MouseReport}
use Rattle.hid_snapshots.specs.declared.control_state.ControlState.{ControlState}
use Rattle.hid_snapshots.specs.declared.control_state.ControlState.TheVariants.{Switches}
use Rattle.hid_snapshots.specs.declared.fault.ReportFault.{ReportFault}
use Rattle.hid_snapshots.specs.declared.fault.ReportFault.TheVariants.{Short}
use Rattle.hid_snapshots.specs.Events.{control_at, switch_events, motion_event}
use Rattle.hid_usages.specs.Reading.{report_named}
use Rattle.hid_snapshots.specs.Samples.{usage}
use Rattle.hid_snapshots.specs.Snapshots.{is_pressed, state_at}
use Rattle.hid_usages.specs.Taking.{read_view, read_events}

-- Byte 0 has a bit for each of the modifiers 07:E0 to 07:E7, byte 1 is reserved, and bytes 2 to 7 name keys (B.1).
abbrev pub keyboard_of : List ℕ → KeyboardReport
keyboard_of bytes = record { modifiers = slice_index bytes 0; keys = map (slice_index bytes) (range_with_len 2 6) }

-- The keyboard's report in these bytes: modifiers in byte 0 and six keys in bytes 2 to 7; Short if they are under eight.
abbrev pub keyboard_in : List ℕ → Result KeyboardReport ReportFault
keyboard_in bytes = if nat_lt (length bytes) 8 then Err Short else Ok (keyboard_of bytes)

-- the bytes of the keyboard's report, with 0 in the reserved one
abbrev pub keyboard_bytes : KeyboardReport → List ℕ
keyboard_bytes report = report.modifiers ∷ 0 ∷ report.keys

-- a key of the report has this ID
abbrev pub names : ℕ → KeyboardReport → Bool
names id report = list_any (λ key. key == id) report.keys

-- ErrorRollOver in an array reports that more keys are held than it has elements (HID 1.11, appendix C)
abbrev pub is_rolled : KeyboardReport → Bool
is_rolled report = names 1 report

-- 07:id is a modifier
abbrev pub is_modifier : ℕ → Bool
is_modifier id = nat_le 0xE0 id && nat_le id 0xE7

-- 07:id is a key of the keyboard's array
abbrev pub is_boot_key : ℕ → Bool
is_boot_key id = nat_le 0x04 id && nat_le id 0x65

-- The report says that 07:id is held: its modifier's bit is set, or it is named and no key is 01. Example: 02 00 01 01
-- 01 01 01 01 holds E1 alone
abbrev pub is_boot_key_held : KeyboardReport → ℕ → Bool
is_boot_key_held report id =
    if is_modifier id then bit_at report.modifiers (id - 0xE0) == 1
    else is_boot_key id && (not (is_rolled report) && names id report)

-- Byte 0 has a bit for each of the buttons 09:01 to 09:03, bytes 1 and 2 are motions from -127 to 127 (B.2); -128 is
-- out of that range and moves nothing (our choice).
abbrev pub boot_motion : ℕ → ℤ
boot_motion byte = if byte == 0x80 then pos 0 else value_of byte 8 true

-- the low three bits of byte 0 are the buttons, bytes 1 and 2 the motions x and y
abbrev pub mouse_of : List ℕ → MouseReport
mouse_of bytes =
    record {
      buttons = slice_index bytes 0 % 8;
      x = boot_motion (slice_index bytes 1);
      y = boot_motion (slice_index bytes 2);
    }

-- The mouse's report in these bytes: buttons in the low three bits of byte 0, motions in bytes 1 and 2; Short if they
-- are under three. Example: 05 7F 81 has buttons 5, x 127 and y -127
abbrev pub mouse_in : List ℕ → Result MouseReport ReportFault
mouse_in bytes = if nat_lt (length bytes) 3 then Err Short else Ok (mouse_of bytes)

-- the bytes of the mouse's report
abbrev pub mouse_bytes : MouseReport → List ℕ
mouse_bytes report = report.buttons ∷ pattern_for report.x 8 ∷ pattern_for report.y 8 ∷ []

-- A keyboard's report that is written is read again.
abbrev pub KeyboardReadsBack : Type 0
KeyboardReadsBack = (modifiers a b c d e f : ℕ) →
    let report : KeyboardReport = record { modifiers = modifiers; keys = a ∷ b ∷ c ∷ d ∷ e ∷ f ∷ [] } in
    keyboard_in (keyboard_bytes report) ≡ Ok report

-- a number of a signed byte
abbrev pub IsByteNumber : ℤ → Type 0
IsByteNumber v = (negsuc 127 ≤ℤ v) × (v ≤ℤ pos 127)

-- the motion that is read where this one was written
abbrev pub motion_read : ℤ → ℤ
motion_read v = if int_eq v (negsuc 127) then pos 0 else v

-- a mouse's report of up to three buttons that is written is read again, save a motion of -128
abbrev pub MouseReadsBack : Type 0
MouseReadsBack = (buttons : ℕ) (x y : ℤ) → buttons ≤ 7 → IsByteNumber x → IsByteNumber y →
    mouse_in (mouse_bytes (record { buttons = buttons; x = x; y = y }))
    ≡ Ok (record { buttons = buttons; x = motion_read x; y = motion_read y })

-- a range of usages of one page
abbrev pub usages : ℕ → ℕ → ℕ → Entry
usages page first last = (usage page first, usage page last)

-- a collection of this kind with its usage
abbrev pub collection : ℕ → Usage → Collection
collection kind u = record { kind = kind; usage = Some u }

-- an item of a report: its place, its width, the number of its elements, its flags, range and shape
abbrev pub field : ℕ → ℕ → ℕ → ℕ → ℕ → ℤ → ℤ → Shape → MainItem
field report offset size count flags min max shape =
    record {
      report = report;
      offset = offset;
      size = size;
      count = count;
      flags = record { 0 = flags };
      min = min;
      max = max;
      shape = shape;
    }

-- the keyboard's one collection
abbrev pub keyboard_path : List Collection
keyboard_path = collection 1 (usage 0x01 0x06) ∷ []

-- the layout of the boot keyboard's descriptor (B.1)
abbrev pub keyboard_layout : Contents
keyboard_layout = record {
  reports = record { kind = Input; id = 0; bits = 64 } ∷ record { kind = Output; id = 0; bits = 8 } ∷ [];
  numbered = false;
  items =
      field 0 0 1 8 0x2 (pos 0) (pos 1) Variable
      ∷ field 0 8 8 1 0x1 (pos 0) (pos 1) Padding
      ∷ field 1 0 1 5 0x2 (pos 0) (pos 1) Variable
      ∷ field 1 5 3 1 0x1 (pos 0) (pos 1) Padding
      ∷ field 0 16 8 6 0x0 (pos 0) (pos 101) Array
      ∷ [];
  entries = (usages 0x07 0xE0 0xE7 ∷ []) ∷ [] ∷ (usages 0x08 0x01 0x05 ∷ []) ∷ [] ∷ (usages 0x07 0x00 0x65 ∷ []) ∷ [];
  paths = keyboard_path ∷ keyboard_path ∷ keyboard_path ∷ keyboard_path ∷ keyboard_path ∷ [];
}

-- the mouse's two collections
abbrev pub mouse_path : List Collection
mouse_path = collection 1 (usage 0x01 0x02) ∷ collection 0 (usage 0x01 0x01) ∷ []

-- the layout of the boot mouse's descriptor (B.2)
abbrev pub mouse_layout : Contents
mouse_layout = record {
  reports = record { kind = Input; id = 0; bits = 24 } ∷ [];
  numbered = false;
  items =
      field 0 0 1 3 0x2 (pos 0) (pos 1) Variable
      ∷ field 0 3 5 1 0x1 (pos 0) (pos 1) Padding
      ∷ field 0 8 8 2 0x6 (negsuc 126) (pos 127) Variable
      ∷ [];
  entries = (usages 0x09 0x01 0x03 ∷ []) ∷ [] ∷ (usages 0x01 0x30 0x30 ∷ usages 0x01 0x31 0x31 ∷ []) ∷ [];
  paths = mouse_path ∷ mouse_path ∷ mouse_path ∷ [];
}

-- a descriptor is accepted, and this is its only layout
pub record GivesOnly (descriptor : List ℕ) (layout : Contents) : Type 0 where
  pub accepted : (before : List EncodedItem) × Accepts descriptor before
  pub only : (before : List EncodedItem) → Accepts descriptor before → layout_of before ≡ layout

-- The control of 07:id is held in the view that is read of these bytes exactly if the report says so.
abbrev pub IsReportedKey : List ControlState → KeyboardReport → ℕ → Type 0
IsReportedKey view report id =
    (c : ControlId) → control_usage (items_of keyboard_layout) c ≡ Some (usage 7 id)
    → is_pressed (state_at view c.item) c.index ≡ is_boot_key_held report id

-- some control has the usage
abbrev pub IsControl : ℕ → Type 0
IsControl id = (c : ControlId) × (control_usage (items_of keyboard_layout) c ≡ Some (usage 7 id))

-- The bytes read along the boot keyboard's layout in a view: they are of its Input report, and each modifier is held
-- where the report says so, and so is each key where it isn't rolled over.
pub record ReportsKeys (bytes : List ℕ) (view : List ControlState) : Type 0 where
  pub named : report_named keyboard_layout bytes ≡ Ok 0
  pub modifier_there : (id : ℕ) → 0xE0 ≤ id → id ≤ 0xE7 → IsControl id
  pub modifiers : (id : ℕ) → 0xE0 ≤ id → id ≤ 0xE7
      → IsReportedKey (read_view keyboard_layout 0 bytes view) (keyboard_of bytes) id
  pub key_there : (id : ℕ) → 0x04 ≤ id → id ≤ 0x65 → IsControl id
  pub keys : (id : ℕ) → 0x04 ≤ id → id ≤ 0x65 → is_rolled (keyboard_of bytes) ≡ false
      → IsReportedKey (read_view keyboard_layout 0 bytes view) (keyboard_of bytes) id

-- which of the three buttons the bytes hold
abbrev pub buttons_in : List ℕ → List Bool
buttons_in bytes = map (λ n. bit_at (mouse_of bytes).buttons n == 1) (range_with_len 0 3)

-- The bytes read along the boot mouse's layout in a view: they are of its Input report, the buttons that are held are
-- those of the report, and the events are what changes at the buttons, and then the motions x and y where they aren't
-- 0.
pub record ReportsButtons (bytes : List ℕ) (view : List ControlState) : Type 0 where
  pub named : report_named mouse_layout bytes ≡ Ok 0
  pub held : state_at (read_view mouse_layout 0 bytes view) 0 ≡ Switches (buttons_in bytes)
  pub motions : (before : List Bool) → state_at view 0 ≡ Switches before
      → read_events mouse_layout 0 bytes view
      ≡ switch_events 0 (map (usage 9) (range_with_len 1 3)) before (buttons_in bytes)
      ++ (motion_event (control_at 2 0) (usage 0x01 0x30) (mouse_of bytes).x
      ++ motion_event (control_at 2 1) (usage 0x01 0x31) (mouse_of bytes).y)
