-- What a report of any bytes means, by the number of each element; a number out of range is null where
-- the control has null (HID 1.11, 5.6, 5.8, 5.10, 6.2.2.5 and appendix C).
use Rattle.std.specs.Prelude.{ℕ, ◌+◌, ◌*◌, ◌<◌, ◌≤◌, ◌==◌, nat_lt, length, position, Result, Ok, Err, Bool, true, false, ◌&&◌, if◌then◌else◌, List, [], ◌∷◌, map, slice_get, Option, Some, None, ℤ, pos, ◌+ℤ◌}
use Rattle.std.specs.Ordering.{int_eq}
use Rattle.std.specs.List.{list_any, zip}
use Rattle.std.specs.Option.{option_and_then}
use Rattle.hid_report_descriptor.specs.declared.limits.TheConstants.{MAX_REPORT_BYTES}
use Rattle.hid_fields.specs.Value.{is_negative, FitsField}
use Rattle.hid_layout.specs.declared.main_item.MainItem.{MainItem}
use Rattle.hid_layout.specs.declared.main_item.Element.{Element}
use Rattle.hid_report_descriptor.specs.declared.report.Report.{Report}
use Rattle.hid_report_descriptor.specs.declared.report.ReportKind.TheVariants.{Input}
use Rattle.hid_report_descriptor.specs.Fields.{same_kind}
use Rattle.hid_layout.specs.Layout.{Contents}
use Rattle.hid_layout.specs.Reports.{first_bit, report_bytes}
use Rattle.hid_snapshots.specs.Numbers.{number_at}
use Rattle.hid_snapshots.specs.declared.fault.ReportFault.{ReportFault}
use Rattle.hid_snapshots.specs.declared.fault.ReportFault.TheVariants.{Short, UnknownReport}
use Rattle.hid_report_descriptor.specs.declared.usage.Usage.{Usage}
use Rattle.hid_layout.specs.declared.control.ControlKind.{ControlKind}
use Rattle.hid_layout.specs.declared.control.ControlKind.TheVariants.{Switch, Value, NullValue, Relative}
use Rattle.hid_layout.specs.Controls.{Form, NoControls, Elements, Keys, Key}
use Rattle.hid_report_descriptor.specs.Usages.{is_rollover}
pub use Rattle.hid_layout.specs.Controls.{array_keys}
pub use Rattle.hid_snapshots.specs.ControlStates.{is_in, has_null}
pub use Rattle.hid_layout.specs.Codes.{at_zero, place_named}
pub use Rattle.hid_snapshots.specs.Encoding.{is_data_in, item_numbers}
pub use Rattle.hid_snapshots.specs.Keys.{keys_of, keys_at}
use Rattle.hid_snapshots.specs.declared.control_state.ControlState.{ControlState}
use Rattle.hid_snapshots.specs.declared.control_state.ControlState.TheVariants.{Absent, Switches, Values, Motions}

-- a switch is released by 0, pressed by 1, and stays for another number
abbrev pub read_switch : Bool → ℤ → Bool
read_switch before v = if int_eq v (pos 0) then false else (if int_eq v (pos 1) then true else before)

-- a value is the number where that is in range, else null where the control has null, else as
-- before
abbrev pub read_value : Bool → ℤ → ℤ → Option ℤ → ℤ → Option ℤ
read_value has_null least greatest before v =
    if is_in least greatest v then Some v else (if has_null then None else before)

-- a motion is the number where that is in range, else none
abbrev pub read_motion : ℤ → ℤ → ℤ → ℤ
read_motion least greatest v = if is_in least greatest v then v else pos 0

-- the usage that an element of an array names by this number
abbrev pub usage_named : MainItem → List Usage → ℤ → Option Usage
usage_named item us v = elim (place_named item v) [ None ↦ None | Some i ↦ slice_get us i ]

-- the usage at a place is ErrorRollOver, 07:01
abbrev pub is_rollover_at : List Usage → ℕ → Bool
is_rollover_at us place = elim (slice_get us place) [ None ↦ false | Some u ↦ is_rollover u ]

-- an element of this number names ErrorRollOver
abbrev pub names_rollover : MainItem → List Usage → ℤ → Bool
names_rollover item us v = elim (usage_named item us v) [ None ↦ false | Some u ↦ is_rollover u ]

-- whether an element names the key at a place
abbrev pub names_key : MainItem → List ℤ → ℕ → Bool
names_key item vs i = list_any (λ v. int_eq v (item.min +ℤ pos i)) vs

-- which keys from place i on some element names
abbrev pub named_keys_from : MainItem → List ℤ → ℕ → List Key → List Bool
named_keys_from item vs i [] = []
named_keys_from item vs i (key ∷ keys) =
    (key.is_switch && names_key item vs i) ∷ named_keys_from item vs (i + 1) keys

-- some pattern of an item's fields stands for the number
abbrev pub FitsFields : MainItem → ℤ → Type 0
FitsFields item v = FitsField v item.size (is_negative item.min)

-- what is kept of a variable item in a view once these numbers of its elements are read
abbrev pub read_elements : ControlKind → ℤ → ℤ → ControlState → List ℤ → ControlState
read_elements kind least greatest (Switches bs) vs = Switches (map (λ p. read_switch p.0 p.1) (zip bs vs))
read_elements kind least greatest (Values bs) vs =
    Values (map (λ p. read_value (has_null kind) least greatest p.0 p.1) (zip bs vs))
read_elements kind least greatest state vs = state

-- what is kept of an array once its elements name these keys
abbrev pub read_named : MainItem → List Key → ControlState → List ℤ → ControlState
read_named item keys (Switches bs) vs = Switches (named_keys_from item vs 0 keys)
read_named item keys state vs = state

-- one element that names ErrorRollOver keeps an array's keys as they were
abbrev pub read_keys : MainItem → List Usage → List Key → ControlState → List ℤ → ControlState
read_keys item us keys state vs = if list_any (names_rollover item us) vs then state else read_named item keys state vs

-- what is kept of an item once these numbers of its elements are read
abbrev pub read_state : MainItem → List Usage → Form → ControlState → List ℤ → ControlState
read_state item us NoControls state vs = state
read_state item us (Elements kind least greatest usages) state vs = read_elements kind least greatest state vs
read_state item us (Keys elements rolls keys) state vs = read_keys item us keys state vs

-- the motions that the elements of a relative item carry in these numbers
abbrev pub motion_elements : ControlKind → ℤ → ℤ → List ℤ → ControlState
motion_elements Relative least greatest vs = Motions (map (read_motion least greatest) vs)
motion_elements Switch least greatest vs = Absent
motion_elements Value least greatest vs = Absent
motion_elements NullValue least greatest vs = Absent

-- the motions that an item carries in these numbers
abbrev pub motion_state : Form → List ℤ → ControlState
motion_state NoControls vs = Absent
motion_state (Elements kind least greatest usages) vs = motion_elements kind least greatest vs
motion_state (Keys elements rolls keys) vs = Absent

-- the Input report with an ID; 0 where reports aren't numbered (HID 1.11, 5.6)
abbrev pub is_input_with : ℕ → Report → Bool
is_input_with id report = same_kind report.kind Input && (report.id == id)

-- the first byte, where there is one
abbrev pub first_byte : List ℕ → Option ℕ
first_byte [] = None
first_byte (b ∷ bytes) = Some b

-- the report that was found, where the bytes fill it
abbrev pub whole_report : Contents → List ℕ → Option ℕ → Result ℕ ReportFault
whole_report layout bytes None = Err UnknownReport
whole_report layout bytes (Some r) = if nat_lt (length bytes) (report_bytes layout r) then Err Short else Ok r

-- The Input report that the bytes name and fill, or why there is none. More bytes than it has are ignored. Example: 02
-- 01 is the second report of two
abbrev pub report_named : Contents → List ℕ → Result ℕ ReportFault
report_named layout bytes =
    if layout.numbered then elim (first_byte bytes) [
      | None ↦ Err Short
      | Some id ↦ whole_report layout bytes
          (position (is_input_with id) layout.reports)
    ]
    else whole_report layout bytes (position (is_input_with 0) layout.reports)

-- the Input report whose bytes begin so, where there is one
abbrev pub report_begun : Contents → List ℕ → Option ℕ
report_begun layout bytes =
    if layout.numbered then option_and_then (λ id. position (is_input_with id) layout.reports) (first_byte bytes)
    else position (is_input_with 0) layout.reports

-- The bytes of the Input report that begins so; where there is none, those of the longest report of a bus (our choice).
abbrev pub bytes_awaited : Contents → List ℕ → ℕ
bytes_awaited layout bytes =
    elim (report_begun layout bytes) [ None ↦ MAX_REPORT_BYTES | Some r ↦ report_bytes layout r ]

-- the number of a data element
abbrev pub element_number : Contents → List ℕ → Element → ℤ
element_number layout bytes element = number_at bytes (first_bit layout + element.bit) element.width element.signed

-- a data element lies in the bytes
abbrev pub IsInside : Contents → List ℕ → Element → Type 0
IsInside layout bytes element =
    (0 < element.width) × (element.width ≤ 32)
    × (first_bit layout + (element.bit + element.width) ≤ 8 * length bytes)
