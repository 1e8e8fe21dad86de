-- The controls that a layout gives (HID 1.11, 6.2.2.5, 6.2.2.7, 6.2.2.8 and 8). The elements of an item have the part of
-- the logical range that some pattern of their width stands for, and the last usage is for all elements that have none
-- of their own.
use Rattle.std.specs.Prelude.{ℕ, zero, suc, ◌+◌, ◌-◌, ◌*◌, Bool, true, false, not, ◌==◌, ◌&&◌, ◌||◌, nat_lt, if◌then◌else◌, List, [], ◌∷◌, length, min, take, sum_by, slice_get, Option, Some, None, ℤ, pos, ◌+ℤ◌, int_le, int_lt}
use Rattle.std.specs.Int.{int_min, int_max}
use Rattle.std.specs.Ordering.{int_eq}
use Rattle.std.specs.Option.{option_map}
use Rattle.hid_report_descriptor.specs.declared.limits.TheConstants.{MAX_KEYS}
use Rattle.hid_report_descriptor.specs.declared.usage.Usage.{Usage}
use Rattle.hid_report_descriptor.specs.declared.report.Report.{Report}
use Rattle.hid_layout.specs.declared.main_item.MainItem.{MainItem}
use Rattle.hid_report_descriptor.specs.declared.report.ReportKind.TheVariants.{Input}
use Rattle.hid_report_descriptor.specs.declared.shape.Shape.{Shape}
use Rattle.hid_report_descriptor.specs.declared.shape.Shape.TheVariants.{Padding, Variable, Array}
use Rattle.hid_layout.specs.declared.control.Control.{Control}
use Rattle.hid_layout.specs.declared.control.Controls.{Controls}
use Rattle.hid_layout.specs.declared.control.Controls.TheVariants as head
use Rattle.hid_layout.specs.declared.control.ControlId.{ControlId}
use Rattle.hid_layout.specs.declared.control.ControlKind.{ControlKind}
use Rattle.hid_layout.specs.declared.control.ControlKind.TheVariants.{Switch, Value, NullValue, Relative}
use Rattle.hid_report_descriptor.specs.Kinds.{same_kind}
use Rattle.hid_report_descriptor.specs.Usages.{Entry, usage_list, is_rollover, is_keyboard_error}
use Rattle.hid_report_descriptor.specs.Flags.{has_flag, RELATIVE, NULL_STATE}
use Rattle.hid_report_descriptor.specs.Faults.{least_value, greatest_value}
use Rattle.hid_layout.specs.Layout.{Contents, report_bytes}

-- A place of an array's usage list: its usage, and whether an element can press it.
pub record Key : Type 0 where
  pub usage : Usage
  pub is_switch : Bool

-- The controls of a listed item: none; one for each element, of one kind and range of encodable values;
-- or the keys of an array with n elements, which may have a rollover code.
pub data Form : Type 0 where
  NoControls : Form
  Elements : (kind : ControlKind) → (least greatest : ℤ) → (usages : List Usage) → Form
  Keys : (elements : ℕ) → (rolls_over : Bool) → (keys : List Key) → Form

-- A listed item: the number of its report, where that is an Input report, the bytes of that report with its ID, and the
-- item's controls. Padding is in its report too.
pub record Item : Type 0 where
  pub report : Option ℕ
  pub bytes : ℕ
  pub form : Form

-- the least number of the logical range that some pattern of the width stands for. Example: 0 to 7 in two bits is 0 to 3
abbrev pub least_of : MainItem → ℤ
least_of item = int_max item.min (least_value item.min item.size)

-- the greatest number of the logical range that some pattern stands for
abbrev pub greatest_of : MainItem → ℤ
greatest_of item = int_min item.max (greatest_value item.min item.size)

-- a number of the logical range that some pattern stands for
abbrev pub is_encodable : MainItem → ℤ → Bool
is_encodable item v = int_le (least_of item) v && int_le v (greatest_of item)

-- some pattern of the width lies outside the range
abbrev pub has_outside : MainItem → Bool
has_outside item =
    int_lt (least_value item.min item.size) item.min || int_lt item.max (greatest_value item.min item.size)

-- the kind of a variable item's controls (6.2.2.5): a Relative one is a motion; 0 to 1 without Null State is a switch;
-- Null State with a pattern out of the range is a value or null; all else is a value
abbrev pub element_kind : MainItem → ControlKind
element_kind item =
    if has_flag RELATIVE item.flags.0 then Relative
    else (if int_eq item.min (pos 0) && int_eq item.max (pos 1) && not (has_flag NULL_STATE item.flags.0) then Switch
    else (if has_flag NULL_STATE item.flags.0 && has_outside item then NullValue else Value))

-- a variable item has a usage for each element, and where it has fewer the last one is for the rest (6.2.2.8)
unfoldable pub usage_of_element : List Usage → ℕ → Option Usage
usage_of_element usages j = slice_get usages (min j (length usages - 1))

-- the usages of an item's elements, one for each: where there are fewer usages, the last one is for the rest (6.2.2.8).
-- Example: two usages and three fields: the third has the second usage
unfoldable pub spread_usages : ℕ → List Usage → List Usage
spread_usages zero us = []
spread_usages (suc n) [] = []
spread_usages (suc n) (u ∷ []) = u ∷ spread_usages n (u ∷ [])
spread_usages (suc n) (u ∷ v ∷ us) = u ∷ spread_usages n (v ∷ us)

-- A place of an array's usage list below 65,536 is a key if an element can carry its number, its usage ID isn't 0, and
-- it is none of the errors 07:01 to 07:03 (6.2.2.5; HID Usage Tables, page 07). Example: places 4 to 101 of the
-- keyboard's array
abbrev pub is_key : MainItem → ℕ → Usage → Bool
is_key item i u =
    is_encodable item (item.min +ℤ pos i)
    && (nat_lt i MAX_KEYS && (not (u.id == 0) && not (is_keyboard_error u)))

-- the keys from the place i of the usage list on
unfoldable pub keys_from : MainItem → ℕ → List Usage → List Key
keys_from item i [] = []
keys_from item i (u ∷ us) = record { usage = u; is_switch = is_key item i u } ∷ keys_from item (i + 1) us

-- the first places of a usage list: no key stands beyond them
abbrev pub key_places : List Usage → List Usage
key_places us = take MAX_KEYS us

-- the keys of an array with these usages
abbrev pub array_keys : MainItem → List Usage → List Key
array_keys item us = keys_from item 0 (key_places us)

-- the least place, from i on, also past 65,535, that an element can carry and that names ErrorRollOver, 07:01. Example:
-- place 1 of the keyboard's array
unfoldable pub rollover_from : MainItem → ℕ → List Usage → Option ℕ
rollover_from item i [] = None
rollover_from item i (u ∷ us) =
    if is_rollover u && is_encodable item (item.min +ℤ pos i) then Some i else rollover_from item (i + 1) us

-- whether a place was found
abbrev pub has_place : Option ℕ → Bool
has_place None = false
has_place (Some i) = true

-- the controls of an item with these usages
abbrev pub form_of : MainItem → List Usage → Shape → Form
form_of item us Padding = NoControls
form_of item us Variable =
    Elements (element_kind item) (least_of item) (greatest_of item) (spread_usages item.count us)
form_of item us Array = Keys item.count (has_place (rollover_from item 0 us)) (array_keys item us)

-- a report that may be there is an Input report
abbrev pub is_input_report : Option Report → Bool
is_input_report None = false
is_input_report (Some report) = same_kind report.kind Input

-- an item of the report at this place stands in an Input report
abbrev pub is_input : List Report → ℕ → Bool
is_input reports r = is_input_report (slice_get reports r)

-- an item of the Input report of this number, which has n bytes
abbrev pub input_item : ℕ → ℕ → Form → Item
input_item r bytes form = record { report = Some r; bytes = bytes; form = form }

-- an item of no Input report
abbrev pub no_item : Item
no_item = record { report = None; bytes = 0; form = NoControls }

-- a listed item as it is seen: controls stand in Input reports alone
abbrev pub item_of : Contents → MainItem → List Entry → Item
item_of layout item es =
    if is_input layout.reports item.report
    then input_item item.report (report_bytes layout item.report) (form_of item (usage_list es) item.shape)
    else no_item

-- listed items with their entries, as they are seen
unfoldable pub items_from : Contents → List MainItem → List (List Entry) → List Item
items_from layout [] ess = []
items_from layout (item ∷ items) [] = []
items_from layout (item ∷ items) (es ∷ ess) = item_of layout item es ∷ items_from layout items ess

-- what the definitions of controls, parts and views see of a layout
abbrev pub items_of : Contents → List Item
items_of layout = items_from layout layout.items layout.entries

-- a place of an array's usage list is a control where a key stands there
abbrev pub control_of_key : Option Key → Option Control
control_of_key None = None
control_of_key (Some key) = if key.is_switch then Some (record { kind = Switch; usage = key.usage }) else None

-- the control at a place of an item
abbrev pub control_in : Form → ℕ → Option Control
control_in NoControls j = None
control_in (Elements kind least greatest usages) j =
    option_map (λ u. record { kind = kind; usage = u }) (slice_get usages j)
control_in (Keys elements rolls keys) j = control_of_key (slice_get keys j)

-- the control at a place of an item that may be there
abbrev pub control_of_item : ℕ → Option Item → Option Control
control_of_item j None = None
control_of_item j (Some item) = control_in item.form j

-- the control that an ID names: of an Input item, by the place of its element, or of its key in the usage list. Example:
-- 07:E0 at place 0 of the keyboard's modifiers
abbrev pub control_of : List Item → ControlId → Option Control
control_of items c = control_of_item c.index (slice_get items c.item)

-- a reading gives an event for each variable element, and two for each array element
abbrev pub events_in : Form → ℕ
events_in NoControls = 0
events_in (Elements kind least greatest usages) = length usages
events_in (Keys elements rolls keys) = 2 * elements

-- the most events of one report of a layout: one for each variable Input element, two for each array Input element.
-- Example: 20 for the keyboard, 5 for the mouse
abbrev pub max_events : List Item → ℕ
max_events items = sum_by (λ item. events_in item.form) items

-- what the controls of an item are, without their usages
abbrev pub controls_of_form : Form → Controls
controls_of_form NoControls = head.None
controls_of_form (Elements kind least greatest usages) = head.Elements kind least greatest (length usages)
controls_of_form (Keys elements rolls keys) = head.Keys elements rolls (length keys)

-- the controls of an item that may be there
abbrev pub form_of_item : Option Item → Form
form_of_item None = NoControls
form_of_item (Some item) = item.form

-- the controls of the listed item at a place
abbrev pub form_at : List Item → ℕ → Form
form_at items i = form_of_item (slice_get items i)
