-- What the numbers of one listed item's elements make of a view, and their events (our choice; HID 1.11, 5.6 and 8). A name
-- with `_at` is of a layout and a place, one without it of a listed item.
use Rattle.std.specs.Prelude.{◌≡◌, ℕ, ◌+◌, ◌<◌, ◌≤◌, All, Bool, false, List, [], ◌∷◌, ◌++◌, length, replicate, if◌then◌else◌, Some, None, Result, Ok, Err, ℤ, slice_get}
use Rattle.hid_snapshots.specs.declared.fault.ReportFault.{ReportFault}
use Rattle.hid_layout.specs.declared.main_item.MainItem.{MainItem}
use Rattle.hid_report_descriptor.specs.declared.usage.Usage.{Usage}
use Rattle.hid_report_descriptor.specs.Usages.{Entry, usage_list}
use Rattle.hid_layout.specs.ArrayCodes.{plan_of}
use Rattle.hid_layout.specs.Reports.{IsLayout, report_bytes}
use Rattle.hid_layout.specs.Layout.{Contents}
use Rattle.hid_layout.specs.Controls.{Form, Key, items_of, form_at, form_of, controls_of_form}
use Rattle.hid_snapshots.specs.declared.control_state.ControlState.{ControlState}
use Rattle.hid_snapshots.specs.declared.control_state.ControlState.TheVariants.{Absent, Switches, Values, Motions, RollOver}
use Rattle.hid_snapshots.specs.declared.event.Event.{Event}
use Rattle.hid_usages.specs.declared.take.ListedItem.{ListedItem}
use Rattle.hid_usages.specs.declared.take.ElementNumbers.{ElementNumbers}
use Rattle.hid_usages.specs.declared.take.ReportBytes.{ReportBytes}
use Rattle.hid_snapshots.specs.Encoding.{IsData}
use Rattle.hid_snapshots.specs.Events.{change_events, key_events, usages_at}
use Rattle.hid_snapshots.specs.Parts.{IsInput}
use Rattle.hid_snapshots.specs.ControlStates.{HasRoom, blank_state}
use Rattle.hid_snapshots.specs.Views.{form_motions}
use Rattle.hid_usages.specs.Reading.{array_keys, read_keys, read_state, motion_state, read_elements, motion_elements, keys_at, is_data_in, item_numbers, report_named}

-- the usage list of a listed item
abbrev pub list_at : Contents → ℕ → List Usage
list_at layout i = elim (slice_get layout.entries i) [ None ↦ [] | Some es ↦ usage_list es ]

-- the controls of the item are those of its form
abbrev pub IsFormOf : Contents → ℕ → MainItem → Type 0
IsFormOf layout i m = form_at (items_of layout) i ≡ form_of m (list_at layout i) m.shape

-- a control state has the room that the controls of the item at a place need
abbrev pub HasEventRoomAt : Contents → ℕ → ControlState → Type 0
HasEventRoomAt layout i state = HasRoom (controls_of_form (form_at (items_of layout) i)) state

-- the events of the item at a place between two control states
abbrev pub changes_at : Contents → ℕ → ControlState → ControlState → List Event
changes_at layout i before after = change_events i (form_at (items_of layout) i) before after

-- what is kept at first of the item at a place
abbrev pub blank_at : Contents → ℕ → ControlState
blank_at layout i = blank_state (controls_of_form (form_at (items_of layout) i))

-- an item that is listed at a place is in report r
abbrev pub IsInReport : Contents → ℕ → ℕ → Type 0
IsInReport layout r i = (m : MainItem) → slice_get layout.items i ≡ Some m → m.report ≡ r

-- what is kept of a listed item once these numbers of its elements are read
abbrev pub state_after_numbers_at : Contents → ℕ → MainItem → ControlState → List ℤ → ControlState
state_after_numbers_at layout i m state vs =
    read_state m (list_at layout i) (form_at (items_of layout) i) state vs

-- the events of a listed item by its numbers: its change, and then its motions
abbrev pub events_of_numbers_at : Contents → ℕ → MainItem → ControlState → ControlState → List ℤ → List Event
events_of_numbers_at layout i m before after vs =
    change_events i (form_at (items_of layout) i) before after
    ++ form_motions i (form_at (items_of layout) i) (motion_state (form_at (items_of layout) i) vs)

-- the usages of the controls of a listed item
abbrev pub usages_in : ListedItem → List Usage
usages_in listed = usages_at listed.layout.now listed.place

-- the places of a listed item's usage list
abbrev pub keys_in : ListedItem → List Key
keys_in listed = keys_at listed.layout.now listed.place

-- the controls of a listed item
abbrev pub form_in : ListedItem → Form
form_in listed = form_at (items_of listed.layout.now) listed.place

-- what is kept of a listed item once these numbers are read
abbrev pub state_after_numbers : ListedItem → ControlState → List ℤ → ControlState
state_after_numbers listed state vs =
    state_after_numbers_at listed.layout.now listed.place listed.item.now state vs

-- the events of a listed item once these numbers are read
abbrev pub events_of_numbers : ListedItem → ControlState → ControlState → List ℤ → List Event
events_of_numbers listed before after vs =
    events_of_numbers_at listed.layout.now listed.place listed.item.now before after vs

-- what is kept of elements once the numbers that they carry are read
abbrev pub state_after_carried : ElementNumbers → ControlState → ControlState
state_after_carried carried state =
    read_elements carried.kind carried.bounds.least carried.bounds.greatest state carried.numbers.now

-- the motions that the numbers of elements carry
abbrev pub motion_carried : ElementNumbers → ControlState
motion_carried carried = motion_elements carried.kind carried.bounds.least carried.bounds.greatest carried.numbers.now

-- what is kept of the item at a place once these bytes of report r are read
abbrev pub state_after_report_at : Contents → ℕ → List ℕ → ℕ → ControlState → ControlState
state_after_report_at layout r bytes i state =
    elim (slice_get layout.items i) [
      | None ↦ state
      | Some m ↦ (if is_data_in r m
          then state_after_numbers_at layout i m state (item_numbers layout bytes m) else state)
    ]

-- the events of the item at a place once these bytes of report r are read
abbrev pub events_of_report_at : Contents → ℕ → List ℕ → ℕ → ControlState → List Event
events_of_report_at layout r bytes i state =
    elim (slice_get layout.items i) [
      | None ↦ []
      | Some m ↦ (if is_data_in r m
          then events_of_numbers_at layout i m state
          (state_after_numbers_at layout i m state (item_numbers layout bytes m))
          (item_numbers layout bytes m) else [])
    ]

-- the view once these bytes of report r are read, from the item at place i on
abbrev pub view_from_item : Contents → ℕ → List ℕ → ℕ → List ControlState → List ControlState
view_from_item layout r bytes i [] = []
view_from_item layout r bytes i (state ∷ states) =
    state_after_report_at layout r bytes i state ∷ view_from_item layout r bytes (i + 1) states

-- the events once these bytes of report r are read, from the item at place i on
abbrev pub events_from_item : Contents → ℕ → List ℕ → ℕ → List ControlState → List Event
events_from_item layout r bytes i [] = []
events_from_item layout r bytes i (state ∷ states) =
    events_of_report_at layout r bytes i state ++ events_from_item layout r bytes (i + 1) states

-- The view after a report: each item of the report by its numbers; controls of other reports stay.
abbrev pub read_view : Contents → ℕ → List ℕ → List ControlState → List ControlState
read_view layout r bytes view = view_from_item layout r bytes 0 view

-- The events of a report that is read, in layout order.
abbrev pub read_events : Contents → ℕ → List ℕ → List ControlState → List Event
read_events layout r bytes view = events_from_item layout r bytes 0 view

-- how many places of a control state can be pressed
abbrev pub flag_places : ControlState → ℕ
flag_places (Switches ps) = length ps
flag_places (RollOver ps) = length ps
flag_places (Values vs) = 0
flag_places (Motions ms) = 0
flag_places Absent = 0

-- no flag of a list is set, and the list has one for each place of a control state that can be pressed
pub record NoFlagSet (states : List ControlState) (named : List Bool) : Type 0 where
  pub none : named ≡ replicate (length named) false
  pub each : (i : ℕ) (state : ControlState) → slice_get states i ≡ Some state → flag_places state ≤ length named

-- what the bytes make of a view
abbrev pub view_received : ReportBytes → List ControlState → List ControlState
view_received received view = read_view received.layout.now received.report received.bytes.now view

-- the events of the bytes
abbrev pub events_received : ReportBytes → List ControlState → List Event
events_received received view = read_events received.layout.now received.report received.bytes.now view

-- what the bytes make of the item at a place
abbrev pub state_received : ReportBytes → ℕ → ControlState → ControlState
state_received received i state =
    state_after_report_at received.layout.now received.report received.bytes.now i state

-- the events of the bytes for the item at a place
abbrev pub item_events_received : ReportBytes → ℕ → ControlState → List Event
item_events_received received i state =
    events_of_report_at received.layout.now received.report received.bytes.now i state

-- the report is an Input report of the layout, and the bytes fill it
pub record IsReceived (received : ReportBytes) : Type 0 where
  pub input : IsInput received.layout.now received.report
  pub whole : report_bytes received.layout.now received.report ≤ length received.bytes.now

-- the places of the report's items, which are listed, as all items of the layout are
pub record ArePlacesOf (received : ReportBytes) (places : List ℕ) : Type 0 where
  pub plan : places ≡ plan_of received.layout.now received.report
  pub within : All (λ place. place < length received.layout.now.items) places
  pub all : length (items_of received.layout.now) ≡ length received.layout.now.items

-- the numbers of a listed item's elements in these bytes of its report
abbrev pub numbers_of_bytes : ListedItem → List ℕ → List ℤ
numbers_of_bytes listed bytes = item_numbers listed.layout.now bytes listed.item.now

-- what is kept of a listed item once these bytes of its report are read
abbrev pub state_after_bytes : ListedItem → ControlState → List ℕ → ControlState
state_after_bytes listed state bytes = state_after_numbers listed state (numbers_of_bytes listed bytes)

-- the events of these numbers for a listed item, by what is kept of the item before
abbrev pub events_by_numbers : ListedItem → ControlState → List ℤ → List Event
events_by_numbers listed state vs = events_of_numbers listed state (state_after_numbers listed state vs) vs

-- the events of a report's bytes for a listed item, by what is kept of the item before
abbrev pub events_by_bytes : ListedItem → ControlState → List ℕ → List Event
events_by_bytes listed state bytes = events_by_numbers listed state (numbers_of_bytes listed bytes)

-- a listed item has data in its report, which these bytes fill, and its controls are those of its form
pub record IsFilled (listed : ListedItem) (bytes : List ℕ) : Type 0 where
  pub layout : IsLayout listed.layout.now
  pub input : IsFormOf listed.layout.now listed.place listed.item.now
  pub with_data : IsData listed.layout.now listed.item.now.report listed.place listed.item.now
  pub whole : report_bytes listed.layout.now listed.item.now.report ≤ length bytes

-- the item at a place is an array with at most 64 ranges of usages, and each of its keys has a usage
pub record IsArrayAt (layout : Contents) (i : ℕ) (item : MainItem) (entries : List Entry) : Type 0 where
  pub there : i < length layout.items
  pub listed : slice_get layout.entries i ≡ Some entries
  pub few : length entries ≤ 64
  pub keys : keys_at layout i ≡ array_keys item (usage_list entries)
  pub usages : length (usages_at layout i) ≡ length (keys_at layout i)

-- what is kept of an array with these ranges of usages once these numbers are read
abbrev pub keys_by_entries : ListedItem → List Entry → ControlState → List ℤ → ControlState
keys_by_entries listed entries state vs = read_keys listed.item.now (usage_list entries) (keys_in listed) state vs

-- the events of a listed array between two control states
abbrev pub key_events_in : ListedItem → ControlState → ControlState → List Event
key_events_in listed before after = key_events listed.place (usages_in listed) before after

-- no flag of these is set, and there is one for each place of this control state that can be pressed
pub record NoFlagSetFor (state : ControlState) (named : List Bool) : Type 0 where
  pub places : flag_places state ≤ length named
  pub none : named ≡ replicate (length named) false

-- Taking a report: each item of the report is read by its numbers, controls of other reports stay, and the events
-- follow; or the report is refused and nothing changes. Example: 07:04 and 07:05 held, then 00 00 07 06 05: 04 up, 06
-- and 07 down
abbrev pub TakesReport : Contents → List ℕ → List ControlState → List Event → Result (Unit {0}) ReportFault
    → List ControlState → List Event → Type 0
TakesReport layout bytes view out (Ok _) view' out' =
    (r : ℕ) × (report_named layout bytes ≡ Ok r) × (view' ≡ read_view layout r bytes view)
    × (out' ≡ out ++ read_events layout r bytes view)
TakesReport layout bytes view out (Err fault) view' out' =
    (report_named layout bytes ≡ Err fault) × (view' ≡ view) × (out' ≡ out)
