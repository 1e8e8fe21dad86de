-- What changes from one view to another and the motion of a part that is dropped, item by item (our choice).
use Rattle.std.specs.Prelude.{ℕ, ◌+◌, ◌<◌, List, [], ◌∷◌, ◌++◌, length, map, ℤ}
use Rattle.hid_report_descriptor.specs.declared.usage.Usage.{Usage}
use Rattle.hid_layout.specs.declared.control.ControlId.{ControlId}
use Rattle.hid_layout.specs.Layout.{Contents}
use Rattle.hid_layout.specs.Controls.{Form, NoControls, Elements, Keys, Item, form_at, items_of}
use Rattle.hid_snapshots.specs.declared.control_state.ControlState.{ControlState}
use Rattle.hid_snapshots.specs.declared.control_state.ControlState.TheVariants.{Absent, Switches, Values, Motions, RollOver}
use Rattle.hid_snapshots.specs.declared.event.Event.{Event}
use Rattle.hid_snapshots.specs.Events.{control_at, element_list_events, motion_event, change_events}
use Rattle.hid_snapshots.specs.ControlStates.{blank}
use Rattle.hid_snapshots.specs.Parts.{IsInput, item_at}
use Rattle.hid_snapshots.specs.Snapshots.{state_at}
use Rattle.hid_snapshots.specs.Views.{as_dropped, part_of}
use Rattle.hid_usages.specs.declared.dropped_motion.Dropped.{Dropped}
use Rattle.hid_usages.specs.Taking.{HasEventRoomAt, changes_at}

-- the motions of a control state
abbrev pub motions_in : ControlState → List ℤ
motions_in (Motions ms) = ms
motions_in Absent = []
motions_in (Switches ps) = []
motions_in (Values vs) = []
motions_in (RollOver ps) = []

-- the event of a motion that is dropped: how far it goes; none where that is 0
abbrev pub drop_event : ControlId → Usage → ℤ → List Event
drop_event c u by = map as_dropped (motion_event c u by)

-- the events of an item's motions that are dropped, by rising index
abbrev pub drop_events : ℕ → List Usage → List ℤ → List Event
drop_events i us ms = element_list_events (λ j u m. drop_event (control_at i j) u m) 0 us ms

-- the events of the motions of an item's part that are dropped, by the kind of its controls
abbrev pub item_drop_events : ℕ → Form → ControlState → List Event
item_drop_events i NoControls part = []
item_drop_events i (Elements kind least greatest usages) part = drop_events i usages (motions_in part)
item_drop_events i (Keys elements rolls keys) part = []

-- the events of the listed item at a place where the motion of report r is dropped
abbrev pub drops_at : Contents → ℕ → List ControlState → ℕ → List Event
drops_at layout r parts i =
    item_drop_events i (form_at (items_of layout) i) (part_of r (item_at (items_of layout) i) (state_at parts i))

-- what changes from one view to another and the dropped motion of report r's part, from one item on
abbrev pub drops_from : ℕ → ℕ → List Item → List ControlState → List ControlState → List ControlState
    → List Event
drops_from i r (item ∷ items) (b ∷ bs) (a ∷ xs) (p ∷ ps) =
    (change_events i item.form b a ++ item_drop_events i item.form (part_of r item p)) ++ drops_from (i + 1) r items bs xs ps
drops_from i r items bs xs ps = []

-- the events of the item at a place for the dropped report
abbrev pub drops_in : Dropped → ℕ → List Event
drops_in dropped i = drops_at dropped.layout.now dropped.report dropped.shown.now i

-- the events of the item at a place between two control states, and then those for the dropped report
abbrev pub changes_and_drops_in : Dropped → ℕ → ControlState → ControlState → List Event
changes_and_drops_in dropped i before after = changes_at dropped.layout.now i before after ++ drops_in dropped i

-- the events of all items between two views, each item's with those for the dropped report
abbrev pub all_drops : Dropped → List ControlState → List ControlState → List Event
all_drops dropped before after =
    drops_from 0 dropped.report (items_of dropped.layout.now) before after dropped.shown.now

-- the events of all items until a view is the initial one, each item's with those for the dropped report
abbrev pub all_drops_back : Dropped → List ControlState → List Event
all_drops_back dropped before = all_drops dropped before (blank (items_of dropped.layout.now))

-- The dropped report is an Input report. The item at a place is listed, and its part has the room that its controls need.
pub record CanDrop (dropped : Dropped) (i : ℕ) : Type 0 where
  pub input : IsInput dropped.layout.now dropped.report
  pub listed : i < length dropped.layout.now.items
  pub part : HasEventRoomAt dropped.layout.now i (state_at dropped.shown.now i)
