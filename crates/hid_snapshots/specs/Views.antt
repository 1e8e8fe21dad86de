-- A host's view of the controls, and the events between two views (our choice): item by item in layout order; of an
-- array each release, then each press.
use Rattle.std.specs.Prelude.{ℕ, ◌+◌, if◌then◌else◌, List, [], ◌∷◌, ◌++◌, map, Option, None, ℤ, unwrap_or, slice_get}
use Rattle.hid_report_descriptor.specs.declared.usage.Usage.{Usage}
use Rattle.hid_layout.specs.Controls.{Form, NoControls, Elements, Keys, Item}
use Rattle.hid_snapshots.specs.declared.control_state.ControlState.{ControlState}
use Rattle.hid_snapshots.specs.declared.control_state.ControlState.TheVariants.{Absent, Switches, Values, Motions, RollOver}
use Rattle.hid_snapshots.specs.declared.event.Event.{Event}
use Rattle.hid_snapshots.specs.declared.event.Event.TheVariants as event
use Rattle.hid_snapshots.specs.Events.{change_events, motion_events}
use Rattle.hid_snapshots.specs.Parts.{by_item, is_of}

-- A view sees what a part shows: it keeps no motion, and an array that rolled over keeps its keys.
abbrev pub seen_state : ControlState → ControlState → ControlState
seen_state view (Switches ps) = Switches ps
seen_state view (Values vs) = Values vs
seen_state view (Motions ms) = view
seen_state view (RollOver ps) = view
seen_state view Absent = view

-- what a view sees of an item where it belongs to report r
abbrev pub view_item_after : ℕ → Item → ControlState → ControlState → ControlState
view_item_after r item view part = if is_of r item then seen_state view part else view

-- the value of one element of a control state
abbrev pub value_in : ControlState → ℕ → Option ℤ
value_in (Values vs) j = unwrap_or (slice_get vs j) None
value_in state j = None

-- The view after the part of report r: what the part shows, without motion; keys stay if the array rolled over, and
-- controls of other reports stay. Example: seven keys and Shift: Shift alone goes down
abbrev pub view_after_part : List Item → ℕ → List ControlState → List ControlState → List ControlState
view_after_part items r view parts = by_item (view_item_after r) items view parts

-- the motions of an item's part
abbrev pub motions_of : ℕ → List Usage → ControlState → List Event
motions_of i us (Motions ms) = motion_events i us ms
motions_of i us part = []

-- the motions of an item's part, by the kind of its controls
abbrev pub form_motions : ℕ → Form → ControlState → List Event
form_motions i NoControls part = []
form_motions i (Elements kind least greatest usages) part = motions_of i usages part
form_motions i (Keys elements rolls keys) part = []

-- the part of an item where it belongs to report r
abbrev pub part_of : ℕ → Item → ControlState → ControlState
part_of r item part = if is_of r item then part else Absent

-- What changes from one view to another, and the motions of report r's part: item by item in layout order.
abbrev pub events_from : ℕ → ℕ → List Item → List ControlState → List ControlState → List ControlState
    → List Event
events_from i r (item ∷ items) (b ∷ bs) (a ∷ xs) (p ∷ ps) =
    (change_events i item.form b a ++ form_motions i item.form (part_of r item p))
    ++ events_from (i + 1) r items bs xs ps
events_from i r items bs xs ps = []

-- what changes from one view to another, and the motions of report r's part
abbrev pub events_between : List Item → ℕ → List ControlState → List ControlState → List ControlState
    → List Event
events_between items r before after parts = events_from 0 r items before after parts

-- What changes from one view to another.
abbrev pub changes_from : ℕ → List Item → List ControlState → List ControlState → List Event
changes_from i (item ∷ items) (b ∷ bs) (a ∷ xs) = change_events i item.form b a ++ changes_from (i + 1) items bs xs
changes_from i items bs xs = []

-- what changes from one view to another, of all items
abbrev pub changes_between : List Item → List ControlState → List ControlState → List Event
changes_between items before after = changes_from 0 items before after

-- an event of motion as one of motion that is dropped; all other events stay
abbrev pub as_dropped : Event → Event
as_dropped (event.Motion c u by) = event.Dropped c u by
as_dropped (event.Dropped c u by) = event.Dropped c u by
as_dropped (event.Down c u) = event.Down c u
as_dropped (event.Up c u) = event.Up c u
as_dropped (event.Value c u v) = event.Value c u v
as_dropped (event.Null c u) = event.Null c u

-- what changes from one view to another, and the motions of report r's part, which are dropped. Example: a reset ends a
-- round with 5 to the right: dropped 5
abbrev pub drops_between : List Item → ℕ → List ControlState → List ControlState → List ControlState
    → List Event
drops_between items r before after parts = map as_dropped (events_between items r before after parts)
