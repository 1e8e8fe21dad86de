-- What opening a session gives (HID 1.11, 6.2.2), and what a report makes of it (5.6 and 6.2.2.5).
use Rattle.std.specs.Prelude.{◌≡◌, ℕ, ◌<◌, ◌≤◌, List, ◌++◌, length, map, drop, Option, Some, None, Result, Ok, Err}
use Rattle.hid_report_descriptor.specs.Items.{EncodedItem}
use Rattle.hid_report_descriptor.specs.Real.{Accepts}
use Rattle.hid_report_descriptor.specs.declared.fault.LayoutFault.{LayoutFault}
use Rattle.hid_layout.specs.Layout.{Contents, layout_of}
use Rattle.hid_layout.specs.Controls.{items_of, max_events}
use Rattle.hid_snapshots.specs.ControlStates.{blank}
use Rattle.hid_snapshots.specs.declared.event.Event.{Event}
use Rattle.hid_snapshots.specs.Views.{changes_between}
use Rattle.hid_usages.specs.Reading.{report_named}
use Rattle.hid_usages.specs.Taking.{read_view, read_events}
use Rattle.hidstack_session.specs.declared.event.HidEvent.{HidEvent}
use Rattle.hidstack_session.specs.declared.session.FeedFault.{FeedFault}
use Rattle.hidstack_session.specs.declared.session.FeedFault.TheVariants.{NoRoom, Refused}
use Rattle.hidstack_session.specs.Events.{event_of}
use Rattle.hidstack_session.specs.States.{SessionState}

-- a device of which nothing was read yet: the layout of an accepted descriptor's items, and a blank view
abbrev pub IsFirst : List ℕ → SessionState → Type 0
IsFirst bytes s =
    (before : List EncodedItem) × Accepts bytes before × (s.layout ≡ layout_of before)
    × (s.view ≡ blank (items_of s.layout))

-- the session of a layout, with a blank view; of a fault there is none
abbrev pub IsFirstOf : Result Contents LayoutFault → SessionState → Type 0
IsFirstOf (Ok layout) s = (s.layout ≡ layout) × (s.view ≡ blank (items_of layout))
IsFirstOf (Err fault) s = ⊥

-- the most events that a report of the device has
abbrev pub room_of : SessionState → ℕ
room_of s = max_events (items_of s.layout)

-- A report is read and the records of its events stand first in the table, or it is refused and nothing changes.
abbrev pub Feeds : SessionState → List ℕ → List HidEvent → Result ℕ FeedFault → SessionState → List HidEvent
    → Type 0
Feeds s bytes out (Ok count) s' out' =
    (room_of s ≤ length out) × (r : ℕ) × (report_named s.layout bytes ≡ Ok r)
    × (s' ≡ record s { view = read_view s.layout r bytes s.view })
    × (count ≡ length (read_events s.layout r bytes s.view))
    × (out' ≡ map event_of (read_events s.layout r bytes s.view) ++ drop count out)
Feeds s bytes out (Err (Refused fault)) s' out' =
    (room_of s ≤ length out) × (report_named s.layout bytes ≡ Err fault) × (s' ≡ s) × (out' ≡ out)
Feeds s bytes out (Err NoRoom) s' out' = (length out < room_of s) × (s' ≡ s) × (out' ≡ out)

-- the events that lead from what a host has read of a device back to the first view
abbrev pub events_back : SessionState → List Event
events_back s = changes_between (items_of s.layout) s.view (blank (items_of s.layout))

-- All that is held is let go: the view is the first one, and the records of the events stand first in the table. Where the
-- table has too few places nothing changes.
abbrev pub Releases : SessionState → List HidEvent → Option ℕ → SessionState → List HidEvent → Type 0
Releases s out (Some count) s' out' =
    (room_of s ≤ length out) × (s' ≡ record s { view = blank (items_of s.layout) })
    × (count ≡ length (events_back s)) × (out' ≡ map event_of (events_back s) ++ drop count out)
Releases s out None s' out' = (length out < room_of s) × (s' ≡ s) × (out' ≡ out)
