-- What the bytes of a report make of a device of a recording (HID 1.11, 5.6 and 6.2.2.5).
use Rattle.std.specs.Prelude.{ℕ, List}
use Rattle.hid_layout.specs.Controls.{items_of}
use Rattle.hid_snapshots.specs.declared.event.Event.{Event}
use Rattle.hid_snapshots.specs.Views.{changes_between}
use Rattle.hid_usages.specs.ControlStates.{blank}
use Rattle.hid_usages.specs.Taking.{read_view, read_events}
use Rattle.hid_recording.specs.Session.{PlayedDevice}

-- a device after a report
abbrev pub read_member : PlayedDevice → ℕ → List ℕ → PlayedDevice
read_member member report bytes = record member { states = read_view member.layout report bytes member.states }

-- the events of a report of a device, after the earlier ones
abbrev pub member_events : PlayedDevice → ℕ → List ℕ → List Event
member_events member report bytes = read_events member.layout report bytes member.states

-- the events that lead a device back to its initial view: it lets go of what it holds
abbrev pub member_events_back : PlayedDevice → List Event
member_events_back member =
    changes_between (items_of member.layout) member.states (blank (items_of member.layout))
