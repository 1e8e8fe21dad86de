-- Events as records of numbers (our choice).
use Rattle.std.specs.Prelude.{ℕ, ℤ, pos}
use Rattle.hid_report_descriptor.specs.declared.usage.Usage.{Usage}
use Rattle.hid_layout.specs.declared.control.ControlId.{ControlId}
use Rattle.hid_snapshots.specs.declared.event.Event.{Event}
use Rattle.hid_snapshots.specs.declared.event.Event.TheVariants.{Down, Up, Value, Null, Motion, Dropped}
use Rattle.hidstack_session.specs.declared.event.HidEvent.{HidEvent}
use Rattle.hidstack_session.specs.declared.event.TheConstants.{UP, DOWN, VALUE, NULL, MOTION, DROPPED}

-- the record of an event: its kind, its control, its usage and its number
abbrev pub event_record : ℕ → ControlId → Usage → ℤ → HidEvent
event_record kind control usage value =
    record { value = value; item = control.item; index = control.index; page = usage.page; id = usage.id; kind = kind }

-- the record of an event: its kind as a number, its control, usage and value. Example: the kind of Up is 0
abbrev pub event_of : Event → HidEvent
event_of (Up control usage) = event_record UP control usage (pos 0)
event_of (Down control usage) = event_record DOWN control usage (pos 1)
event_of (Value control usage value) = event_record VALUE control usage value
event_of (Null control usage) = event_record NULL control usage (pos 0)
event_of (Motion control usage by) = event_record MOTION control usage by
event_of (Dropped control usage by) = event_record DROPPED control usage by
