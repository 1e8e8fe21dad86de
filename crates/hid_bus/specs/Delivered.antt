-- What was delivered of one device (our choice).
use Rattle.std.specs.Prelude.{ℕ, ◌==◌, if◌then◌else◌, List, Option, Some, None}
use Rattle.std.specs.List.{filter_map}
use Rattle.hid_snapshots.specs.declared.event.Event.{Event}
use Rattle.hid_bus.specs.declared.step.Delivered.{Delivered}

-- the event of a delivery, if it is of this device
abbrev pub event_of_device : ℕ → Delivered → Option Event
event_of_device device e = if e.dev == device then Some e.event else None

-- all events that were delivered of a device, in their order
abbrev pub from_device : ℕ → List Delivered → List Event
from_device device out = filter_map (event_of_device device) out
