-- The events of a driver as records of numbers (our choice).
use Rattle.hid_driver.specs.declared.outcome.DriverEvent.{DriverEvent}
use Rattle.hidstack_session.specs.Events.{event_of}
use Rattle.hidstack_host.specs.declared.event.HidHostEvent.{HidHostEvent}

-- the record of an event of an interface: that of its event, and the place of the interface
abbrev pub host_event : DriverEvent → HidHostEvent
host_event event = record { event = event_of event.event; interface = event.interface }
