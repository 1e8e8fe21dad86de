-- The events of a driver as they are printed: as those of a recording (our choice: docs/RECORDINGS.md).
use Rattle.std.specs.Prelude.{ℕ, ◌==◌, min, List, [], ◌∷◌, if◌then◌else◌, Option, Some, None}
use Rattle.std.specs.List.{flat_map}
use Rattle.hid_layout.specs.Layout.{Contents}
use Rattle.hid_driver.specs.declared.outcome.DriverEvent.{DriverEvent}
use Rattle.hid_recording.specs.declared.options.Options.{Options}
use Rattle.hid_recording.specs.EventLines.{event_line}
use Rattle.usbip_session.specs.declared.session.Laid.{Laid}

-- the layout of the interface at this place, if it is known
abbrev pub layout_of : ℕ → List Laid → Option Contents
layout_of place [] = None
layout_of place (one ∷ rest) = if one.interface == place then Some one.layout else layout_of place rest

-- the line of an event, whose device is the place of its interface
abbrev pub line_with : List ℕ → Options → DriverEvent → Option Contents → List ℕ
line_with time options told None = []
line_with time options told (Some layout) = event_line time (min told.interface 255) options layout told.event

-- the line of an event of an interface whose layout is known
abbrev pub driver_line : List ℕ → Options → List Laid → DriverEvent → List ℕ
driver_line time options laid told = line_with time options told (layout_of told.interface laid)

-- A line for each event: the time, the place of its interface, and the event.
abbrev pub driver_lines : List ℕ → Options → List Laid → List DriverEvent → List ℕ
driver_lines time options laid events = flat_map (driver_line time options laid) events
