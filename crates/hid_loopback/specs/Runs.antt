-- A gadget and the driver of its reports, step by step (USB 2.0, 8.5.4; HID 1.11, 5.6 and 8).
use Rattle.std.specs.Prelude.{◌≡◌, ◌≤◌, ℕ, false, List, [], ◌∷◌, ◌++◌, map, Result}
use Rattle.hid_layout.specs.Controls.{items_of}
use Rattle.hid_usages.specs.Receiving.{ReceiverState}
use Rattle.hid_interfaces.specs.declared.interface.InterfaceInfo.{InterfaceInfo}
use Rattle.hid_bus.specs.DeviceHistory.{events_of_history, state_after_all}
use Rattle.hid_device.specs.Core.{CoreState}
use Rattle.hid_driver.specs.declared.fault.DriverFault.{DriverFault}
use Rattle.hid_driver.specs.declared.interface.Interface.{Interface}
use Rattle.hid_driver.specs.declared.interface.Reading.TheVariants.{Open}
use Rattle.hid_driver.specs.declared.outcome.DriverEvent.{DriverEvent}
use Rattle.hid_driver.specs.Driver.{DriverValue}
use Rattle.hid_driver.specs.Pipe.{event_of, pipe_of_receiver}
use Rattle.hid_gadget.specs.declared.outcomes.Poll.{Poll}
use Rattle.hid_gadget.specs.ReceivedReports.{AreInStep, Asks, Changes, Frame, GadgetStep, Transfers, bus_events, core_after_step, core_after_steps, link_with}
use Rattle.hid_gadget.specs.Agreement.{AgreesAtNothing, AreStillSteps, RestsWith, packets_asked, packets_needed}
use Rattle.hid_gadget.specs.WholeReports.{bytes_taken, report_result}
use Rattle.hid_loopback.specs.InterruptTransfers.{Hears}

-- the driver gives no event, and its interfaces stay: it may ask for something, and be given the outcome of a control
-- transfer that it asked for
abbrev pub IsQuiet : DriverValue → DriverValue → List DriverEvent → Type 0
IsQuiet driver later events = (later.interfaces ≡ driver.interfaces) × (events ≡ [])

-- a driver takes an interrupt transfer that ends so, with these bytes, and gives these events; its program may have asked it
-- for something before
pub record HearsAfterAsk (end : Poll) (bytes : List ℕ) (driver later : DriverValue) (events : List DriverEvent)
    : Type 0 where
  pub asked : DriverValue
  pub keeps : asked.interfaces ≡ driver.interfaces
  pub told : Result (Unit {0}) DriverFault
  pub hears : Hears end bytes asked told later events

-- a driver at a step of its gadget, and the events that it gives: it takes each interrupt transfer, with room for any
-- number of bytes
abbrev pub RunsStep : CoreState → GadgetStep → DriverValue → DriverValue → List DriverEvent → Type 0
RunsStep core (Asks room) driver later events =
    HearsAfterAsk (report_result core room) (bytes_taken core room) driver later events
RunsStep core (Changes change) driver later events = IsQuiet driver later events
RunsStep core Frame driver later events = IsQuiet driver later events
RunsStep core (Transfers setup written) driver later events = IsQuiet driver later events

-- A driver over a list of steps of its gadget, and the events that it gives, in order. Its program may ask it for something
-- before each step, and after the last.
abbrev pub Runs : CoreState → List GadgetStep → DriverValue → DriverValue → List DriverEvent → Type 0
Runs core [] driver later events = IsQuiet driver later events
Runs core (step ∷ rest) driver later events =
    (next : DriverValue) × (now : List DriverEvent) × (more : List DriverEvent)
    × RunsStep core step driver next now × Runs (core_after_step core step) rest next later more × (events ≡ now ++ more)

-- the interface of a gadget whose reports are read out of its packets of 64 bytes, by this receiver
abbrev pub live_interface : InterfaceInfo → ReceiverState → Interface
live_interface info receiving = record { info = info; reading = Open (pipe_of_receiver 64 receiving) }

-- A driver is beside a configured gadget: its one interface is live, and has what came of the round that is open. The
-- endpoint isn't halted.
pub record IsBeside (core : CoreState) (info : InterfaceInfo) (receiving : ReceiverState) (driver : DriverValue)
    : Type 0 where
  pub interface : driver.interfaces ≡ live_interface info receiving ∷ []
  pub in_step : AreInStep core receiving
  pub going : core.halted ≡ false

-- The events of a driver are those of the history of its gadget's rounds, each once. Both stand after them as that history
-- says, beside one another, so that more steps go on from there.
pub record Delivers (core : CoreState) (info : InterfaceInfo) (receiving : ReceiverState) (gadget_steps : List GadgetStep)
    (later : DriverValue) (events : List DriverEvent) : Type 0 where
  pub gives : events
      ≡ map (event_of 0) (events_of_history (items_of core.layout) (link_with core receiving.view) (bus_events core gadget_steps))
  pub seen : ReceiverState
  pub stands : link_with (core_after_steps core gadget_steps) seen.view
      ≡ state_after_all (items_of core.layout) (link_with core receiving.view) (bus_events core gadget_steps)
  pub beside : IsBeside (core_after_steps core gadget_steps) info seen later

-- No key is left stuck: if an interrupt transfer would now return `Nothing`, the driver's view has what is pressed at the
-- gadget and each value, and no motion is left to report.
abbrev pub DriverAgrees : CoreState → InterfaceInfo → DriverValue → Type 0
DriverAgrees core info driver =
    (receiving : ReceiverState) × (driver.interfaces ≡ live_interface info receiving ∷ [])
    × AgreesAtNothing core receiving.view

-- An interrupt transfer would return `Nothing`, whatever its room, and the driver's view has what is pressed at the gadget
-- and each value, and no motion is left to report.
abbrev pub DriverRests : CoreState → InterfaceInfo → DriverValue → Type 0
DriverRests core info driver =
    (receiving : ReceiverState) × (driver.interfaces ≡ live_interface info receiving ∷ []) × RestsWith core receiving.view

-- Once nothing changes at the gadget, the driver and the gadget come to rest after interrupt transfers that count for as many
-- packets as the gadget needs.
abbrev pub DriverComesToRest : CoreState → InterfaceInfo → List GadgetStep → DriverValue → DriverValue → List DriverEvent → Type 0
DriverComesToRest core info gadget_steps driver later events =
    AreStillSteps core gadget_steps → packets_needed core ≤ packets_asked core gadget_steps
    → Runs core gadget_steps driver later events → DriverRests (core_after_steps core gadget_steps) info later
