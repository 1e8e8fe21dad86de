-- The interrupt transfers of a gadget, taken by a driver (USB 2.0, 5.7.3 and 8.5.4; our choice).
use Rattle.std.specs.Prelude.{◌≡◌, ◌++◌, ℕ, List, [], take, Option, Some, None, Result, Ok, Err}
use Rattle.hid_driver.specs.declared.fault.DriverFault.{DriverFault}
use Rattle.hid_driver.specs.declared.outcome.DriverEvent.{DriverEvent}
use Rattle.hid_driver.specs.declared.outcome.Outcome.{Outcome}
use Rattle.hid_driver.specs.Driver.{DriverValue, driver_after_report, report_events, report_outcome}
use Rattle.hid_driver.specs.VirtualDevices.{IsOutcome}
use Rattle.hid_gadget.specs.declared.outcomes.Poll.{Poll}
use Rattle.hid_gadget.specs.declared.outcomes.Poll.TheVariants.{Done, Nothing, Stalled, TooSmall}

-- a driver takes an interrupt transfer of its first interface, which gave these bytes, or STALL
pub record TakesOutcome (came : Option (List ℕ)) (driver : DriverValue) (told : Result (Unit {0}) DriverFault)
    (later : DriverValue) (events : List DriverEvent) : Type 0 where
  pub outcome : Outcome
  pub comes : IsOutcome came outcome
  pub returns : told ≡ report_outcome driver 0 outcome
  pub after : later ≡ driver_after_report driver 0 outcome
  pub gives : events ≡ report_events driver 0 outcome

-- NAK is no outcome: the transfer goes on, and the driver gets none
abbrev pub HearsNothing : DriverValue → Result (Unit {0}) DriverFault → DriverValue → List DriverEvent → Type 0
HearsNothing driver told later events = (told ≡ Ok tt) × (later ≡ driver) × (events ≡ [])

-- What a driver makes of an interrupt transfer that ends so, with these bytes, and the events that it gives.
abbrev pub Hears : Poll → List ℕ → DriverValue → Result (Unit {0}) DriverFault → DriverValue → List DriverEvent → Type 0
Hears (Done n) bytes driver told later events = TakesOutcome (Some bytes) driver told later events
Hears Stalled bytes driver told later events = TakesOutcome None driver told later events
Hears Nothing bytes driver told later events = HearsNothing driver told later events
Hears TooSmall bytes driver told later events = HearsNothing driver told later events

-- what came in the room of an interrupt transfer that ended so: of one that is done its first bytes
abbrev pub bytes_came : Poll → List ℕ → List ℕ
bytes_came (Done n) room = take n room
bytes_came end room = []

-- a driver takes an interrupt transfer: its events are appended to those before
pub record Takes (end : Poll) (bytes : List ℕ) (driver : DriverValue) (before : List DriverEvent)
    (told : Result (Unit {0}) DriverFault) (later : DriverValue) (after : List DriverEvent) : Type 0 where
  pub events : List DriverEvent
  pub hears : Hears end bytes driver told later events
  pub given : after ≡ before ++ events

-- what is returned: how the transfer ended, or why the driver refuses it
abbrev pub poll_result : Poll → Result (Unit {0}) DriverFault → Result Poll DriverFault
poll_result end (Ok taken) = Ok end
poll_result end (Err fault) = Err fault

-- What a driver makes of an interrupt transfer, with the events before it and after it.
pub record Reports (end : Poll) (bytes : List ℕ) (driver : DriverValue) (before : List DriverEvent)
    (result : Result Poll DriverFault) (later : DriverValue) (after : List DriverEvent) : Type 0 where
  pub told : Result (Unit {0}) DriverFault
  pub takes : Takes end bytes driver before told later after
  pub returns : result ≡ poll_result end told
