-- Runs of an import: whatever is sent, taken and asked, in whatever order (USB/IP).
use Rattle.std.specs.Prelude.{◌≡◌, ◌⊎◌, ℕ, zero, suc, Bool, List, Result}
use Rattle.hid_driver.specs.declared.ask.Ask.{Ask}
use Rattle.hid_driver.specs.declared.outcome.DriverEvent.{DriverEvent}
use Rattle.hid_driver.specs.Driver.{driver_after_ask}
use Rattle.hid_driver.specs.Holding.{IsDue}
use Rattle.usbip_import.specs.declared.fault.ImportFault.{ImportFault}
use Rattle.usbip_import.specs.declared.import.Import.{Import}
use Rattle.usbip_import.specs.declared.stage.Told.{Told}
use Rattle.usbip_import.specs.Flights.{AreSingle}
use Rattle.usbip_import.specs.Sending.{Sent}
use Rattle.usbip_import.specs.Taking.{Takes}

-- an import sends, or finds nothing to send
pub record SendsOnce (before after : Import) : Type 0 where
  pub result : Result Bool ImportFault
  pub old : List ℕ
  pub new : List ℕ
  pub sent : Sent before.stage before result after old new

-- an import takes bytes that came, whatever they are
pub record TakesOnce (before after : Import) : Type 0 where
  pub bytes : List ℕ
  pub result : Result Told ImportFault
  pub old : List DriverEvent
  pub new : List DriverEvent
  pub takes : Takes before.stage bytes before result after old new

-- something is asked of its driver
pub record AsksOnce (before after : Import) : Type 0 where
  pub place : ℕ
  pub ask : Ask
  pub asks : after ≡ record before { driver = driver_after_ask before.driver place ask }

-- one call of an import
abbrev pub IsCall : Import → Import → Type 0
IsCall before after = SendsOnce before after ⊎ (TakesOnce before after ⊎ AsksOnce before after)

-- A number of calls, one after another.
abbrev pub IsRun : ℕ → Import → Import → Type 0
IsRun zero before after = after ≡ before
IsRun (suc count) before after = (next : Import) × IsCall before next × IsRun count next after

-- No number is in flight twice, and the driver asks for no descriptor that it has read: so none of its calls forgets what is held.
pub record IsInOrder (import : Import) : Type 0 where
  pub single : AreSingle import.flights
  pub due : IsDue import.driver
