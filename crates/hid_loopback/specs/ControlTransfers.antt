-- The control transfers of a driver, carried out by a gadget (USB 2.0, 8.5.3 and 9.3; our choice).
use Rattle.std.specs.Prelude.{◌≡◌, ◌⊎◌, ◌≤◌, ℕ, zero, suc, Bool, true, false, ◌||◌, ◌==◌, List, length, take, Option, Some, None, Result, Ok, Err}
use Rattle.usb_control.specs.declared.setup.Setup.{Setup}
use Rattle.usb_control.specs.SetupBytes.{reads}
use Rattle.hid_device.specs.Core.{CoreState}
use Rattle.hid_device.specs.RequestTable.{core_table}
use Rattle.hid_driver.specs.declared.fault.DriverFault.{DriverFault}
use Rattle.hid_driver.specs.declared.fault.DriverFault.TheVariants.{Memory}
use Rattle.hid_driver.specs.declared.outcome.Outcome.{Outcome}
use Rattle.hid_driver.specs.declared.outcome.Outcome.TheVariants.{Failed}
use Rattle.hid_driver.specs.declared.state.Moved.{Moved}
use Rattle.hid_driver.specs.Driver.{DriverValue, data_awaited}
use Rattle.hid_driver.specs.Moves.{Moves}
use Rattle.hid_driver.specs.Requests.{setup_awaited}
use Rattle.hid_driver.specs.VirtualDevices.{IsOutcome}
use Rattle.hid_gadget.specs.declared.outcomes.Control.{Control}
use Rattle.hid_gadget.specs.declared.outcomes.Control.TheVariants.{Done, Stalled}
use Rattle.hid_gadget.specs.WholeTransfers.{after_transfer, bytes_given, control_result, room_after_transfer}

-- the data of a request are as long as it says: a write has wLength bytes
abbrev pub is_whole : Setup → List ℕ → Bool
is_whole setup sends = reads setup || (length sends == setup.length)

-- A gadget carries out a request with these data: how the transfer ends, what the room for the answer holds after it, and
-- the gadget. Data that aren't as long as the request says don't reach it.
abbrev pub CarriesOut : Bool → CoreState → Setup → List ℕ → List ℕ → Option Control → List ℕ → CoreState → Type 0
CarriesOut true core setup sends room end filled after =
    (end ≡ Some (control_result core_table core setup)) × (filled ≡ room_after_transfer core_table core setup room)
    × (after ≡ after_transfer core_table core setup sends)
CarriesOut false core setup sends room end filled after = (end ≡ None) × (filled ≡ room) × (after ≡ core)

-- a transfer that ended so, with these bytes in the room for its answer, comes to its driver as this outcome
abbrev pub IsEnd : Option Control → List ℕ → Outcome → Type 0
IsEnd (Some (Done count)) filled outcome = IsOutcome (Some (take count filled)) outcome
IsEnd (Some Stalled) filled outcome = IsOutcome None outcome
IsEnd None filled outcome = outcome ≡ Failed

-- a driver takes what came of a control transfer that ended so
pub record HandsOn (end : Option Control) (filled : List ℕ) (driver : DriverValue) (told : Result Moved DriverFault)
    (later : DriverValue) : Type 0 where
  pub outcome : Outcome
  pub ended : IsEnd end filled outcome
  pub moves : Moves driver outcome told later

-- What comes of the transfer at its driver: what the gadget gives, or STALL; one that doesn't reach the gadget failed.
abbrev pub Answers : Bool → CoreState → Setup → List ℕ → Outcome → CoreState → Type 0
Answers true core setup sends outcome after =
    IsOutcome (bytes_given core_table core setup) outcome × (after ≡ after_transfer core_table core setup sends)
Answers false core setup sends outcome after = (outcome ≡ Failed) × (after ≡ core)

-- what a transfer returns that was made, by what the driver returns for its outcome
abbrev pub transfer_result : Result Moved DriverFault → Result (Option Moved) DriverFault
transfer_result (Ok moved) = Ok (Some moved)
transfer_result (Err fault) = Err fault

-- the driver takes what comes of a transfer of this request with these data
pub record IsMade (setup : Setup) (sends : List ℕ) (driver : DriverValue) (core : CoreState)
    (result : Result (Option Moved) DriverFault) (later : DriverValue) (after : CoreState) : Type 0 where
  pub outcome : Outcome
  pub answers : Answers (is_whole setup sends) core setup sends outcome after
  pub told : Result Moved DriverFault
  pub moves : Moves driver outcome told later
  pub returns : result ≡ transfer_result told

-- nothing is made, and both ends stay
abbrev pub Stays : DriverValue → CoreState → DriverValue → CoreState → Type 0
Stays driver core later after = (later ≡ driver) × (after ≡ core)

-- the transfer of this request is made, or there is no memory for its answer; without a request nothing is made
abbrev pub MakesTransferOf : Option Setup → DriverValue → CoreState → Result (Option Moved) DriverFault → DriverValue → CoreState → Type 0
MakesTransferOf None driver core result later after = (result ≡ Ok None) × Stays driver core later after
MakesTransferOf (Some setup) driver core result later after =
    ((result ≡ Err Memory) × Stays driver core later after)
    ⊎ IsMade setup (data_awaited driver) driver core result later after

-- One control transfer: that of the request that the driver waits for, if it waits for one.
abbrev pub MakesTransfer : DriverValue → CoreState → Result (Option Moved) DriverFault → DriverValue → CoreState → Type 0
MakesTransfer driver core result later after =
    MakesTransferOf (setup_awaited driver.state driver.interfaces) driver core result later after

-- a number of control transfers, one after another, each of which is done
abbrev pub MakesTransfersBy : ℕ → DriverValue → CoreState → DriverValue → CoreState → Type 0
MakesTransfersBy zero driver core later after = Stays driver core later after
MakesTransfersBy (suc count) driver core later after =
    (next : DriverValue) × (between : CoreState) × (moved : Moved)
    × MakesTransfersBy count driver core next between × MakesTransfer next between (Ok (Some moved)) later after

-- Control transfers are made until the driver waits for none, or until a number of them is made; or until one isn't done,
-- whose fault is returned.
abbrev pub Settles : ℕ → DriverValue → CoreState → Result ℕ DriverFault → DriverValue → CoreState → Type 0
Settles most driver core (Ok count) later after =
    MakesTransfersBy count driver core later after × (count ≤ most)
    × ((count ≡ most) ⊎ (setup_awaited later.state later.interfaces ≡ None))
Settles most driver core (Err fault) later after =
    (count : ℕ) × (next : DriverValue) × (between : CoreState)
    × MakesTransfersBy count driver core next between × (suc count ≤ most) × MakesTransfer next between (Err fault) later after
