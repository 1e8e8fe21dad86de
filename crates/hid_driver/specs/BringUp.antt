-- How many control transfers bring a device up (our choice).
use Rattle.std.specs.Prelude.{◌≡◌, ℕ, zero, suc, ◌+◌, if◌then◌else◌, List, [], ◌∷◌, Ok}
use Rattle.hid_driver.specs.declared.interface.Interface.{Interface}
use Rattle.hid_driver.specs.declared.outcome.Outcome.{Outcome}
use Rattle.hid_driver.specs.declared.state.Moved.{Moved}
use Rattle.hid_driver.specs.Driver.{DriverValue}
use Rattle.hid_driver.specs.Interfaces.{is_waiting}
use Rattle.hid_driver.specs.Moves.{Moves}

-- how many interfaces wait for their report descriptor
abbrev pub waiting_count : List Interface → ℕ
waiting_count [] = 0
waiting_count (interface ∷ rest) = if is_waiting interface then waiting_count rest + 1 else waiting_count rest

-- A number of moves, one after another: none refuses the device, and memory runs out at none.
abbrev pub MovesOn : ℕ → DriverValue → DriverValue → Type 0
MovesOn zero before after = after ≡ before
MovesOn (suc count) before after =
    (outcome : Outcome) × (moved : Moved) × (next : DriverValue) × Moves before outcome (Ok moved) next × MovesOn count next after
