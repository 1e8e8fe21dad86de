-- What came of a transfer, by a status (USB 2.0, 8.4.5; the numbers: our choice).
use Rattle.std.specs.Prelude.{◌≡◌, ◌≢◌, ℕ, List}
use Rattle.hid_driver.specs.declared.outcome.Outcome.{Outcome}
use Rattle.hid_driver.specs.declared.outcome.Outcome.TheVariants.{Done, Stalled, Failed}
use Rattle.hidstack.specs.declared.status.TheConstants.{OK, STALLED}

-- A status says what came of a transfer: OK that it is done, with these bytes to the host; STALLED that the device answered STALL; any
-- other that it failed.
abbrev pub IsOutcome : ℕ → List ℕ → Outcome → Type 0
IsOutcome status bytes (Done came) = (status ≡ OK) × (came.now ≡ bytes)
IsOutcome status bytes Stalled = status ≡ STALLED
IsOutcome status bytes Failed = (status ≢ OK) × (status ≢ STALLED)
