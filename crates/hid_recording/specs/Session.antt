-- What stands between two lines of a recording, and the outcome of a line: its text, and where it leaves the session
-- (our choice: docs/RECORDINGS.md).
use Rattle.std.specs.Prelude.{ℕ, ◌+◌, ◌-◌, ◌^◌, min, Bool, false, List, [], ◌∷◌, Option, None, Result, Ok, Err}
use Rattle.hid_layout.specs.Layout.{Contents}
use Rattle.hid_layout.specs.Controls.{items_of}
use Rattle.hid_snapshots.specs.declared.control_state.ControlState.{ControlState}
use Rattle.hid_usages.specs.ControlStates.{blank}
use Rattle.hid_recording.specs.declared.dump.Address.{Address}
use Rattle.hid_recording.specs.Dumps.{DumpState, no_dump}
use Rattle.hid_recording.specs.declared.counted.Counted.{Counted}
use Rattle.hid_recording.specs.declared.options.Options.{Options}
use Rattle.hid_recording.specs.declared.fault.Cause.{Cause}

-- a device: its layout, the view that its reports made, what came of a report that the next chunk of a dump goes on
-- with, and whether a part of a report may be missing before that
pub record PlayedDevice : Type 0 where
  pub layout : Contents
  pub states : List ControlState
  pub collected : List ℕ
  pub in_doubt : Bool

-- a device of which no report came yet
abbrev pub fresh_device : Contents → PlayedDevice
fresh_device layout =
    record { layout = layout; states = blank (items_of layout); collected = []; in_doubt = false }

-- The options, what is counted, the device of the next lines, the descriptors that were accepted last with what their reports made, the
-- interfaces of which dumps came, what came of a dump that isn't ended, the time of the report that was read last, and counts: of
-- lines, of descriptors, of reports, of events, and of lines that were refused.
pub record Session : Type 0 where
  pub options : Options
  pub counted : Counted
  pub current : ℕ
  pub devices : List (Option PlayedDevice)
  pub addresses : List Address
  pub gathered : DumpState
  pub time : List ℕ
  pub lines : ℕ
  pub descriptors : ℕ
  pub reports : ℕ
  pub events : ℕ
  pub refused : ℕ

-- sixteen devices, of which nothing is known
abbrev pub no_devices : List (Option PlayedDevice)
no_devices =
    None ∷ None ∷ None ∷ None ∷ None ∷ None ∷ None ∷ None
    ∷ None ∷ None ∷ None ∷ None ∷ None ∷ None ∷ None ∷ None ∷ []

-- nothing came yet of what is counted
abbrev pub at_first : Options → Counted → Session
at_first options counted = record {
  options = options;
  counted = counted;
  current = 0;
  devices = no_devices;
  addresses = [];
  gathered = no_dump;
  time = [];
  lines = 0;
  descriptors = 0;
  reports = 0;
  events = 0;
  refused = 0;
}

-- what devices let go of from here on has this time
abbrev pub at_time : Session → List ℕ → Session
at_time session time = record session { time = time }

-- a session with other options of what is printed
abbrev pub with_options : Session → Options → Session
with_options session options = record session { options = options }

-- a count stops at the greatest number of 64 bits
abbrev pub saturating_sum : ℕ → ℕ → ℕ
saturating_sum count more = min (count + more) (2 ^ 64 - 1)

-- what a line prints, and where it leaves the session, or why it ends the run
pub record Outcome : Type 0 where
  pub text : List ℕ
  pub end : Result Session Cause

-- a line that prints this, and leaves this session
abbrev pub success : List ℕ → Session → Outcome
success text session = record { text = text; end = Ok session }

-- a line that ends the run prints nothing
abbrev pub failure : Cause → Outcome
failure cause = record { text = []; end = Err cause }
