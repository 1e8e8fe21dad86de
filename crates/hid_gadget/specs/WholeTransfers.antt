-- A control transfer of which nothing is lost: what it makes of what answers requests, and what its host gets (USB 2.0,
-- 8.5.3).
use Rattle.std.specs.Prelude.{◌≡◌, ℕ, ◌+◌, ◌<◌, Bool, true, false, not, ◌&&◌, if◌then◌else◌, List, [], length, replicate, unwrap_or, Option, Some, None}
use Rattle.usb_transact.specs.declared.transaction.Fate.TheVariants.{Clean}
use Rattle.usb_control.specs.declared.setup.Setup.{Setup}
use Rattle.usb_control.specs.declared.fault.ControlFault.TheVariants as faults
use Rattle.usb_control.specs.declared.device.Stage.{Stage}
use Rattle.usb_control.specs.declared.device.LastPacket.{LastPacket}
use Rattle.usb_control.specs.declared.host.HostStage.TheVariants.{Done, Failed}
use Rattle.usb_control.specs.SetupBytes.{reads}
use Rattle.usb_control.specs.Requests.{ApplyGives}
use Rattle.usb_control.specs.TryFunctions.{Table}
use Rattle.usb_control.specs.Host.{HostTransferState, IsRunning, at_start}
use Rattle.usb_control.specs.Interleaving.{BothEnds, Turn, Tries, ends_after_turns}
use Rattle.usb_control.specs.Transfer.{Shape, Decision, Refused, Accepted, answered_bytes, data_pieces, decision_of, transfer_shape}
use Rattle.hid_gadget.specs.declared.gadget.TheConstants.{ADDRESS}
use Rattle.hid_gadget.specs.declared.outcomes.Control.{Control}
use Rattle.hid_gadget.specs.declared.outcomes.Control.TheVariants as ends
use Rattle.hid_gadget.specs.Rooms.{with_front}

-- ---- what comes of a transfer

-- what is decided on a request, with the answer that is fixed for it
abbrev pub decision_at_setup : {R : Type 0} → Table R → R → Setup → Decision
decision_at_setup table old setup = decision_of (table.accepts old setup) (table.answer_of (table.prepared old setup))

-- What answers requests after a transfer of which nothing is lost: its request is decided on once, and if that is an
-- accepted write it takes effect once, with its bytes. Example: SET_CONFIGURATION 2 is refused, and changes nothing but
-- what is kept of the last request
abbrev pub after_transfer : {R : Type 0} → Table R → R → Setup → List ℕ → R
after_transfer table old setup written =
    if table.accepts old setup && not (reads setup) then table.applied (table.prepared old setup) written
    else table.prepared old setup

-- the bytes that a transfer gives its host: of an accepted read its answer, cut to wLength, and of a write none; a
-- request that is refused gives STALL
abbrev pub given_bytes : Shape → Decision → Option (List ℕ)
given_bytes shape Refused = None
given_bytes shape (Accepted answer) = Some (if shape.reads then answered_bytes shape (Accepted answer) else [])

-- the bytes that the transfer of a request gives its host
abbrev pub bytes_given : {R : Type 0} → Table R → R → Setup → Option (List ℕ)
bytes_given table old setup = given_bytes (transfer_shape setup) (decision_at_setup table old setup)

-- how a transfer ends that gives these bytes, or STALL
abbrev pub end_with : Option (List ℕ) → Control
end_with None = ends.Stalled
end_with (Some bytes) = ends.Done (length bytes)

-- How the transfer of a request ends. Example: 80 06 00 01 00 00 40 00 is done with 18 bytes
abbrev pub control_result : {R : Type 0} → Table R → R → Setup → Control
control_result table old setup = end_with (bytes_given table old setup)

-- The room for the answer of a request after its transfer: the answer stands at its front.
abbrev pub room_after_transfer : {R : Type 0} → Table R → R → Setup → List ℕ → List ℕ
room_after_transfer table old setup room = with_front (unwrap_or (bytes_given table old setup) []) room

-- what an accepted write leaves of what answers requests, and any other request, which leaves it as decided
abbrev pub CarriesOut : {R : Type 0} → ApplyGives R → Bool → Bool → List ℕ → R → R → Type 0
CarriesOut apply_gives true false written decided new = apply_gives decided written new
CarriesOut apply_gives accepted is_read written decided new = new ≡ decided

-- A transfer whose request was decided on ends so, whatever answers requests: with this answer fixed, the request accepted
-- or not, and the room before and after.
pub record EndsAfter {R : Type 0} (apply_gives : ApplyGives R) (answer : Option (List ℕ)) (setup : Setup)
    (written : List ℕ) (accepted : Bool) (decided new : R) (room : List ℕ) (result : Control) (filled : List ℕ)
    : Type 0 where
  pub effect : CarriesOut apply_gives accepted (reads setup) written decided new
  pub ended : result ≡ end_with (given_bytes (transfer_shape setup) (decision_of accepted answer))
  pub bytes : filled ≡ with_front (unwrap_or (given_bytes (transfer_shape setup) (decision_of accepted answer)) []) room

-- ---- its tries

-- How many tries a transfer takes of which nothing is lost: one for each of its pieces, which are SETUP, the data and
-- the status. One that is refused is over with the try after SETUP. Example: a read of 18 bytes takes five
abbrev pub tries_needed : Shape → Decision → ℕ
tries_needed shape Refused = 2
tries_needed shape (Accepted answer) = data_pieces shape (Accepted answer) + 2

-- this many tries, of which nothing is lost
abbrev pub clean_tries : {R : Type 0} → ℕ → List (Turn R)
clean_tries n = replicate n (Tries Clean)

-- the bytes that the host of a write sends
abbrev pub sent_bytes : Setup → List ℕ → List ℕ
sent_bytes setup written = if reads setup then [] else written

-- a host that begins a transfer, and endpoint 0 of its device, wherever that stands
abbrev pub ends_at_start : {R : Type 0} → R → Stage → LastPacket → Setup → List ℕ → BothEnds R
ends_at_start requests stage last_packet setup written = record {
  host = at_start ADDRESS setup (sent_bytes setup written);
  control = record { requests = requests; stage = stage; last_packet = last_packet };
}

-- both ends after so many tries of a transfer, of which nothing is lost
abbrev pub ends_after_some : {R : Type 0} → Table R → R → Stage → LastPacket → Setup → List ℕ → ℕ → BothEnds R
ends_after_some table old stage last_packet setup written n =
    ends_after_turns table (ends_at_start old stage last_packet setup written) (clean_tries n)

-- how many tries the transfer of a request takes
abbrev pub tries_of : {R : Type 0} → Table R → R → Setup → ℕ
tries_of table old setup = tries_needed (transfer_shape setup) (decision_at_setup table old setup)

-- both ends after the tries of a transfer of which nothing is lost
abbrev pub ends_after_tries : {R : Type 0} → Table R → R → Stage → LastPacket → Setup → List ℕ → BothEnds R
ends_after_tries table old stage last_packet setup written =
    ends_after_some table old stage last_packet setup written (tries_of table old setup)

-- a host has these bytes of a transfer that is done, or it got STALL
abbrev pub HasGot : Option (List ℕ) → HostTransferState → Type 0
HasGot None host = host.stage ≡ Failed faults.Stalled
HasGot (Some bytes) host = (host.stage ≡ Done) × ((if reads host.setup then host.bytes else []) ≡ bytes)

-- A transfer is its tries: after as many of them as it needs, with nothing lost, its host has what it gives, and what
-- answers requests is this. After fewer it still runs.
pub record IsOfTries {R : Type 0} (table : Table R) (old : R) (stage : Stage) (last_packet : LastPacket)
    (setup : Setup) (written : List ℕ) (new : R) : Type 0 where
  pub host : HasGot (bytes_given table old setup) (ends_after_tries table old stage last_packet setup written).host
  pub device : (ends_after_tries table old stage last_packet setup written).control.requests ≡ new
  pub runs : (n : ℕ) → n < tries_of table old setup
      → IsRunning (ends_after_some table old stage last_packet setup written n).host.stage
