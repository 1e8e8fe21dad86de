-- An interrupt transfer from the device of which nothing is lost: the polls of the pieces that fit its room (USB 2.0,
-- 5.7.3 and 8.5.4).
use Rattle.std.specs.Prelude.{◌≡◌, ℕ, zero, suc, ◌*◌, ◌/◌, ◌<◌, ◌≤◌, ◌==◌, nat_le, if◌then◌else◌, List, [], ◌++◌, length, take, drop, unwrap_or, Option, Some, None}
use Rattle.hid_layout.specs.Reports.{report_bytes}
use Rattle.hid_snapshots.specs.Pieces.{pieces_for}
use Rattle.hid_snapshots.specs.PartBytes.{part_bytes}
use Rattle.usb_packet.specs.declared.packet.Packet.{Packet}
use Rattle.usb_packet.specs.declared.packet.Packet.TheVariants.{Data, Nak, Stall}
use Rattle.hid_device.specs.Core.{CoreState, armed_bytes, core_after_ack, core_at_poll, poll_response}
use Rattle.hid_gadget.specs.declared.outcomes.Poll.{Poll}
use Rattle.hid_gadget.specs.declared.outcomes.Poll.TheVariants.{Done, Nothing, Stalled, TooSmall}

-- ---- polls of which nothing is lost

-- The core of a device after a poll of which nothing is lost: its token opens a round where none is open and a report is
-- due, and the piece that goes out is acknowledged.
abbrev pub core_after_poll : CoreState → CoreState
core_after_poll core = core_after_ack (core_at_poll core)

-- the core of a device after this many polls
abbrev pub core_after_polls : ℕ → CoreState → CoreState
core_after_polls zero core = core
core_after_polls (suc n) core = core_after_polls n (core_after_poll core)

-- ---- what fits a room

-- the bytes of the piece that goes out of the open round; none where no round is open
abbrev pub piece_at_hand : CoreState → List ℕ
piece_at_hand core = unwrap_or (armed_bytes core) []

-- the bytes of the open round from the piece that goes out on
abbrev pub bytes_left : CoreState → ℕ → List ℕ
bytes_left core r = drop (64 * core.piece) (part_bytes core.layout r core.reports.fixed)

-- How many pieces of these bytes fit a room: all where the bytes do, else as many full ones as there is room for.
-- Example: of 100 bytes two in 100, one in 99, none in 63
abbrev pub fitting_pieces : ℕ → List ℕ → ℕ
fitting_pieces room bytes = if nat_le (length bytes) room then pieces_for (length bytes) else room / 64

-- the bytes of the pieces that fit a room
abbrev pub fitting_bytes : ℕ → List ℕ → List ℕ
fitting_bytes room bytes = take (64 * fitting_pieces room bytes) bytes

-- ---- what comes of a transfer, once a round was opened where one is due

-- how many pieces of the open round fit the room
abbrev pub pieces_fitting : ℕ → CoreState → Option ℕ → ℕ
pieces_fitting room core None = 0
pieces_fitting room core (Some r) = fitting_pieces room (bytes_left core r)

-- the bytes of the open round that fit the room
abbrev pub bytes_fitting : ℕ → CoreState → Option ℕ → List ℕ
bytes_fitting room core None = []
bytes_fitting room core (Some r) = fitting_bytes room (bytes_left core r)

-- how a transfer of the open round ends, by how many pieces fit, and their bytes
abbrev pub end_of_pieces : ℕ → List ℕ → Poll
end_of_pieces count bytes = if count == 0 then TooSmall else Done (length bytes)

-- how a transfer ends, by the open round, if there is one
abbrev pub end_of_round : ℕ → CoreState → Option ℕ → Poll
end_of_round room core None = if core.halted then Stalled else Nothing
end_of_round room core (Some r) = end_of_pieces (pieces_fitting room core (Some r)) (bytes_fitting room core (Some r))

-- ---- what comes of a transfer

-- how many polls the transfer takes, of pieces that fit
abbrev pub pieces_taken : CoreState → ℕ → ℕ
pieces_taken core room =
    if core.is_configured then pieces_fitting room (core_at_poll core) (core_at_poll core).current else 0

-- The bytes that an interrupt transfer with room for this many gives. Example: 00 00 04 00 00 00 00 00 of a keyboard on
-- which a is pressed, in a room of 8
abbrev pub bytes_taken : CoreState → ℕ → List ℕ
bytes_taken core room =
    if core.is_configured then bytes_fitting room (core_at_poll core) (core_at_poll core).current else []

-- How an interrupt transfer with room for this many bytes ends. A device that isn't configured has no endpoint to answer
-- it.
abbrev pub report_result : CoreState → ℕ → Poll
report_result core room =
    if core.is_configured then end_of_round room (core_at_poll core) (core_at_poll core).current else Nothing

-- The core of a device after an interrupt transfer with room for this many bytes: after the polls of the pieces that
-- fit. Where none fits, the round that is due is open all the same, as after a poll whose answer is lost.
abbrev pub core_after_report : CoreState → ℕ → CoreState
core_after_report core room =
    if core.is_configured then core_after_polls (pieces_taken core room) (core_at_poll core) else core

-- ---- a transfer as its polls

-- the data of an answer; none of NAK and STALL
abbrev pub answer_data : Packet → List ℕ
answer_data (Data one payload) = payload.items
answer_data _ = []

-- the data that this many polls bring, of which nothing is lost
abbrev pub polled_data : ℕ → CoreState → List ℕ
polled_data zero core = []
polled_data (suc n) core = answer_data (poll_response (core_at_poll core)) ++ polled_data n (core_after_poll core)

-- A transfer is its polls. One that is done is as many as pieces are taken: what it gives is the data that they bring, and
-- the device stands as after them. One that gives nothing is a poll that is answered with NAK, or with STALL. Where no
-- piece fits it is a poll whose data have no room, and the device stands as where they are lost.
pub record IsOfPolls (core : CoreState) (room : ℕ) : Type 0 where
  pub bytes : bytes_taken core room ≡ polled_data (pieces_taken core room) core
  pub some : (n : ℕ) → report_result core room ≡ Done n → (0 < pieces_taken core room) × (n ≡ length (bytes_taken core room))
  pub after : 0 < pieces_taken core room → core_after_report core room ≡ core_after_polls (pieces_taken core room) core
  pub nothing : report_result core room ≡ Nothing
      → (poll_response (core_at_poll core) ≡ Nak) × (core_after_report core room ≡ core_at_poll core)
  pub stalled : report_result core room ≡ Stalled
      → (poll_response (core_at_poll core) ≡ Stall) × (core_after_report core room ≡ core_at_poll core)
  pub too_small : report_result core room ≡ TooSmall
      → (room < length (answer_data (poll_response (core_at_poll core)))) × (core_after_report core room ≡ core_at_poll core)

-- ---- whole reports, and pieces that don't fit

-- A report is taken whole: the part that was fixed as its round opened, and the round is closed.
pub record IsTakenWhole (core : CoreState) (room r : ℕ) : Type 0 where
  pub result : report_result core room ≡ Done (report_bytes core.layout r)
  pub bytes : bytes_taken core room ≡ part_bytes core.layout r (core_at_poll core).reports.fixed
  pub closed : (core_after_report core room).current ≡ None

-- A transfer takes nothing: another one after it, with any room, ends as it would have ended in its place, with the same
-- bytes, and the device then stands as it would have. One with room for the piece that goes out takes that.
pub record TakesNothing (core : CoreState) (room later : ℕ) : Type 0 where
  pub none : bytes_taken core room ≡ []
  pub result : report_result (core_after_report core room) later ≡ report_result core later
  pub bytes : bytes_taken (core_after_report core room) later ≡ bytes_taken core later
  pub after : core_after_report (core_after_report core room) later ≡ core_after_report core later
  pub fits : length (piece_at_hand (core_at_poll core)) ≤ later
      → report_result core later ≡ Done (length (bytes_taken core later))
