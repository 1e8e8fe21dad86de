-- What a contract sees of a device's core, and what happens to it (USB 2.0, 5.7.3, 8.5.4, 8.6, 9.1.1.3, 9.2, 9.4.1,
-- 9.4.5, 9.4.7 and 9.4.9; HID 1.11, 7.2.4 and 7.2.6).
use Rattle.std.specs.Prelude.{◌≡◌, ℕ, ◌+◌, ◌<◌, Bool, true, false, not, if◌then◌else◌, List, length, unwrap_or, Option, Some, None, IfSome}
use Rattle.hid_layout.specs.Layout.{Contents}
use Rattle.hid_layout.specs.Controls.{Item, items_of}
use Rattle.hid_snapshots.specs.declared.control_state.ControlState.{ControlState}
use Rattle.hid_snapshots.specs.declared.change.Change.{Change}
use Rattle.hid_snapshots.specs.ControlStates.{FitsSnapshot, FitsShown}
use Rattle.hid_snapshots.specs.Codes.{has_empty_codes}
use Rattle.hid_snapshots.specs.Pieces.{is_last_piece, piece_of, pieces_of}
use Rattle.hid_snapshots.specs.PartBytes.{part_bytes}
use Rattle.hid_snapshots.specs.Encoding.{IsEncoding, IsOnlyEncoding, AreBytes, part_numbers}
use Rattle.hid_snapshots.specs.Parts.{has_zeros, is_changed}
use Rattle.usb_packet.specs.declared.packet.Packet.{Packet}
use Rattle.usb_transact.specs.Device.{answer_with}
use Rattle.hid_device.specs.declared.config.Config.{Config}
use Rattle.hid_requests.specs.declared.class.Protocol.{Protocol}
use Rattle.hid_requests.specs.declared.class.Protocol.TheVariants as protocols
use Rattle.hid_device.specs.declared.decisions.PendingWrite.{PendingWrite}
use Rattle.hid_device.specs.declared.decisions.PendingWrite.TheVariants.{Nothing}
use Rattle.hid_layout.specs.Parsing.{ParsesTo}
use Rattle.hid_device.specs.Inputs.{input_count, AreInputsFirst}
use Rattle.hid_device.specs.Outputs.{AreOutputs, bare_outputs}
use Rattle.hid_bus.specs.ReportState.{ReportState, initial_reports, with_abort, due_where, after_change, after_frame, after_opening, no_idle}

-- The core of a device: what polls and requests depend on.
pub record CoreState : Type 0 where
  -- the layout of its reports
  pub layout : Contents
  -- the configuration that it was made with
  pub config : Config
  -- the report descriptor that it was made with
  pub descriptor : List ℕ
  -- whether SET_CONFIGURATION took effect
  pub is_configured : Bool
  -- the state of the Input reports
  pub reports : ReportState
  -- the report of the open round, if there is one
  pub current : Option ℕ
  -- the piece that goes out next, from 0
  pub piece : ℕ
  -- whether data go out as DATA1
  pub toggle : Bool
  -- whether the interrupt endpoint is halted
  pub halted : Bool
  -- the protocol, boot or report
  pub protocol : Protocol
  -- the Output and Feature reports as they were set last
  pub outputs : List (List ℕ)
  -- the answer to the last request, if it has one
  pub answer : Option (List ℕ)
  -- what is carried out when the status of the last request is asked for
  pub pending : PendingWrite

-- A round of a report opens: the part that it shows is fixed, and the first piece of its bytes goes out.
abbrev pub core_with_round : CoreState → ℕ → CoreState
core_with_round core r =
    record core { reports = after_opening (items_of core.layout) r core.reports; current = Some r; piece = 0 }

-- the core of a device once a round of a due report opens, if a report is due
abbrev pub core_with_due_round : CoreState → Option ℕ → CoreState
core_with_due_round core None = core
core_with_due_round core (Some r) = core_with_round core r

-- The core of a device once a poll arrived: where no round is open, the endpoint isn't halted and some report is due,
-- a round opens of the due report of the lowest number.
abbrev pub core_after_due : CoreState → Option ℕ → CoreState
core_after_due core None =
    core_with_due_round core (due_where (items_of core.layout) core.halted core.reports)
core_after_due core (Some r) = core

-- what a poll makes of the core before it is answered
abbrev pub core_at_poll : CoreState → CoreState
core_at_poll core = core_after_due core core.current

-- an acknowledgement changes the toggle where a round is open (USB 2.0, 8.6.2)
abbrev pub toggle_after_ack : Bool → Option ℕ → Bool
toggle_after_ack toggle None = toggle
toggle_after_ack toggle (Some r) = not toggle

-- the piece after the one that goes out, where there is one
abbrev pub next_piece : List Item → Option ℕ → ℕ → Option ℕ
next_piece items None piece = None
next_piece items (Some r) piece = if is_last_piece items r piece then None else Some (piece + 1)

-- the piece of a device's open round that goes out after this one, if there is one
abbrev pub next_piece_of : CoreState → Option ℕ
next_piece_of core = next_piece (items_of core.layout) core.current core.piece

-- the round stays open while another piece goes out
abbrev pub round_after_piece : Option ℕ → Option ℕ → Option ℕ
round_after_piece current None = None
round_after_piece current (Some next) = current

-- An acknowledgement closes the piece that goes out, and the round with its last one.
abbrev pub core_after_ack : CoreState → CoreState
core_after_ack core = record core {
  toggle = toggle_after_ack core.toggle core.current;
  current = round_after_piece core.current (next_piece_of core);
  piece = unwrap_or (next_piece_of core) 0;
}

-- SET_CONFIGURATION takes effect: no round is open, data begin with DATA0, and a halt ends (USB 2.0, 9.1.1.5 and
-- 9.4.5).
abbrev pub configured_core : CoreState → CoreState
configured_core core = record core {
  is_configured = true;
  reports = initial_reports (items_of core.layout) core.reports.snapshot core.reports.idle;
  current = None;
  piece = 0;
  toggle = false;
  halted = false;
}

-- The endpoint is halted: the round that is open ends, and its report is due (USB 2.0, 9.4.5; our choice). The toggle
-- stays. Example: the status of a halted endpoint is 01 00
abbrev pub halted_core : CoreState → CoreState
halted_core core =
    record core { reports = with_abort core.current core.reports; current = None; piece = 0; halted = true }

-- The halt is ended, where there is one: the round that is open ends all the same, its report is due, and data begin
-- with DATA0 (USB 2.0, 9.4.5).
abbrev pub cleared_core : CoreState → CoreState
cleared_core core = record core {
  reports = with_abort core.current core.reports;
  current = None;
  piece = 0;
  toggle = false;
  halted = false;
}

-- The bus is reset: the device isn't configured (USB 2.0, 9.1.1.3), no round is open, its endpoint isn't halted, no
-- idle time is set (our choice), reports are in the report protocol (HID 1.11, 7.2.6), Output and Feature reports are
-- zeros (our choice), and the last request is forgotten. What its controls show stays: the snapshot.
abbrev pub reset_core : CoreState → CoreState
reset_core core = record core {
  is_configured = false;
  reports = initial_reports (items_of core.layout) core.reports.snapshot (no_idle core.reports.idle);
  current = None;
  piece = 0;
  toggle = false;
  halted = false;
  protocol = protocols.Report;
  outputs = bare_outputs core.layout;
  answer = None;
  pending = Nothing;
}

-- a control changes, or the change is refused and is none
abbrev pub changed_core : CoreState → Change → CoreState
changed_core core change = record core { reports = after_change (items_of core.layout) core.reports change }

-- A frame counts for each Input report of a device.
abbrev pub framed_core : CoreState → CoreState
framed_core core = record core { reports = after_frame core.reports }

-- the bytes, and no others, that show the part of a report
pub record AreBytesOf (layout : Contents) (parts : List ControlState) (r : ℕ) (bytes : List ℕ) : Type 0 where
  pub are_bytes : AreBytes bytes
  pub shows : IsEncoding layout r (part_numbers layout parts) bytes
  pub only : IsOnlyEncoding layout r (part_numbers layout parts) bytes

-- What is armed: a piece of the bytes of the part that was fixed, exactly while a round is open.
abbrev pub piece_armed : Contents → List ControlState → Option ℕ → ℕ → Option (List ℕ)
piece_armed layout parts None piece = None
piece_armed layout parts (Some r) piece = Some (piece_of (part_bytes layout r parts) piece)

-- what the pipe of a device has armed: the piece that goes out of the open round, if there is one
abbrev pub armed_bytes : CoreState → Option (List ℕ)
armed_bytes core = piece_armed core.layout core.reports.fixed core.current core.piece

-- The answer to a poll: STALL while the endpoint is halted, else what is armed under the toggle, else NAK (USB 2.0,
-- 8.4.6.1).
abbrev pub poll_response : CoreState → Packet
poll_response core = answer_with core.halted core.toggle (armed_bytes core)

-- the report of the open round is an Input report
abbrev pub IsBelow : ℕ → Option ℕ → Type 0
IsBelow count None = Unit {0}
IsBelow count (Some r) = r < count

-- a piece of the open round goes out, and where none is open the next one begins with its first
abbrev pub IsPiece : List Item → Option ℕ → ℕ → Type 0
IsPiece items None piece = piece ≡ 0
IsPiece items (Some r) piece = piece < pieces_of items r

-- the bytes of an open round show the part that was fixed
abbrev pub SendsPart : Contents → List ControlState → Option ℕ → Type 0
SendsPart layout parts current = IfSome current (λ r. AreBytesOf layout parts r (part_bytes layout r parts))

-- either no round is open, or the endpoint isn't halted
abbrev pub HasNoRoundWhileHalted : Option ℕ → Bool → Type 0
HasNoRoundWhileHalted None halted = Unit {0}
HasNoRoundWhileHalted (Some r) halted = halted ≡ false

-- A device's core is sound: its layout is that of its descriptor, it can send that nothing is pressed or has moved, its
-- lists have one entry for each Input report, and the open round is of an Input report and has its part's bytes.
pub record IsSound (core : CoreState) : Type 0 where
  pub lays : ParsesTo core.descriptor core.layout
  pub empty_codes : has_empty_codes core.layout ≡ true
  pub zeros : has_zeros (items_of core.layout) ≡ true
  pub inputs_first : AreInputsFirst core.layout.reports
  pub snapshot : FitsSnapshot (items_of core.layout) core.reports.snapshot
  pub fixed : FitsShown (items_of core.layout) core.reports.fixed
  pub each_frames : length core.reports.frames ≡ input_count core.layout.reports
  pub each_idle : length core.reports.idle ≡ input_count core.layout.reports
  pub each_cut : length core.reports.aborted ≡ input_count core.layout.reports
  pub of_input : IsBelow (input_count core.layout.reports) core.current
  pub piece : IsPiece (items_of core.layout) core.current core.piece
  pub sends : SendsPart core.layout core.reports.fixed core.current
  pub quiet : HasNoRoundWhileHalted core.current core.halted
  pub outputs : AreOutputs core.layout core.outputs

-- the bytes that are kept of an open round
abbrev pub KeepsRound : CoreState → List ℕ → Type 0
KeepsRound core bytes = IfSome core.current (λ r. bytes ≡ part_bytes core.layout r core.reports.fixed)

-- If it was seen that the controls of no Input report call for it, none do, so that a poll needn't look at them.
abbrev pub NothingDue : Contents → List ControlState → List ControlState → Bool → Type 0
NothingDue layout snapshot fixed true =
    (r : ℕ) → r < input_count layout.reports → is_changed (items_of layout) r snapshot fixed ≡ false
NothingDue layout snapshot fixed false = Unit {0}

-- what holds of every device, with whether nothing was seen to be due, what its pipe has armed, the bytes of its round,
-- and room for the parts that are asked for
pub record IsCore (core : CoreState) (seen : Bool) (sent : Option (List ℕ)) (bytes : List ℕ)
    (parts : List ControlState) : Type 0 where
  pub sound : IsSound core
  pub nothing_due : NothingDue core.layout core.reports.snapshot core.reports.fixed seen
  pub armed : sent ≡ armed_bytes core
  pub round : KeepsRound core bytes
  pub room : FitsShown (items_of core.layout) parts

-- which piece of the open round goes out, from 0
abbrev pub piece_at : CoreState → Option ℕ
piece_at core = elim core.current [ None ↦ None | Some r ↦ Some core.piece ]

-- the report of the open round, and whether its data go out as DATA1
abbrev pub round_of : CoreState → Option (ℕ × Bool)
round_of core = elim core.current [ None ↦ None | Some r ↦ Some (r, core.toggle) ]
