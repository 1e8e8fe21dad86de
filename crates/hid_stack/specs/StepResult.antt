-- What a step returns, by its fate (USB 2.0, 5.7.3, 8.4.5, 8.5.3, 8.5.4 and 8.6).
use Rattle.std.specs.Prelude.{◌≡◌, ℕ, Bool, if◌then◌else◌, List, [], Option, Some, None}
use Rattle.hid_layout.specs.Controls.{items_of}
use Rattle.hid_layout.specs.Layout.{Contents}
use Rattle.hid_snapshots.specs.declared.control_state.ControlState.{ControlState}
use Rattle.hid_snapshots.specs.declared.event.Event.{Event}
use Rattle.usb_packet.specs.declared.packet.Packet.{Packet}
use Rattle.usb_packet.specs.declared.packet.Packet.TheVariants as packets
use Rattle.usb_packet.specs.PacketEncoding.{encoding}
use Rattle.usb_transact.specs.declared.host.Took.{Took}
use Rattle.usb_transact.specs.declared.host.Took.TheVariants.{Fresh, Again, Nak, Stall, Silent}
use Rattle.usb_transact.specs.declared.transaction.Fate.{Fate}
use Rattle.usb_transact.specs.declared.transaction.Fate.TheVariants.{Clean, TokenLost, ReplyLost, AckLost}
use Rattle.hid_snapshots.specs.Pieces.{piece_of}
use Rattle.hid_snapshots.specs.PartBytes.{part_bytes}
use Rattle.hid_bus.specs.declared.step.Step.{Step}
use Rattle.hid_bus.specs.declared.step.Step.TheVariants.{Change, Frame, Poll, Begin, Control, Halt, Reset}
use Rattle.hid_bus.specs.declared.step.Told.{Told}
use Rattle.hid_bus.specs.declared.step.Told.TheVariants.{Quiet, Polled}
use Rattle.hid_bus.specs.declared.step.Told.TheVariants as tellings
use Rattle.hid_bus.specs.LinkState.{LinkState, has_all_pieces, state_at_token}
use Rattle.usb_control.specs.Host.{progress_of}
use Rattle.hid_host.specs.declared.host.Transfer.{Transfer}
use Rattle.hid_host.specs.declared.phase.HostPhase.{HostPhase}
use Rattle.hid_host.specs.Host.{running}
use Rattle.hid_host.specs.ResetEvents.{reported_drops}
use Rattle.hid_stack.specs.Members.{Member, member_transfer_after}
use Rattle.hid_stack.specs.Rig.{member_at}

-- the current piece of the bytes that show the part of the open round
abbrev pub piece_shown : Contents → LinkState → List ℕ
piece_shown layout s = elim s.current [
  | None ↦ []
  | Some round ↦ piece_of (part_bytes layout round.report s.reports.fixed) round.piece
]

-- The packet that the device sends: STALL where its endpoint is halted; else the current piece of the open round, as
-- DATA1 where an odd number of pieces closed; else NAK.
abbrev pub sent_packet : LinkState → List ℕ → Packet
sent_packet s piece =
    if s.halted then packets.Stall
    else elim s.current [
      | None ↦ packets.Nak
      | Some round ↦ packets.Data s.toggle (record { items = piece })
    ]

-- What the host takes of the packet that reaches it: STALL and NAK as they are, and data as fresh at the poll at which
-- their piece crosses.
abbrev pub took_at_poll : LinkState → List ℕ → Took
took_at_poll s piece =
    if s.halted then Stall
    else elim s.current [
      | None ↦ Nak
      | Some round ↦ (if round.crossed then Again else Fresh (record { items = piece }))
    ]

-- What a poll returns, by its fate, after a round was opened for it.
abbrev pub poll_result : LinkState → Fate → List ℕ → Told
poll_result s TokenLost piece = Polled None Silent
poll_result s ReplyLost piece =
    Polled (Some (record { items = encoding (sent_packet s piece) })) Silent
poll_result s Clean piece =
    Polled (Some (record { items = encoding (sent_packet s piece) })) (took_at_poll s piece)
poll_result s AckLost piece =
    Polled (Some (record { items = encoding (sent_packet s piece) })) (took_at_poll s piece)

-- what a poll returns whose token arrived, by the current piece of the open round
abbrev pub OpenRoundReturns : Contents → LinkState → Fate → Told → Type 0
OpenRoundReturns layout s fate told = told ≡ poll_result s fate (piece_shown layout s)

-- What a poll returns: nothing is sent where its token is lost.
abbrev pub PollReturns : Contents → LinkState → Fate → Told → Type 0
PollReturns layout s TokenLost told = told ≡ Polled None Silent
PollReturns layout s ReplyLost told =
    OpenRoundReturns layout (state_at_token (items_of layout) s) ReplyLost told
PollReturns layout s Clean told = OpenRoundReturns layout (state_at_token (items_of layout) s) Clean told
PollReturns layout s AckLost told = OpenRoundReturns layout (state_at_token (items_of layout) s) AckLost told

-- what a try of the transfer that runs returns: how far it has come then
abbrev pub TryReturns : Fate → Member → Option Transfer → Told → Type 0
TryReturns fate m None told = ⊥
TryReturns fate m (Some t) told =
    told ≡ tellings.Transfer (progress_of (member_transfer_after fate m t).stage)

-- What a step of the bus returns.
abbrev pub StepReturns : List Member → Step → Told → Type 0
StepReturns members (Change dev change) told = told ≡ Quiet
StepReturns members Frame told = told ≡ Quiet
StepReturns members (Poll dev fate) told = elim (member_at members dev) [
  | None ↦ ⊥
  | Some m ↦ PollReturns m.layout m.link fate told
]
StepReturns members (Begin dev request) told = told ≡ Quiet
StepReturns members (Halt dev) told = told ≡ Quiet
StepReturns members (Reset dev) told = told ≡ Quiet
StepReturns members (Control dev fate) told = elim (member_at members dev) [
  | None ↦ ⊥
  | Some m ↦ TryReturns fate m (running m.transfer) told
]

-- the report of an open round that hasn't crossed whole
abbrev pub awaited_of : LinkState → Option ℕ
awaited_of s = elim s.current [
  | None ↦ None
  | Some round ↦ (if has_all_pieces round then None else Some round.report)
]

-- The events of a try, by the report that was awaited before and the round that is open after it: where none is open,
-- the motion of that report's part is dropped.
abbrev pub drops_after_try : Option ℕ → Option (ℕ × Bool) → HostPhase → List ControlState → List Event
drops_after_try None round phase parts = []
drops_after_try (Some report) None phase parts = reported_drops phase report parts
drops_after_try (Some report) (Some round) phase parts = []
