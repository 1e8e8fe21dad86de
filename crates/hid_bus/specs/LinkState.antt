-- A configured device with its ready host, between transactions: the state that both ends together keep (USB 2.0,
-- 8.5.4, 8.6 and 9.4.5).
use Rattle.std.specs.Prelude.{◌≡◌, ℕ, ◌+◌, ◌<◌, Bool, true, false, not, ◌&&◌, nat_le, if◌then◌else◌, List, [], ◌∷◌, ◌++◌, Option, Some, None, IfSome}
use Rattle.std.specs.Option.{option_map}
use Rattle.hid_layout.specs.Controls.{Item}
use Rattle.hid_snapshots.specs.declared.control_state.ControlState.{ControlState}
use Rattle.hid_snapshots.specs.declared.event.Event.{Event}
use Rattle.hid_snapshots.specs.ControlStates.{blank}
use Rattle.hid_snapshots.specs.Pieces.{pieces_of}
use Rattle.hid_snapshots.specs.Views.{view_after_part}
use Rattle.usb_transact.specs.declared.transaction.Fate.{Fate}
use Rattle.usb_transact.specs.declared.transaction.Fate.TheVariants.{Clean, TokenLost, ReplyLost, AckLost}
use Rattle.hid_bus.specs.ReportState.{ReportState, initial_reports, due_where, after_opening, after_change, after_frame}
use Rattle.hid_bus.specs.Rounds.{OwnStep, Changes, Frame, Polls, part_events}

-- The open round: its report, whose part is the one that was fixed last, how many pieces it has, the place of the
-- current one, from 0, and whether that has crossed.
pub record OpenRound : Type 0 where
  pub report : ℕ
  pub pieces : ℕ
  pub piece : ℕ
  pub crossed : Bool

-- The state of both ends: the reports of the device, the open round, the device's toggle, the view of the host, and
-- whether the endpoint is halted. The toggle is DATA1 where an odd number of pieces closed since the configuration or
-- the last clear.
pub record LinkState : Type 0 where
  pub reports : ReportState
  pub current : Option OpenRound
  pub toggle : Bool
  pub view : List ControlState
  pub halted : Bool

-- the open round has as many pieces as its report, and its current piece is one of them
abbrev pub HasPieces : List Item → LinkState → Type 0
HasPieces items s =
    IfSome s.current (λ round. (round.pieces ≡ pieces_of items round.report) × (round.piece < round.pieces))

-- the report of the open round, if one is open
abbrev pub open_report : Option OpenRound → Option ℕ
open_report current = option_map (λ round. round.report) current

-- the link state of both ends freshly configured: no round is open, none has closed, the host's view is the initial
-- one, and the endpoint isn't halted
abbrev pub initial_link : List Item → List ControlState → List ℕ → LinkState
initial_link items snapshot idle = record {
  reports = initial_reports items snapshot idle;
  current = None;
  toggle = false;
  view = blank items;
  halted = false;
}

-- a round of this report, at its first piece
abbrev pub first_open_piece : List Item → ℕ → OpenRound
first_open_piece items r = record { report = r; pieces = pieces_of items r; piece = 0; crossed = false }

-- the link state once a round of a report opens, if one does
abbrev pub with_open_report : List Item → LinkState → Option ℕ → LinkState
with_open_report items s None = s
with_open_report items s (Some r) =
    record s { reports = after_opening items r s.reports; current = Some (first_open_piece items r) }

-- the link state once a token arrived: where no round is open, the endpoint isn't halted and some report is due, a
-- round of it opens
abbrev pub state_at_token : List Item → LinkState → LinkState
state_at_token items s =
    elim s.current [ Some round ↦ s | None ↦ with_open_report items s (due_where items s.halted s.reports) ]

-- the link state at a poll, before its answer: the token arrives, or is lost
abbrev pub state_before_answer : List Item → LinkState → Fate → LinkState
state_before_answer items s TokenLost = s
state_before_answer items s Clean = state_at_token items s
state_before_answer items s ReplyLost = state_at_token items s
state_before_answer items s AckLost = state_at_token items s

-- the current piece of an open round is its last one
abbrev pub is_last : OpenRound → Bool
is_last round = nat_le round.pieces (round.piece + 1)

-- all pieces of an open round have crossed
abbrev pub has_all_pieces : OpenRound → Bool
has_all_pieces round = round.crossed && is_last round

-- the current piece completes the report of an open round: it is the last one, and hasn't crossed yet
abbrev pub completes : OpenRound → Bool
completes round = is_last round && not round.crossed

-- the host's view once the current piece reached it: it takes the part where that piece completes the report
abbrev pub view_with : List Item → LinkState → OpenRound → List ControlState
view_with items s round =
    if completes round then view_after_part items round.report s.view s.reports.fixed else s.view

-- an open round at its next piece
abbrev pub piece_after : OpenRound → OpenRound
piece_after round =
    record { report = round.report; pieces = round.pieces; piece = round.piece + 1; crossed = false }

-- what is open once the current piece of a round closed: the round at its next piece, or none after the last one
abbrev pub open_next : OpenRound → Option OpenRound
open_next round = if is_last round then None else Some (piece_after round)

-- the link state after a poll of the open round: the current piece crosses where it reaches the host, and closes where
-- nothing is lost
abbrev pub round_after_poll : List Item → LinkState → OpenRound → Fate → LinkState
round_after_poll items s round Clean =
    record s { current = open_next round; toggle = not s.toggle; view = view_with items s round }
round_after_poll items s round AckLost =
    record s { current = Some (record round { crossed = true }); view = view_with items s round }
round_after_poll items s round TokenLost = s
round_after_poll items s round ReplyLost = s

-- the link state after the answer to a poll: where no round is open, nothing is sent but NAK, or STALL from a halted
-- endpoint
abbrev pub state_after_answer : List Item → LinkState → Fate → LinkState
state_after_answer items s fate =
    elim s.current [ None ↦ s | Some round ↦ round_after_poll items s round fate ]

-- the link state after a step: a token that arrives opens a round if one is due and the endpoint isn't halted; a
-- piece that reaches the host has crossed, and with the last one the view takes the part; a piece of which nothing is
-- lost closes. Example: after a lost ACK the round is open and has crossed
abbrev pub state_after_step : List Item → LinkState → OwnStep → LinkState
state_after_step items s (Changes change) = record s { reports = after_change items s.reports change }
state_after_step items s Frame = record s { reports = after_frame s.reports }
state_after_step items s (Polls fate) = state_after_answer items (state_before_answer items s fate) fate

-- the events of the current piece once it reached the host: those of the part, where it completes the report
abbrev pub piece_events : List Item → LinkState → OpenRound → List Event
piece_events items s round =
    if completes round then part_events items round.report s.view s.reports.fixed else []

-- the events of a poll of the open round, by its fate: a poll that doesn't reach the host has none
abbrev pub open_round_events : List Item → LinkState → OpenRound → Fate → List Event
open_round_events items s round Clean = piece_events items s round
open_round_events items s round AckLost = piece_events items s round
open_round_events items s round TokenLost = []
open_round_events items s round ReplyLost = []

-- the events of a poll after its token, by the round that is open, if one is
abbrev pub poll_events : List Item → LinkState → Fate → List Event
poll_events items s fate = elim s.current [ None ↦ [] | Some round ↦ open_round_events items s round fate ]

-- The events that a step delivers.
abbrev pub events_of_step : List Item → LinkState → OwnStep → List Event
events_of_step items s (Changes change) = []
events_of_step items s Frame = []
events_of_step items s (Polls fate) = poll_events items (state_before_answer items s fate) fate

-- the link state after a list of steps
abbrev pub state_after_steps : List Item → LinkState → List OwnStep → LinkState
state_after_steps items s [] = s
state_after_steps items s (x ∷ steps) = state_after_steps items (state_after_step items s x) steps

-- the events of a list of steps, one after another
abbrev pub events_of_steps : List Item → LinkState → List OwnStep → List Event
events_of_steps items s [] = []
events_of_steps items s (x ∷ steps) =
    events_of_step items s x ++ events_of_steps items (state_after_step items s x) steps

-- The toggle that a host expects which knows what became of its polls: the device's, or the other one where the current
-- piece has crossed. (A host whose endpoint halted, or whose clear took effect and isn't done, keeps the toggle that it
-- had.) Example: DATA1 after a lost ACK
abbrev pub expected_toggle : LinkState → Bool
expected_toggle s =
    elim s.current [ None ↦ s.toggle | Some round ↦ (if round.crossed then not s.toggle else s.toggle) ]
