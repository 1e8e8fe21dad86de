-- Rounds of interrupt-IN polls: what a part goes through from its opening to its last acknowledgement, piece by piece
-- (USB 2.0, 5.7.3, 8.5.4, 8.6 and 9.4.5).
use Rattle.std.specs.Prelude.{ℕ, ◌+◌, Bool, true, false, nat_le, if◌then◌else◌, List, [], ◌∷◌, ◌++◌, Option, Some, None}
use Rattle.std.specs.List.{filter}
use Rattle.std.specs.Option.{option_map}
use Rattle.hid_layout.specs.Controls.{Item}
use Rattle.hid_snapshots.specs.declared.control_state.ControlState.{ControlState}
use Rattle.hid_snapshots.specs.declared.change.Change.{Change}
use Rattle.hid_snapshots.specs.declared.event.Event.{Event}
use Rattle.hid_snapshots.specs.ControlStates.{blank}
use Rattle.hid_snapshots.specs.Pieces.{pieces_of}
use Rattle.hid_snapshots.specs.Views.{view_after_part, events_between}
use Rattle.usb_transact.specs.declared.transaction.Fate.{Fate}
use Rattle.usb_transact.specs.declared.transaction.Fate.TheVariants.{Clean, TokenLost, ReplyLost, AckLost}
use Rattle.hid_bus.specs.ReportState.{ReportState, initial_reports, due_where, after_change, after_frame, after_opening}

-- What happens at one device: a control changes, a frame passes, or the host polls it and the poll has this fate.
pub data OwnStep : Type 0 where
  Changes : Change → OwnStep
  Frame : OwnStep
  Polls : Fate → OwnStep

-- A round: its report and in how many pieces that goes, the parts as they were fixed when it opened, and the fates of
-- its polls, the opening one first. Example: a round of one piece with a lost ACK and then a clean poll crosses at the
-- first and closes at the second
pub record Round : Type 0 where
  pub report : ℕ
  pub pieces : ℕ
  pub parts : List ControlState
  pub polls : List Fate

-- the device's reply reaches the host
abbrev pub reaches_host : Fate → Bool
reaches_host Clean = true
reaches_host TokenLost = false
reaches_host ReplyLost = false
reaches_host AckLost = true

-- nothing is lost, so the host's acknowledgement reaches the device
abbrev pub is_clean : Fate → Bool
is_clean Clean = true
is_clean TokenLost = false
is_clean ReplyLost = false
is_clean AckLost = false

-- How many pieces these polls closed, one after the other: a piece closes at its first poll of which nothing is lost.
abbrev pub closed_count : List Fate → ℕ
closed_count [] = 0
closed_count (fate ∷ polls) = (if is_clean fate then 1 else 0) + closed_count polls

-- Whether, after one more poll, the host has the current piece and the device doesn't know it: it crosses at its first
-- poll that reaches the host. After a poll of which nothing is lost both know, and the next piece is current.
abbrev pub is_host_ahead_after : Bool → Fate → Bool
is_host_ahead_after ahead Clean = false
is_host_ahead_after ahead TokenLost = ahead
is_host_ahead_after ahead ReplyLost = ahead
is_host_ahead_after ahead AckLost = true

-- whether the current piece has crossed after a list of polls
abbrev pub is_host_ahead_after_all : Bool → List Fate → Bool
is_host_ahead_after_all ahead [] = ahead
is_host_ahead_after_all ahead (fate ∷ polls) = is_host_ahead_after_all (is_host_ahead_after ahead fate) polls

-- how many pieces crossed, by how many closed and by whether the current one has crossed
abbrev pub crossed_count : ℕ → Bool → ℕ
crossed_count closed ahead = if ahead then closed + 1 else closed

-- how many pieces of a round closed: each at its first poll of which nothing is lost
abbrev pub pieces_closed : Round → ℕ
pieces_closed round = closed_count round.polls

-- how many pieces of a round crossed: each at its first poll that reaches the host. Example: of two pieces a clean poll
-- and a lost ACK: two crossed, one closed
abbrev pub pieces_crossed : Round → ℕ
pieces_crossed round = crossed_count (pieces_closed round) (is_host_ahead_after_all false round.polls)

-- A round crosses with its last piece.
abbrev pub has_crossed : Round → Bool
has_crossed round = nat_le round.pieces (pieces_crossed round)

-- A round closes with its last piece.
abbrev pub has_closed : Round → Bool
has_closed round = nat_le round.pieces (pieces_closed round)

-- the round history of a device: its reports, the open round, if one is open, and whether its endpoint is halted
pub record RoundHistory : Type 0 where
  pub reports : ReportState
  pub current : Option Round
  pub halted : Bool

-- the report of a round, where there is one
abbrev pub round_report : Option Round → Option ℕ
round_report current = option_map (λ round. round.report) current

-- a round of a report that just opened: it has the parts that were fixed last, and no polls
abbrev pub new_round : List Item → ℕ → ReportState → Round
new_round items r d = record { report = r; pieces = pieces_of items r; parts = d.fixed; polls = [] }

-- the round history once a round of a report opens, if one does
abbrev pub with_opened_round : List Item → RoundHistory → Option ℕ → RoundHistory
with_opened_round items c None = c
with_opened_round items c (Some r) = record c {
  reports = after_opening items r c.reports;
  current = Some (new_round items r (after_opening items r c.reports));
}

-- the round history once a token arrived: it opens a round where none is open, the endpoint isn't halted and some
-- report is due
abbrev pub history_at_token : List Item → RoundHistory → RoundHistory
history_at_token items c =
    elim c.current [ Some round ↦ c | None ↦ with_opened_round items c (due_where items c.halted c.reports) ]

-- the round history of a device at a poll, before its answer: the token arrives, or is lost
abbrev pub history_before_answer : List Item → RoundHistory → Fate → RoundHistory
history_before_answer items c TokenLost = c
history_before_answer items c Clean = history_at_token items c
history_before_answer items c ReplyLost = history_at_token items c
history_before_answer items c AckLost = history_at_token items c

-- a round with one more poll
abbrev pub with_poll : Round → Fate → Round
with_poll round fate =
    record { report = round.report; pieces = round.pieces; parts = round.parts; polls = round.polls ++ fate ∷ [] }

-- the round that is open after a poll, which may close its last piece
abbrev pub open_round_after : Option Round → Fate → Option Round
open_round_after None fate = None
open_round_after (Some round) fate =
    if has_closed (with_poll round fate) then None else Some (with_poll round fate)

-- the round that a poll closes, if it closes one
abbrev pub rounds_closed_by_poll : Option Round → Fate → List Round
rounds_closed_by_poll None fate = []
rounds_closed_by_poll (Some round) fate =
    if has_closed (with_poll round fate) then with_poll round fate ∷ [] else []

-- the round history after the answer to a poll, which may close the open round
abbrev pub history_after_poll : RoundHistory → Fate → RoundHistory
history_after_poll c fate = record c { current = open_round_after c.current fate }

-- The round history after one own step: a change, a frame or a poll.
abbrev pub history_after_step : List Item → RoundHistory → OwnStep → RoundHistory
history_after_step items c (Changes change) = record c { reports = after_change items c.reports change }
history_after_step items c Frame = record c { reports = after_frame c.reports }
history_after_step items c (Polls fate) = history_after_poll (history_before_answer items c fate) fate

-- the round that a step closes, if it closes one: changes and frames close none
abbrev pub rounds_closed_by_step : List Item → RoundHistory → OwnStep → List Round
rounds_closed_by_step items c (Changes change) = []
rounds_closed_by_step items c Frame = []
rounds_closed_by_step items c (Polls fate) =
    rounds_closed_by_poll (history_before_answer items c fate).current fate

-- the round history of a device after a list of steps, one after another
abbrev pub history_after_steps : List Item → List OwnStep → RoundHistory → RoundHistory
history_after_steps items [] c = c
history_after_steps items (s ∷ steps) c = history_after_steps items steps (history_after_step items c s)

-- the round that is open, as a list
abbrev pub open_rounds : Option Round → List Round
open_rounds None = []
open_rounds (Some round) = round ∷ []

-- The rounds of a schedule, in order: those that it closes, and the one that is open at its end. A schedule of changes,
-- frames and polls is divided where polls open and close rounds; no toggle is kept.
abbrev pub rounds : List Item → List OwnStep → RoundHistory → List Round
rounds items [] c = open_rounds c.current
rounds items (s ∷ steps) c =
    rounds_closed_by_step items c s ++ rounds items steps (history_after_step items c s)

-- the events of a view that takes the part of a report
abbrev pub part_events : List Item → ℕ → List ControlState → List ControlState → List Event
part_events items r view parts = events_between items r view (view_after_part items r view parts) parts

-- The events of rounds from a view on: the view takes each round's part, and what changes and moves is reported.
abbrev pub events_of_rounds : List Item → List ControlState → List Round → List Event
events_of_rounds items view [] = []
events_of_rounds items view (round ∷ rest) =
    part_events items round.report view round.parts
    ++ events_of_rounds items (view_after_part items round.report view round.parts) rest

-- the view once it took the parts of rounds
abbrev pub view_after_rounds : List Item → List ControlState → List Round → List ControlState
view_after_rounds items view [] = view
view_after_rounds items view (round ∷ rest) =
    view_after_rounds items (view_after_part items round.report view round.parts) rest

-- the round history of a device that was just configured, with this snapshot and these idle times: no round is open,
-- and the endpoint isn't halted
abbrev pub initial_history : List Item → List ControlState → List ℕ → RoundHistory
initial_history items snapshot idle =
    record { reports = initial_reports items snapshot idle; current = None; halted = false }

-- the rounds that crossed since the configuration
abbrev pub crossed_rounds : List Item → List ControlState → List ℕ → List OwnStep → List Round
crossed_rounds items snapshot idle steps =
    filter has_crossed (rounds items steps (initial_history items snapshot idle))

-- The events of a schedule since the configuration: the changes between the parts that crossed, from the initial view
-- on. Example: press, lost ACK, press, two clean polls: down 07:04, down 07:05
abbrev pub events_of_epoch : List Item → List ControlState → List ℕ → List OwnStep → List Event
events_of_epoch items snapshot idle steps =
    events_of_rounds items (blank items) (crossed_rounds items snapshot idle steps)
