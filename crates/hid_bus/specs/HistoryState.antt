-- How a link state stands after its history, and after the rounds of its own steps (USB 2.0, 8.5.4 and 8.6).
use Rattle.std.specs.Prelude.{◌≡◌, ℕ, ◌+◌, Bool, false, List, [], ◌∷◌, None, IfSome}
use Rattle.std.specs.List.{filter}
use Rattle.std.specs.Option.{option_map}
use Rattle.hid_layout.specs.Controls.{Item}
use Rattle.hid_snapshots.specs.declared.control_state.ControlState.{ControlState}
use Rattle.hid_snapshots.specs.declared.event.Event.{Event}
use Rattle.usb_transact.specs.declared.transaction.Fate.{Fate}
use Rattle.hid_bus.specs.Rounds.{OwnStep, Polls, Round, RoundHistory, is_host_ahead_after_all, pieces_closed, pieces_crossed, has_crossed, rounds, history_after_steps, view_after_rounds}
use Rattle.hid_bus.specs.LinkState.{LinkState, OpenRound, state_after_step, events_of_step, expected_toggle}
use Rattle.hid_bus.specs.DeviceHistory.{BusEvent, LinkOutcome, outcomes_of_events, ended_rounds, history_after_all, events_of_outcomes, view_after_outcomes, flipped_toggle, toggle_after_outcomes, state_after_all, events_of_history}

-- what a link state keeps of an open round: its report, how many pieces it has, the place of the current one, and
-- whether that has crossed
abbrev pub open_round_of : Round → OpenRound
open_round_of round = record {
  report = round.report;
  pieces = round.pieces;
  piece = pieces_closed round;
  crossed = is_host_ahead_after_all false round.polls;
}

-- The link state `s` and the events after a history that began with this view and toggle. Views and toggles start again
-- with a configuration and a reset, toggles with a clear too.
pub record FollowsHistory (items : List Item) (before : List ControlState) (odd : Bool)
    (outcomes : List LinkOutcome)
    (history : RoundHistory) (told : List Event) (s : LinkState) : Type 0 where
  pub events : told ≡ events_of_outcomes items before outcomes
  pub reports : s.reports ≡ history.reports
  pub open_round : s.current ≡ option_map open_round_of history.current
  -- the part of the open round is the one that was fixed last
  pub part : IfSome history.current (λ round. round.parts ≡ s.reports.fixed)
  -- the view took the parts of the rounds that crossed
  pub view : s.view ≡ view_after_outcomes items before outcomes
  pub halted : s.halted ≡ history.halted
  -- the device's toggle changed once for each piece closed
  pub toggle : s.toggle ≡ toggle_after_outcomes pieces_closed odd outcomes
  -- the expected toggle changed once for each piece crossed; nothing is said of a halted endpoint, which sends no data
  pub expects : s.halted ≡ false → expected_toggle s ≡ toggle_after_outcomes pieces_crossed odd outcomes

-- the round history that begins at a link state without an open round
abbrev pub history_from : LinkState → RoundHistory
history_from from = record { reports = from.reports; current = None; halted = from.halted }

-- The link state after a list of bus events, and the events that they deliver, are those of its round history.
abbrev pub HistoryHolds : List Item → LinkState → List BusEvent → Type 0
HistoryHolds items from bus_events =
    FollowsHistory items from.view from.toggle
    (outcomes_of_events items bus_events (history_from from))
    (history_after_all items bus_events (history_from from))
    (events_of_history items from bus_events) (state_after_all items from bus_events)

-- A poll delivers no event and leaves the view, as one does whose current piece isn't the last of its round.
abbrev pub IsQuietPoll : List Item → LinkState → Fate → Type 0
IsQuietPoll items s fate =
    (events_of_step items s (Polls fate) ≡ []) × ((state_after_step items s (Polls fate)).view ≡ s.view)

-- the pieces of a list of rounds, of each as many as `pieces` counts
abbrev pub pieces_in : (Round → ℕ) → List Round → ℕ
pieces_in pieces [] = 0
pieces_in pieces (round ∷ rest) = pieces round + pieces_in pieces rest

-- The link state `s` after rounds that began with this view and toggle, of which these are gone.
pub record FollowsRounds (items : List Item) (before : List ControlState) (odd : Bool)
    (gone : List Round) (history : RoundHistory) (s : LinkState) : Type 0 where
  pub reports : s.reports ≡ history.reports
  pub open_round : s.current ≡ option_map open_round_of history.current
  -- the part of the open round is the one that was fixed last
  pub part : IfSome history.current (λ round. round.parts ≡ s.reports.fixed)
  -- the view took the parts of the rounds that crossed
  pub view : s.view ≡ view_after_rounds items before (filter has_crossed gone)
  pub halted : s.halted ≡ history.halted
  -- the device's toggle changed once for each piece closed
  pub toggle : s.toggle ≡ flipped_toggle (pieces_in pieces_closed gone) odd
  -- the expected toggle changed once for each piece crossed
  pub expects : expected_toggle s ≡ flipped_toggle (pieces_in pieces_crossed gone) odd

-- A link state stands as the rounds of these steps say: as its round history does, with the round that is open there;
-- the view took the parts that crossed; the device's toggle was changed once for each piece closed, the host's once
-- for each piece crossed.
abbrev pub StandsByRounds : List Item → LinkState → List OwnStep → LinkState → Type 0
StandsByRounds items from steps s =
    FollowsRounds items from.view from.toggle
    (rounds items steps (history_from from)) (history_after_steps items steps (history_from from)) s

-- A link state stands as the rounds of an epoch say, in which these bus events happen to it. Example: idle time 1, a
-- press, and polls three and four frames after the round: down 07:04, and two rounds
abbrev pub StandsInEpoch : List Item → LinkState → List BusEvent → LinkState → Type 0
StandsInEpoch items from bus_events s =
    FollowsRounds items from.view from.toggle
    (ended_rounds (outcomes_of_events items bus_events (history_from from)))
    (history_after_all items bus_events (history_from from)) s
