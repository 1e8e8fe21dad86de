-- The history of a device with its host: the bus events that happen to the device, their outcomes, and the events that
-- are reported (USB 2.0, 8.5.4, 8.6, 9.1.1, 9.4.5 and 9.4.7; HID 1.11, 7.2.4; our choice).
use Rattle.std.specs.Prelude.{ℕ, zero, suc, Bool, true, false, not, if◌then◌else◌, List, [], ◌∷◌, ◌++◌, map, Option, Some, None}
use Rattle.hid_layout.specs.Controls.{Item}
use Rattle.hid_snapshots.specs.declared.control_state.ControlState.{ControlState}
use Rattle.hid_snapshots.specs.declared.event.Event.{Event}
use Rattle.hid_snapshots.specs.ControlStates.{blank}
use Rattle.hid_snapshots.specs.Views.{view_after_part, changes_between, drops_between}
use Rattle.hid_bus.specs.ReportState.{with_idle, no_idle, with_abort}
use Rattle.hid_bus.specs.Rounds.{OwnStep, Round, RoundHistory, has_crossed, round_report, initial_history, history_after_step, rounds_closed_by_step, open_rounds, part_events}
use Rattle.hid_bus.specs.LinkState.{LinkState, open_report, has_all_pieces, initial_link, state_after_step, events_of_step}

-- What happens to a device: an own step, idle times that are set, a configuration that takes effect, a halt of its
-- endpoint, the end of a halt, or a reset of the bus.
pub data BusEvent : Type 0 where
  Own : OwnStep → BusEvent
  Idles : List ℕ → BusEvent
  Configures : BusEvent
  Halts : BusEvent
  Clears : BusEvent
  Resets : BusEvent

-- a list of own steps as bus events
abbrev pub steps_as_events : List OwnStep → List BusEvent
steps_as_events steps = map (λ x. Own x) steps

-- An outcome of a bus event: a round ends, by its polls or by a configuration; both ends start again, with toggles at
-- DATA0 and the initial view; a halt or a clear aborts the open round, if one is open; toggles alone start again, at
-- DATA0; or the bus is reset, and the open round goes with it.
pub data LinkOutcome : Type 0 where
  RoundEnded : Round → LinkOutcome
  LinkConfigured : LinkOutcome
  RoundAborted : Option Round → LinkOutcome
  TogglesReset : LinkOutcome
  BusReset : Option Round → LinkOutcome

-- a round history whose open round is aborted, and whose endpoint is halted then or not
abbrev pub history_after_abort : Bool → RoundHistory → RoundHistory
history_after_abort halted c =
    record { reports = with_abort (round_report c.current) c.reports; current = None; halted = halted }

-- The round history after a bus event: idle times leave the round that is open, a configuration keeps the snapshot
-- and the idle times alone, a halt and a clear end the round alone, and a reset keeps the snapshot alone.
abbrev pub history_after : List Item → RoundHistory → BusEvent → RoundHistory
history_after items c (Own x) = history_after_step items c x
history_after items c (Idles idle) = record c { reports = with_idle idle c.reports }
history_after items c Configures = initial_history items c.reports.snapshot c.reports.idle
history_after items c Halts = history_after_abort true c
history_after items c Clears = history_after_abort false c
history_after items c Resets = initial_history items c.reports.snapshot (no_idle c.reports.idle)

-- the round history of a device after a list of bus events
abbrev pub history_after_all : List Item → List BusEvent → RoundHistory → RoundHistory
history_after_all items [] c = c
history_after_all items (x ∷ bus_events) c = history_after_all items bus_events (history_after items c x)

-- rounds that ended, as outcomes
abbrev pub rounds_as_outcomes : List Round → List LinkOutcome
rounds_as_outcomes rounds = map (λ round. RoundEnded round) rounds

-- the outcomes of one bus event: a poll ends the round that it closes; a configuration, a halt, a clear and a reset end
-- the open one
abbrev pub outcomes_of_event : List Item → RoundHistory → BusEvent → List LinkOutcome
outcomes_of_event items c (Own x) = rounds_as_outcomes (rounds_closed_by_step items c x)
outcomes_of_event items c (Idles idle) = []
outcomes_of_event items c Configures = rounds_as_outcomes (open_rounds c.current) ++ LinkConfigured ∷ []
outcomes_of_event items c Halts = RoundAborted c.current ∷ []
outcomes_of_event items c Clears = RoundAborted c.current ∷ TogglesReset ∷ []
outcomes_of_event items c Resets = BusReset c.current ∷ []

-- The outcomes of a list of bus events, in order; the round that is open at its end ends there.
abbrev pub outcomes_of_events : List Item → List BusEvent → RoundHistory → List LinkOutcome
outcomes_of_events items [] c = rounds_as_outcomes (open_rounds c.current)
outcomes_of_events items (x ∷ bus_events) c =
    outcomes_of_event items c x ++ outcomes_of_events items bus_events (history_after items c x)

-- The rounds that ended in a list of outcomes, in order.
abbrev pub ended_rounds : List LinkOutcome → List Round
ended_rounds [] = []
ended_rounds (RoundEnded round ∷ rest) = round ∷ ended_rounds rest
ended_rounds (LinkConfigured ∷ rest) = ended_rounds rest
ended_rounds (RoundAborted current ∷ rest) = open_rounds current ++ ended_rounds rest
ended_rounds (TogglesReset ∷ rest) = ended_rounds rest
ended_rounds (BusReset current ∷ rest) = open_rounds current ++ ended_rounds rest

-- A bus event within an epoch: an own step, or idle times that are set. It begins no other epoch, and ends no round but
-- by a poll.
abbrev pub IsWithinEpoch : BusEvent → Type 0
IsWithinEpoch (Own x) = Unit {0}
IsWithinEpoch (Idles idle) = Unit {0}
IsWithinEpoch Configures = ⊥
IsWithinEpoch Halts = ⊥
IsWithinEpoch Clears = ⊥
IsWithinEpoch Resets = ⊥

-- each bus event of a list is within an epoch: an own step, or idle times that are set
abbrev pub AreWithinEpoch : List BusEvent → Type 0
AreWithinEpoch [] = Unit {0}
AreWithinEpoch (x ∷ bus_events) = IsWithinEpoch x × AreWithinEpoch bus_events

-- the events of a round that ended: those of its part, where it crossed
abbrev pub crossed_round_events : List Item → List ControlState → Bool → Round → List Event
crossed_round_events items view crossed round = if crossed then part_events items round.report view round.parts else []

-- the view after a round that ended: it took the part of one that crossed
abbrev pub view_after_round : List Item → List ControlState → Bool → Round → List ControlState
view_after_round items view crossed round =
    if crossed then view_after_part items round.report view round.parts else view

-- The events of a halt or a clear that aborts a round: those of its part, where it crossed; else its motion, which is
-- dropped, while the view stays.
abbrev pub aborted_round_events : List Item → List ControlState → Bool → Round → List Event
aborted_round_events items view crossed round =
    if crossed then part_events items round.report view round.parts
    else drops_between items round.report view view round.parts

-- the events of a halt or a clear, by the round that is open, if one is
abbrev pub round_abort_events : List Item → List ControlState → Option Round → List Event
round_abort_events items view None = []
round_abort_events items view (Some round) = aborted_round_events items view (has_crossed round) round

-- the view after a halt or a clear: it took the part of an aborted round that crossed
abbrev pub view_after_abort : List Item → List ControlState → Option Round → List ControlState
view_after_abort items view None = view
view_after_abort items view (Some round) = view_after_round items view (has_crossed round) round

-- The events of a reset that ends a round: those of its part, where it crossed, and what changes until the view is the
-- initial one again. The motion of a round that didn't cross is dropped.
abbrev pub lost_round_events : List Item → List ControlState → Bool → Round → List Event
lost_round_events items view crossed round =
    if crossed then part_events items round.report view round.parts
    ++ changes_between items (view_after_part items round.report view round.parts) (blank items)
    else drops_between items round.report view (blank items) round.parts

-- the events of a reset, by the round that is open, if one is
abbrev pub round_reset_events : List Item → List ControlState → Option Round → List Event
round_reset_events items view None = changes_between items view (blank items)
round_reset_events items view (Some round) = lost_round_events items view (has_crossed round) round

-- The events of a list of outcomes, from a view on. Example: a key that is held through a configuration is reported
-- again
abbrev pub events_of_outcomes : List Item → List ControlState → List LinkOutcome → List Event
events_of_outcomes items view [] = []
events_of_outcomes items view (RoundEnded round ∷ rest) =
    crossed_round_events items view (has_crossed round) round
    ++ events_of_outcomes items (view_after_round items view (has_crossed round) round) rest
events_of_outcomes items view (LinkConfigured ∷ rest) = events_of_outcomes items (blank items) rest
events_of_outcomes items view (RoundAborted current ∷ rest) =
    round_abort_events items view current ++ events_of_outcomes items (view_after_abort items view current) rest
events_of_outcomes items view (TogglesReset ∷ rest) = events_of_outcomes items view rest
events_of_outcomes items view (BusReset current ∷ rest) = round_reset_events items view current ++ events_of_outcomes items (blank items) rest

-- the view after a list of outcomes, from a view on
abbrev pub view_after_outcomes : List Item → List ControlState → List LinkOutcome → List ControlState
view_after_outcomes items view [] = view
view_after_outcomes items view (RoundEnded round ∷ rest) =
    view_after_outcomes items (view_after_round items view (has_crossed round) round) rest
view_after_outcomes items view (LinkConfigured ∷ rest) = view_after_outcomes items (blank items) rest
view_after_outcomes items view (RoundAborted current ∷ rest) =
    view_after_outcomes items (view_after_abort items view current) rest
view_after_outcomes items view (TogglesReset ∷ rest) = view_after_outcomes items view rest
view_after_outcomes items view (BusReset current ∷ rest) = view_after_outcomes items (blank items) rest

-- a toggle after this many changes: the other one after an odd number of them (USB 2.0, 8.6)
abbrev pub flipped_toggle : ℕ → Bool → Bool
flipped_toggle zero toggle = toggle
flipped_toggle (suc n) toggle = not (flipped_toggle n toggle)

-- a toggle after an aborted round, if one was open: it changed once for each piece that `pieces` counts of the round
abbrev pub toggle_after_round : (Round → ℕ) → Bool → Option Round → Bool
toggle_after_round pieces toggle None = toggle
toggle_after_round pieces toggle (Some round) = flipped_toggle (pieces round) toggle

-- a toggle after a list of outcomes: it changes once for each piece that `pieces` counts of a round, and starts again
-- at DATA0 with a configuration, a clear and a reset
abbrev pub toggle_after_outcomes : (Round → ℕ) → Bool → List LinkOutcome → Bool
toggle_after_outcomes pieces toggle [] = toggle
toggle_after_outcomes pieces toggle (RoundEnded round ∷ rest) =
    toggle_after_outcomes pieces (flipped_toggle (pieces round) toggle) rest
toggle_after_outcomes pieces toggle (LinkConfigured ∷ rest) = toggle_after_outcomes pieces false rest
toggle_after_outcomes pieces toggle (RoundAborted current ∷ rest) =
    toggle_after_outcomes pieces (toggle_after_round pieces toggle current) rest
toggle_after_outcomes pieces toggle (TogglesReset ∷ rest) = toggle_after_outcomes pieces false rest
toggle_after_outcomes pieces toggle (BusReset current ∷ rest) = toggle_after_outcomes pieces false rest

-- The link state after a bus event: a configuration and a reset configure both ends freshly, the host with its initial
-- view, the reset without idle times. (A ready host isn't notified of a configuration: it is made again, or reads the
-- device again.) A halt and a clear end the open round, whose report is due, and a clear begins at DATA0. Example: a
-- press and motion, a lost reply, a halt, a clear and a poll: dropped 01:30 5, down 09:01
abbrev pub state_after : List Item → LinkState → BusEvent → LinkState
state_after items s (Own x) = state_after_step items s x
state_after items s (Idles idle) = record s { reports = with_idle idle s.reports }
state_after items s Configures = initial_link items s.reports.snapshot s.reports.idle
state_after items s Halts =
    record s { reports = with_abort (open_report s.current) s.reports; current = None; halted = true }
state_after items s Clears =
    record s { reports = with_abort (open_report s.current) s.reports; current = None; toggle = false; halted = false }
state_after items s Resets = initial_link items s.reports.snapshot (no_idle s.reports.idle)

-- the link state after a list of bus events
abbrev pub state_after_all : List Item → LinkState → List BusEvent → LinkState
state_after_all items s [] = s
state_after_all items s (x ∷ bus_events) = state_after_all items (state_after items s x) bus_events

-- the events of a halt or a clear: the motion of an open round that hasn't crossed, which is dropped, also where some
-- of its pieces have
abbrev pub abort_events : List Item → LinkState → List Event
abort_events items s = elim s.current [
  | None ↦ []
  | Some round ↦ (if has_all_pieces round then []
      else drops_between items round.report s.view s.view s.reports.fixed)
]

-- the events of a reset: what changes until the host's view is the initial one again, and the motion of an open round
-- that hasn't crossed, which is dropped
abbrev pub reset_events : List Item → LinkState → List Event
reset_events items s = elim s.current [
  | None ↦ changes_between items s.view (blank items)
  | Some round ↦ (if has_all_pieces round then changes_between items s.view (blank items)
      else drops_between items round.report s.view (blank items) s.reports.fixed)
]

-- the events that a bus event delivers
abbrev pub delivered_events : List Item → LinkState → BusEvent → List Event
delivered_events items s (Own x) = events_of_step items s x
delivered_events items s (Idles idle) = []
delivered_events items s Configures = []
delivered_events items s Halts = abort_events items s
delivered_events items s Clears = abort_events items s
delivered_events items s Resets = reset_events items s

-- The events of a list of bus events, one after another.
abbrev pub events_of_history : List Item → LinkState → List BusEvent → List Event
events_of_history items s [] = []
events_of_history items s (x ∷ bus_events) =
    delivered_events items s x ++ events_of_history items (state_after items s x) bus_events
