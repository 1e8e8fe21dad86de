-- A gadget whose reports a receiver reads, with any room for them: the rounds of its polls (USB 2.0, 5.7.3 and 8.5.4; HID
-- 1.11, 5.6 and 8).
use Rattle.std.specs.Prelude.{◌≡◌, ℕ, ◌*◌, true, false, not, ◌&&◌, if◌then◌else◌, List, [], ◌∷◌, ◌++◌, take, replicate, Option, Some, None}
use Rattle.std.specs.List.{filter}
use Rattle.std.specs.Option.{option_map}
use Rattle.hid_layout.specs.Layout.{Contents}
use Rattle.hid_layout.specs.Controls.{Item, items_of}
use Rattle.hid_snapshots.specs.declared.change.Change.{Change}
use Rattle.hid_snapshots.specs.declared.control_state.ControlState.{ControlState}
use Rattle.hid_snapshots.specs.declared.event.Event.{Event}
use Rattle.hid_snapshots.specs.ControlStates.{FitsView, blank}
use Rattle.hid_snapshots.specs.PartBytes.{part_bytes}
use Rattle.hid_snapshots.specs.Pieces.{pieces_of}
use Rattle.hid_usages.specs.Receiving.{ReceiverState, after_packet, events_with}
use Rattle.usb_transact.specs.declared.transaction.Fate.TheVariants.{Clean, ReplyLost}
use Rattle.usb_control.specs.declared.setup.Setup.{Setup}
use Rattle.usb_control.specs.SetupBytes.{reads, setup_of}
use Rattle.hid_bus.specs.ReportState.{initial_reports}
use Rattle.hid_bus.specs.Rounds.{OwnStep, crossed_rounds, events_of_rounds, has_crossed, initial_history}
use Rattle.hid_bus.specs.Rounds as steps
use Rattle.hid_bus.specs.LinkState.{LinkState, OpenRound}
use Rattle.hid_bus.specs.DeviceHistory.{BusEvent, Own, Idles, Configures, ended_rounds, events_of_history, outcomes_of_events, state_after_all, steps_as_events}
use Rattle.hid_bus.specs.DeviceHistory as bus
use Rattle.hid_device.specs.declared.decisions.PendingWrite.{PendingWrite}
use Rattle.hid_device.specs.declared.decisions.PendingWrite.TheVariants as pendings
use Rattle.hid_device.specs.Core.{CoreState, IsSound, changed_core, framed_core}
use Rattle.hid_device.specs.RequestTable.{core_table, with_idle_time}
use Rattle.hid_gadget.specs.declared.outcomes.Poll.{Poll}
use Rattle.hid_gadget.specs.declared.outcomes.Poll.TheVariants.{Done, Nothing, Stalled, TooSmall}
use Rattle.hid_gadget.specs.WholeTransfers.{after_transfer}
use Rattle.hid_gadget.specs.WholeReports.{bytes_taken, core_after_report, pieces_taken, report_result}

-- What happens to a gadget: a control changes, a frame passes, a report is asked for, with room for so many bytes, or a
-- control transfer comes, with the data of a write.
pub data GadgetStep : Type 0 where
  Changes : Change → GadgetStep
  Frame : GadgetStep
  Asks : (room : ℕ) → GadgetStep
  Transfers : (setup : Setup) → (written : List ℕ) → GadgetStep

-- the core of a gadget after a step
abbrev pub core_after_step : CoreState → GadgetStep → CoreState
core_after_step core (Changes change) = changed_core core change
core_after_step core Frame = framed_core core
core_after_step core (Asks room) = core_after_report core room
core_after_step core (Transfers setup written) = after_transfer core_table core setup written

-- the core of a gadget after a list of steps
abbrev pub core_after_steps : CoreState → List GadgetStep → CoreState
core_after_steps core [] = core
core_after_steps core (step ∷ rest) = core_after_steps (core_after_step core step) rest

-- ---- the receiver

-- A receiver after an interrupt transfer that ends so, with these bytes: what is done it takes as a packet, of an endpoint
-- whose full packets have 64 bytes.
abbrev pub receiver_after : Poll → List ℕ → ReceiverState → ReceiverState
receiver_after (Done n) bytes receiving = after_packet 64 receiving bytes
receiver_after Nothing bytes receiving = receiving
receiver_after Stalled bytes receiving = receiving
receiver_after TooSmall bytes receiving = receiving

-- the events that it gives then
abbrev pub events_after : Poll → List ℕ → ReceiverState → List Event
events_after (Done n) bytes receiving = events_with 64 receiving bytes
events_after Nothing bytes receiving = []
events_after Stalled bytes receiving = []
events_after TooSmall bytes receiving = []

-- the receiver after a step of its gadget
abbrev pub receiver_after_step : CoreState → GadgetStep → ReceiverState → ReceiverState
receiver_after_step core (Changes change) receiving = receiving
receiver_after_step core Frame receiving = receiving
receiver_after_step core (Asks room) receiving =
    receiver_after (report_result core room) (bytes_taken core room) receiving
receiver_after_step core (Transfers setup written) receiving = receiving

-- the events that it gives at a step of its gadget
abbrev pub events_at_step : CoreState → GadgetStep → ReceiverState → List Event
events_at_step core (Changes change) receiving = []
events_at_step core Frame receiving = []
events_at_step core (Asks room) receiving = events_after (report_result core room) (bytes_taken core room) receiving
events_at_step core (Transfers setup written) receiving = []

-- the receiver after a list of steps of its gadget
abbrev pub receiver_after_steps : CoreState → List GadgetStep → ReceiverState → ReceiverState
receiver_after_steps core [] receiving = receiving
receiver_after_steps core (step ∷ rest) receiving =
    receiver_after_steps (core_after_step core step) rest (receiver_after_step core step receiving)

-- The events that a receiver makes of the reports of a gadget, one after another.
abbrev pub events_received : CoreState → List GadgetStep → ReceiverState → List Event
events_received core [] receiving = []
events_received core (step ∷ rest) receiving =
    events_at_step core step receiving
    ++ events_received (core_after_step core step) rest (receiver_after_step core step receiving)

-- a receiver of reports of a layout, of which nothing came yet
abbrev pub new_receiver : Contents → ReceiverState
new_receiver layout = record { layout = layout; view = blank (items_of layout); collected = [] }

-- ---- the rounds

-- The polls of an interrupt transfer that ends so, and that takes so many pieces: for each piece one of which nothing is
-- lost; one that is answered with NAK or STALL; or one whose data are lost, where no piece has room.
abbrev pub polls_of : Poll → ℕ → List OwnStep
polls_of (Done n) count = replicate count (steps.Polls Clean)
polls_of Nothing count = steps.Polls Clean ∷ []
polls_of Stalled count = steps.Polls Clean ∷ []
polls_of TooSmall count = steps.Polls ReplyLost ∷ []

-- the write that a control transfer carries out, if it carries one out
abbrev pub write_of_transfer : CoreState → Setup → PendingWrite
write_of_transfer core setup =
    if core_table.accepts core setup && not (reads setup) then (core_table.prepared core setup).pending
    else pendings.Nothing

-- a write as what happens to the rounds of a device with these idle times: a report or a protocol that is set is nothing to
-- them
abbrev pub events_of_write : List ℕ → PendingWrite → List BusEvent
events_of_write idle pendings.Nothing = []
events_of_write idle pendings.Configure = Configures ∷ []
events_of_write idle (pendings.Keep place) = []
events_of_write idle (pendings.Idle report time) = Idles (with_idle_time idle report time) ∷ []
events_of_write idle (pendings.Protocol protocol) = []
events_of_write idle pendings.Halt = bus.Halts ∷ []
events_of_write idle pendings.Clear = bus.Clears ∷ []

-- a step of a gadget as what happens to its rounds
abbrev pub bus_events_of : CoreState → GadgetStep → List BusEvent
bus_events_of core (Changes change) = Own (steps.Changes change) ∷ []
bus_events_of core Frame = Own steps.Frame ∷ []
bus_events_of core (Asks room) = steps_as_events (polls_of (report_result core room) (pieces_taken core room))
bus_events_of core (Transfers setup written) = events_of_write core.reports.idle (write_of_transfer core setup)

-- The steps of a gadget as what happens to its rounds: a report that is asked for is its polls, and a control transfer is
-- something only where its write sets an idle time, configures the device, or halts or clears its endpoint.
abbrev pub bus_events : CoreState → List GadgetStep → List BusEvent
bus_events core [] = []
bus_events core (step ∷ rest) = bus_events_of core step ++ bus_events (core_after_step core step) rest

-- the open round of a gadget: no piece crosses that isn't acknowledged
abbrev pub open_round_with : List Item → Option ℕ → ℕ → Option OpenRound
open_round_with items current piece =
    option_map (λ r. record { report = r; pieces = pieces_of items r; piece = piece; crossed = false }) current

-- A gadget and the view of its reader, as the link state of a device and its host.
abbrev pub link_with : CoreState → List ControlState → LinkState
link_with core view = record {
  reports = core.reports;
  current = open_round_with (items_of core.layout) core.current core.piece;
  toggle = core.toggle;
  view = view;
  halted = core.halted;
}

-- the bytes that came of the open round, if one is open: its pieces before the one that goes out
abbrev pub bytes_before : CoreState → Option ℕ → List ℕ
bytes_before core None = []
bytes_before core (Some r) = take (64 * core.piece) (part_bytes core.layout r core.reports.fixed)

-- A configured gadget with the receiver of its reports: that has its layout, a view that suits it, and what came of the
-- round that is open.
pub record AreInStep (core : CoreState) (receiving : ReceiverState) : Type 0 where
  pub sound : IsSound core
  pub configured : core.is_configured ≡ true
  pub layout : receiving.layout ≡ core.layout
  pub fits : FitsView (items_of core.layout) receiving.view
  pub collected : receiving.collected ≡ bytes_before core core.current

-- What a receiver gives of the reports of a gadget is the events of the history of its rounds, and both stand after it as
-- that says. Example: a press, and a report of 100 bytes with room for 64, and again: the event comes with the second
pub record GivesEvents (core : CoreState) (gadget_steps : List GadgetStep) (receiving : ReceiverState) : Type 0 where
  pub events : events_received core gadget_steps receiving
      ≡ events_of_history (items_of core.layout) (link_with core receiving.view) (bus_events core gadget_steps)
  pub stands : link_with (core_after_steps core gadget_steps) (receiver_after_steps core gadget_steps receiving).view
      ≡ state_after_all (items_of core.layout) (link_with core receiving.view) (bus_events core gadget_steps)
  pub in_step : AreInStep (core_after_steps core gadget_steps) (receiver_after_steps core gadget_steps receiving)

-- a gadget that was just configured, with this snapshot and these idle times
pub record IsFresh (core : CoreState) (snapshot : List ControlState) (idle : List ℕ) : Type 0 where
  pub sound : IsSound core
  pub configured : core.is_configured ≡ true
  pub going : core.halted ≡ false
  pub no_round : core.current ≡ None
  pub reports : core.reports ≡ initial_reports (items_of core.layout) snapshot idle
  pub toggle : core.toggle ≡ false

-- the events of the rounds that cross while these bus events happen to a device that was just configured
abbrev pub events_of_crossed : List Item → List ControlState → List ℕ → List BusEvent → List Event
events_of_crossed items snapshot idle bus_events =
    events_of_rounds items (blank items)
    (filter has_crossed (ended_rounds (outcomes_of_events items bus_events (initial_history items snapshot idle))))

-- SET_CONFIGURATION of configuration 1 (USB 2.0, 9.4.7)
abbrev pub set_configuration_1 : Setup
set_configuration_1 = setup_of (0x00 ∷ 0x09 ∷ 0x01 ∷ 0x00 ∷ 0x00 ∷ 0x00 ∷ 0x00 ∷ 0x00 ∷ [])
