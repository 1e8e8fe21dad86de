-- A gadget whose reports a reader reads, each whole (USB 2.0, 8.5.4; HID 1.11, 5.6 and 8).
use Rattle.std.specs.Prelude.{◌≡◌, ℕ, ◌≤◌, List, [], ◌∷◌, ◌++◌, None}
use Rattle.hid_layout.specs.Layout.{Contents}
use Rattle.hid_layout.specs.Reports.{report_bytes}
use Rattle.hid_snapshots.specs.declared.control_state.ControlState.{ControlState}
use Rattle.hid_snapshots.specs.declared.event.Event.{Event}
use Rattle.hid_snapshots.specs.Parts.{IsInput}
use Rattle.hid_usages.specs.Receiving.{ReceiverState, events_of_report, view_after_report}
use Rattle.hid_device.specs.Core.{CoreState}
use Rattle.hid_gadget.specs.declared.outcomes.Poll.{Poll}
use Rattle.hid_gadget.specs.declared.outcomes.Poll.TheVariants.{Done, Nothing, Stalled, TooSmall}
use Rattle.hid_gadget.specs.WholeReports.{bytes_taken, report_result}
use Rattle.hid_gadget.specs.ReceivedReports.{Asks, Changes, Frame, GadgetStep, Transfers, core_after_step, core_after_steps, events_received, receiver_after_steps}

-- a room holds each Input report of a layout
abbrev pub HoldsEach : Contents → ℕ → Type 0
HoldsEach layout room = (r : ℕ) → IsInput layout r → report_bytes layout r ≤ room

-- a report that is asked for has room for each report
abbrev pub IsWholeStep : Contents → GadgetStep → Type 0
IsWholeStep layout (Changes change) = Unit {0}
IsWholeStep layout Frame = Unit {0}
IsWholeStep layout (Asks room) = HoldsEach layout room
IsWholeStep layout (Transfers setup written) = Unit {0}

-- Each report that is asked for comes whole.
abbrev pub AreWhole : Contents → List GadgetStep → Type 0
AreWhole layout [] = Unit {0}
AreWhole layout (step ∷ rest) = IsWholeStep layout step × AreWhole layout rest

-- the view of a reader after an interrupt transfer that ends so, with these bytes: what is done is read as a report
abbrev pub view_after : Contents → Poll → List ℕ → List ControlState → List ControlState
view_after layout (Done n) bytes view = view_after_report layout bytes view
view_after layout Nothing bytes view = view
view_after layout Stalled bytes view = view
view_after layout TooSmall bytes view = view

-- the events that it gives then
abbrev pub events_of_end : Contents → Poll → List ℕ → List ControlState → List Event
events_of_end layout (Done n) bytes view = events_of_report layout bytes view
events_of_end layout Nothing bytes view = []
events_of_end layout Stalled bytes view = []
events_of_end layout TooSmall bytes view = []

-- the view of a reader after a step of its gadget
abbrev pub view_after_step : CoreState → GadgetStep → List ControlState → List ControlState
view_after_step core (Changes change) view = view
view_after_step core Frame view = view
view_after_step core (Asks room) view = view_after core.layout (report_result core room) (bytes_taken core room) view
view_after_step core (Transfers setup written) view = view

-- the events of a step of a gadget: those of a report that is read
abbrev pub events_of_step : CoreState → GadgetStep → List ControlState → List Event
events_of_step core (Changes change) view = []
events_of_step core Frame view = []
events_of_step core (Asks room) view = events_of_end core.layout (report_result core room) (bytes_taken core room) view
events_of_step core (Transfers setup written) view = []

-- the view of a reader after a list of steps of its gadget
abbrev pub view_read : CoreState → List GadgetStep → List ControlState → List ControlState
view_read core [] view = view
view_read core (step ∷ rest) view = view_read (core_after_step core step) rest (view_after_step core step view)

-- The events that a reader makes of the reports of a gadget, each of which it reads as it comes.
abbrev pub events_read : CoreState → List GadgetStep → List ControlState → List Event
events_read core [] view = []
events_read core (step ∷ rest) view =
    events_of_step core step view
    ++ events_read (core_after_step core step) rest (view_after_step core step view)

-- a receiver with this view, to which nothing came of a report
abbrev pub receiver_of : Contents → List ControlState → ReceiverState
receiver_of layout view = record { layout = layout; view = view; collected = [] }

-- A reader gives what a receiver gives of the reports of a gadget, and sees what it sees, and no round is open after them.
-- Example: a press, a report and a release, a report: down 07:04, up 07:04
pub record ReadsAlike (core : CoreState) (gadget_steps : List GadgetStep) (view : List ControlState) : Type 0 where
  pub events : events_read core gadget_steps view ≡ events_received core gadget_steps (receiver_of core.layout view)
  pub sees : view_read core gadget_steps view
      ≡ (receiver_after_steps core gadget_steps (receiver_of core.layout view)).view
  pub no_round : (core_after_steps core gadget_steps).current ≡ None
