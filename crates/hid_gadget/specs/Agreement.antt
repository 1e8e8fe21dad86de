-- When a gadget and the receiver of its reports agree, and how soon (USB 2.0, 5.7.4, 8.4.6 and 8.5.4; our choice).
use Rattle.std.specs.Prelude.{◌≡◌, ◌≢◌, ◌≤◌, ◌+◌, ℕ, List, [], ◌∷◌, length}
use Rattle.hid_layout.specs.Controls.{items_of}
use Rattle.hid_snapshots.specs.declared.control_state.ControlState.{ControlState}
use Rattle.hid_usages.specs.Receiving.{ReceiverState}
use Rattle.hid_bus.specs.ReportState.{no_idle}
use Rattle.hid_bus.specs.Agreement.{Agrees}
use Rattle.hid_bus.specs.Convergence.{AreSendable, polls_needed}
use Rattle.hid_bus.specs.DeviceHistory.{AreWithinEpoch}
use Rattle.hid_device.specs.Core.{CoreState}
use Rattle.hid_gadget.specs.declared.outcomes.Poll.{Poll}
use Rattle.hid_gadget.specs.declared.outcomes.Poll.TheVariants.{Done, Nothing, Stalled, TooSmall}
use Rattle.hid_gadget.specs.WholeReports.{pieces_taken, report_result}
use Rattle.hid_gadget.specs.ReceivedReports.{Asks, Changes, Frame, GadgetStep, IsFresh, Transfers, bus_events, bus_events_of, core_after_step, core_after_steps, link_with, new_receiver, receiver_after_steps}

-- If an interrupt transfer would now return `Nothing`, which is NAK on the bus, the receiver has what is pressed at the
-- gadget and each value, and no motion is left to report.
abbrev pub AgreesAtNothing : CoreState → List ControlState → Type 0
AgreesAtNothing core view =
    (room : ℕ) → report_result core room ≡ Nothing → Agrees (items_of core.layout) (link_with core view)

-- No key is left stuck: a gadget that was just configured and a new receiver agree so after any steps within the epoch.
abbrev pub AgreesAfterSteps : CoreState → List ControlState → List ℕ → List GadgetStep → Type 0
AgreesAfterSteps core snapshot idle steps =
    IsFresh core snapshot idle → AreWithinEpoch (bus_events core steps)
    → AgreesAtNothing (core_after_steps core steps) (receiver_after_steps core steps (new_receiver core.layout)).view

-- ---- coming to rest

-- nothing changes at a step: it is an interrupt transfer; a frame, if no report has an idle time; or a control transfer that
-- sets no idle time, and neither configures the gadget nor halts or clears its endpoint.
abbrev pub IsStillStep : CoreState → GadgetStep → Type 0
IsStillStep core (Changes change) = ⊥
IsStillStep core Frame = core.reports.idle ≡ no_idle core.reports.idle
IsStillStep core (Asks room) = Unit {0}
IsStillStep core (Transfers setup written) = bus_events_of core (Transfers setup written) ≡ []

-- nothing changes at any of these steps
abbrev pub AreStillSteps : CoreState → List GadgetStep → Type 0
AreStillSteps core [] = Unit {0}
AreStillSteps core (step ∷ rest) = IsStillStep core step × AreStillSteps (core_after_step core step) rest

-- the packets that a gadget needs to send all that it has
abbrev pub packets_needed : CoreState → ℕ
packets_needed core = polls_needed (items_of core.layout) (link_with core [])

-- What an interrupt transfer with this result counts for, if it takes so many packets: for these; for one if it finds nothing
-- to report; and for none if its room is too small or the endpoint is halted.
abbrev pub packets_counted : Poll → ℕ → ℕ
packets_counted (Done n) packets = packets
packets_counted Nothing packets = 1
packets_counted TooSmall packets = 0
packets_counted Stalled packets = 0

-- what a step counts for
abbrev pub packets_at : CoreState → GadgetStep → ℕ
packets_at core (Asks room) = packets_counted (report_result core room) (pieces_taken core room)
packets_at core (Changes change) = 0
packets_at core Frame = 0
packets_at core (Transfers setup written) = 0

-- what the interrupt transfers among these steps count for. Example: 3 for a report of 100 bytes in one of 100, and one
-- that finds nothing to report
abbrev pub packets_asked : CoreState → List GadgetStep → ℕ
packets_asked core [] = 0
packets_asked core (step ∷ rest) = packets_at core step + packets_asked (core_after_step core step) rest

-- An interrupt transfer returns `Nothing`, whatever its room, and the receiver has what is pressed at the gadget and each
-- value, and no motion is left to report.
abbrev pub RestsWith : CoreState → List ControlState → Type 0
RestsWith core view =
    ((room : ℕ) → report_result core room ≡ Nothing) × Agrees (items_of core.layout) (link_with core view)

-- Gadgets come to rest: after any steps within the epoch of a gadget that was just configured, with a new receiver, once
-- nothing changes any more, both are at rest after interrupt transfers that count for as many packets as the gadget needs.
abbrev pub RestsAfterTransfers : CoreState → List ControlState → List ℕ → List GadgetStep → List GadgetStep → Type 0
RestsAfterTransfers core snapshot idle earlier later =
    let now : CoreState = core_after_steps core earlier in
    let receiving : ReceiverState = receiver_after_steps core earlier (new_receiver core.layout) in
    IsFresh core snapshot idle → AreSendable (items_of core.layout) snapshot → AreWithinEpoch (bus_events core earlier)
    → AreStillSteps now later → packets_needed now ≤ packets_asked now later
    → RestsWith (core_after_steps now later) (receiver_after_steps now later receiving).view

-- interrupt transfers with these rooms, one after the other
abbrev pub asks : List ℕ → List GadgetStep
asks [] = []
asks (room ∷ rooms) = Asks room ∷ asks rooms

-- none of these rooms is too small for the first packet that its transfer finds
abbrev pub NoneTooSmall : CoreState → List ℕ → Type 0
NoneTooSmall core [] = Unit {0}
NoneTooSmall core (room ∷ rooms) =
    (report_result core room ≢ TooSmall) × NoneTooSmall (core_after_step core (Asks room)) rooms

-- As many interrupt transfers as the gadget needs packets bring both to rest too, if no room is too small.
abbrev pub RestsAfterAsMany : CoreState → List ControlState → List ℕ → List GadgetStep → List ℕ → Type 0
RestsAfterAsMany core snapshot idle earlier rooms =
    let now : CoreState = core_after_steps core earlier in
    let receiving : ReceiverState = receiver_after_steps core earlier (new_receiver core.layout) in
    IsFresh core snapshot idle → AreSendable (items_of core.layout) snapshot → AreWithinEpoch (bus_events core earlier)
    → NoneTooSmall now rooms → packets_needed now ≤ length rooms
    → RestsWith (core_after_steps now (asks rooms)) (receiver_after_steps now (asks rooms) receiving).view
