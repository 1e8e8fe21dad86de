-- As many interrupt transfers as packets bring a gadget and its receiver to rest.
use Rattle.std.proofs.Common.{◌≡◌, ◌≢◌, ◌≤◌, ℕ, true, false, List, [], ◌∷◌, length, ap, ◌∙◌, arith}
use Rattle.hid_layout.specs.Controls.{items_of}
use Rattle.hid_snapshots.specs.declared.control_state.ControlState.{ControlState}
use Rattle.hid_bus.specs.Rounds.{OwnStep}
use Rattle.hid_bus.specs.LinkState.{LinkState, initial_link}
use Rattle.hid_bus.specs.DeviceHistory.{steps_as_events}
use Rattle.hid_bus.proofs.ScheduleLemmas.{epoch_halts}
use Rattle.hid_usages.specs.Receiving.{ReceiverState}
use Rattle.hid_device.specs.Core.{CoreState}
use Rattle.hid_gadget.specs.ReceivedReports.{AreInStep, Asks, GadgetStep, bus_events, core_after_step, core_after_steps, link_with, new_receiver, polls_of, receiver_after_step, receiver_after_steps}
use Rattle.hid_gadget.specs.Agreement.{AreStillSteps, NoneTooSmall, RestsAfterAsMany, asks, packets_asked}
use Rattle.hid_gadget.specs.WholeReports.{pieces_taken, report_result}
use Rattle.hid_gadget.proofs.AgreementLemmas.{AfterSteps, after_steps}
use Rattle.hid_gadget.proofs.ReceiveLemmas.{own_within, step_in_step}
use Rattle.hid_gadget.proofs.RestLemmas.{rests_after_transfers, some_packets}

asks_still : (core : CoreState) (rooms : List ℕ) → AreStillSteps core (asks rooms)
asks_still core [] = tt
asks_still core (room ∷ rooms) = (tt, asks_still (core_after_step core (Asks room)) rooms)

all_counted : (core : CoreState) (rooms : List ℕ) (receiving : ReceiverState) → AreInStep core receiving → core.halted ≡ false
    → NoneTooSmall core rooms → length rooms ≤ packets_asked core (asks rooms)
all_counted core [] receiving stands going fits = omega arith
all_counted core (room ∷ rooms) receiving stands going fits =
    let polls : List OwnStep = polls_of (report_result core room) (pieces_taken core room) in
    let one = step_in_step core (Asks room) receiving stands (own_within polls) in
    let next : CoreState = core_after_step core (Asks room) in
    let goes : next.halted ≡ false =
    ap (λ (s : LinkState). s.halted) one.stands
    ∙ epoch_halts (items_of core.layout) (steps_as_events polls) (link_with core receiving.view) (own_within polls) ∙ going in
    let more = all_counted next rooms (receiver_after_step core (Asks room) receiving) one.in_step goes fits.1 in
    omega (arith, more, some_packets core room going fits.0)

pub rests_after_as_many : (core : CoreState) (snapshot : List ControlState) (idle : List ℕ) (earlier : List GadgetStep) (rooms : List ℕ)
    → RestsAfterAsMany core snapshot idle earlier rooms
rests_after_as_many core snapshot idle earlier rooms fresh sendable within fits enough =
    let after : AfterSteps core snapshot idle earlier = after_steps core snapshot idle earlier fresh within in
    let now : CoreState = core_after_steps core earlier in
    let seen : ReceiverState = receiver_after_steps core earlier (new_receiver core.layout) in
    let goes : now.halted ≡ false =
    ap (λ (s : LinkState). s.halted) after.stands
    ∙ epoch_halts (items_of core.layout) (bus_events core earlier) (initial_link (items_of core.layout) snapshot idle) within in
    rests_after_transfers core snapshot idle earlier (asks rooms) fresh sendable within (asks_still now rooms)
    (omega (arith, enough, all_counted now rooms seen after.in_step goes fits))
