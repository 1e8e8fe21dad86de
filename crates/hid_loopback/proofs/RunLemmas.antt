-- A driver gives the events of its gadget's rounds.
use Rattle.std.proofs.Common.{◌≡◌, refl, sym, ◌∙◌, ap, subst, ℕ, zero, suc, ◌+◌, ◌*◌, ◌-◌, ◌%◌, ◌<◌, ◌≤◌, Bool, true, false, not, ◌&&◌, ◌||◌, cond, List, [], ◌∷◌, ◌++◌, length, take, map, Option, Some, None, Result, arith}
use Rattle.std.specs.Prelude.{max, min, nat_le, nat_lt, ◌==◌, if◌then◌else◌, option_map}
use Rattle.std.proofs.Math.Nat.{le-max_left}
use Rattle.std.proofs.Math.Seq.{take-add}
use Rattle.std.proofs.lemmas.Bool.Decides.{nat_tests}
use Rattle.std.proofs.lemmas.List.{length-drop, length-take, length-take-le, map-append}
use Rattle.hid_report_descriptor.specs.declared.limits.TheConstants.{MAX_REPORT_BYTES}
use Rattle.hid_layout.specs.Controls.{items_of}
use Rattle.hid_layout.specs.Layout.{Contents}
use Rattle.hid_layout.specs.Reports.{report_bytes}
use Rattle.hid_snapshots.specs.declared.control_state.ControlState.{ControlState}
use Rattle.hid_snapshots.specs.declared.event.Event.{Event}
use Rattle.hid_snapshots.specs.ControlStates.{FitsView}
use Rattle.hid_snapshots.specs.PartBytes.{part_bytes}
use Rattle.hid_usages.specs.Reading.{first_byte, report_begun}
use Rattle.hid_usages.specs.Receiving.{ReceiverState, after_packet, bytes_with, events_of_report, events_with, is_whole, view_after_report, without_collected}
use Rattle.hid_interfaces.specs.declared.interface.InterfaceInfo.{InterfaceInfo}
use Rattle.hid_bus.specs.ReportState.{due_where, no_idle}
use Rattle.hid_bus.specs.Convergence.{AreSendable}
use Rattle.hid_bus.specs.Rounds.{OwnStep, events_of_epoch}
use Rattle.hid_bus.specs.LinkState.{LinkState}
use Rattle.hid_bus.specs.DeviceHistory.{AreWithinEpoch, state_after_all, steps_as_events}
use Rattle.hid_device.specs.declared.decisions.PendingWrite.{PendingWrite}
use Rattle.hid_device.specs.declared.decisions.PendingWrite.TheVariants as pendings
use Rattle.hid_device.specs.Core.{CoreState, IsSound, core_after_due, core_at_poll, core_with_due_round}
use Rattle.hid_driver.specs.declared.fault.DriverFault.{DriverFault}
use Rattle.hid_driver.specs.declared.interface.Interface.{Interface}
use Rattle.hid_driver.specs.declared.outcome.DriverEvent.{DriverEvent}
use Rattle.hid_driver.specs.declared.outcome.Outcome.{Outcome}
use Rattle.hid_driver.specs.declared.outcome.Outcome.TheVariants as outcomes
use Rattle.hid_driver.specs.Driver.{DriverValue, driver_after_report, report_events}
use Rattle.hid_driver.specs.Pipe.{PipeState, event_of, has_packet_past, is_full, is_long, length_begun, pipe_after_transfer, pipe_of_receiver, report_end, size_with, transfer_ends, transfer_events}
use Rattle.hid_driver.specs.VirtualDevices.{IsOutcome, ready_for, virtual_interface}
use Rattle.hid_driver.proofs.CutLemmas.{report_begins, same_first}
use Rattle.hid_driver.proofs.PipeLemmas.{ends_same}
use Rattle.hid_gadget.specs.declared.outcomes.Poll.{Poll}
use Rattle.hid_gadget.specs.declared.outcomes.Poll.TheVariants.{Done, Nothing, Stalled, TooSmall}
use Rattle.hid_gadget.specs.WholeReports.{bytes_fitting, bytes_left, bytes_taken, core_after_poll, core_after_polls, end_of_pieces, end_of_round, fitting_pieces, pieces_taken, report_result}
use Rattle.hid_gadget.specs.ReceivedReports.{AreInStep, Asks, Changes, Frame, GadgetStep, Transfers, bus_events, bus_events_of, bytes_before, core_after_step, core_after_steps, events_after, events_at_step, events_of_crossed, events_of_write, events_received, link_with, new_receiver, receiver_after, receiver_after_step, receiver_after_steps, write_of_transfer}
use Rattle.hid_gadget.specs.Agreement.{AgreesAtNothing, RestsWith}
use Rattle.hid_gadget.proofs.AgreementLemmas.{agrees_after_steps}
use Rattle.hid_gadget.proofs.RestLemmas.{rests_after_transfers, still_within}
use Rattle.hid_gadget.proofs.ReceiveLemmas.{OpenFacts, fresh_in_step, gives_events, gives_rounds, gives_schedule, open_facts, own_within, step_in_step, within_parts}
use Rattle.hid_gadget.proofs.SoundLemmas.{at_poll_layout, sound_at_poll}
use Rattle.hid_loopback.specs.BringUp.{core_brought_up, device_of}
use Rattle.hid_loopback.specs.InterruptTransfers.{Hears}
use Rattle.hid_loopback.specs.Runs.{Delivers, DriverAgrees, DriverComesToRest, IsBeside, Runs, RunsStep, live_interface}
use Rattle.hid_loopback.proofs.BringUpLemmas.{fresh_up, layout_up}

-- ---- a transfer that the driver receives as a receiver of packets does

-- it isn't too long, and its report ends where a packet of 64 bytes ends it
record TakesAlike (receiving : ReceiverState) (bytes : List ℕ) : Type 0 where
  short : is_long (pipe_of_receiver 64 receiving) bytes ≡ false
  ends : is_whole (size_with (pipe_of_receiver 64 receiving) bytes) receiving.layout (bytes_with receiving bytes) (length bytes)
      ≡ is_whole 64 receiving.layout (bytes_with receiving bytes) (length bytes)

-- a receiver after bytes, by whether their report ends with them
abbrev taken_by : ReceiverState → List ℕ → Bool → ReceiverState
taken_by receiving bytes ends = record receiving {
  view = if ends then view_after_report receiving.layout (bytes_with receiving bytes) receiving.view else receiving.view;
  collected = if ends then [] else bytes_with receiving bytes;
}

abbrev told_by : ReceiverState → List ℕ → Bool → List Event
told_by receiving bytes ends = if ends then events_of_report receiving.layout (bytes_with receiving bytes) receiving.view else []

-- the sizes are those of a full packet
abbrev size_of : ReceiverState → List ℕ → ℕ
size_of receiving bytes = size_with (pipe_of_receiver 64 receiving) bytes

pipe_alike : (receiving : ReceiverState) (bytes : List ℕ) → TakesAlike receiving bytes
    → pipe_after_transfer (pipe_of_receiver 64 receiving) bytes ≡ pipe_of_receiver 64 (after_packet 64 receiving bytes)
pipe_alike receiving bytes alike =
    ap (λ (b : Bool). pipe_of_receiver 64 (cond b (without_collected receiving) (after_packet (size_of receiving bytes) receiving bytes))) alike.short
    ∙ ap (λ (b : Bool). pipe_of_receiver 64 (taken_by receiving bytes b)) alike.ends

events_alike : (receiving : ReceiverState) (bytes : List ℕ) → TakesAlike receiving bytes
    → transfer_events (pipe_of_receiver 64 receiving) bytes ≡ events_with 64 receiving bytes
events_alike receiving bytes alike =
    ap (λ (b : Bool). let es : List Event = cond b [] (events_with (size_of receiving bytes) receiving bytes) in es) alike.short
    ∙ ap (told_by receiving bytes) alike.ends

-- what the driver is then, and the events that it gave
record StepsTo (info : InterfaceInfo) (seen : ReceiverState) (given : List Event) (later : DriverValue) (events : List DriverEvent)
    : Type 0 where
  interface : later.interfaces ≡ live_interface info seen ∷ []
  gives : events ≡ map (event_of 0) given

-- the driver with these interfaces
abbrev with_interfaces : DriverValue → List Interface → DriverValue
with_interfaces driver interfaces = record driver { interfaces = interfaces }

takes_as : (info : InterfaceInfo) (receiving : ReceiverState) (bytes : List ℕ) (driver : DriverValue) (outcome : Outcome)
    → driver.interfaces ≡ live_interface info receiving ∷ [] → TakesAlike receiving bytes → IsOutcome (Some bytes) outcome
    → StepsTo info (after_packet 64 receiving bytes) (events_with 64 receiving bytes) (driver_after_report driver 0 outcome) (report_events driver 0 outcome)
takes_as info receiving bytes driver (outcomes.Done slice) is alike comes =
    let pipe : PipeState = pipe_of_receiver 64 receiving in
    record {
      interface = ap (λ (xs : List Interface). (driver_after_report (with_interfaces driver xs) 0 (outcomes.Done slice)).interfaces) is
          ∙ ap (λ (bs : List ℕ). live_interface info (pipe_after_transfer pipe bs).receiving ∷ []) comes
          ∙ ap (λ (p : PipeState). live_interface info p.receiving ∷ []) (pipe_alike receiving bytes alike);
      gives = ap (λ (xs : List Interface). report_events (with_interfaces driver xs) 0 (outcomes.Done slice)) is
          ∙ ap (λ (bs : List ℕ). map (event_of 0) (transfer_events pipe bs)) comes
          ∙ ap (map (event_of 0)) (events_alike receiving bytes alike);
    }
takes_as info receiving bytes driver outcomes.Stalled is alike comes = absurd comes
takes_as info receiving bytes driver outcomes.Failed is alike comes = absurd comes

-- ---- the bytes that a gadget gives

either_way : (a b : Bool) → b ≡ true → (a || b) ≡ true
either_way true b is = refl
either_way false b is = is

-- both tests of an end agree where the report has its last byte, or where the transfer is of full packets
ends_by : (short full whole : Bool) → (whole ≡ false → (full ≡ true) × (short ≡ false)) → (not full || whole) ≡ (short || whole)
ends_by short full true full_when = either_way (not full) true refl ∙ sym (either_way short true refl)
ends_by short full false full_when =
    let is = full_when refl in
    ap (λ (b : Bool). not b || false) is.0 ∙ sym (ap (λ (b : Bool). b || false) is.1)

-- bytes that begin an Input report, and end no further than it: all of it came, or full packets
record Begins (receiving : ReceiverState) (bytes : List ℕ) (r : ℕ) : Type 0 where
  begun : report_begun receiving.layout (bytes_with receiving bytes) ≡ Some r
  within : length (bytes_with receiving bytes) ≤ report_bytes receiving.layout r
  full : nat_le (report_bytes receiving.layout r) (length (bytes_with receiving bytes)) ≡ false → (is_full 64 (length bytes) ≡ true) × (nat_lt (length bytes) 64 ≡ false)

-- the length that is awaited
abbrev awaited_for : Contents → Option ℕ → ℕ
awaited_for layout o = elim o [ None ↦ MAX_REPORT_BYTES | Some k ↦ report_bytes layout k ]

begins_alike : (receiving : ReceiverState) (bytes : List ℕ) (r : ℕ) → Begins receiving bytes r → TakesAlike receiving bytes
begins_alike receiving bytes r begins =
    let layout = receiving.layout in
    let all = bytes_with receiving bytes in
    let long = report_bytes layout r in
    let awaits : length_begun layout all ≡ Some long = ap (option_map (report_bytes layout)) begins.begun in
    let least = le-max_left long 1 in
    let within = begins.within in
    let past : length all < report_end (Some long) + max 64 1 = omega (arith, least, within) in
    let none : has_packet_past 64 (Some long) (length all) ≡ false =
    (let l : nat_le (report_end (Some long) + max 64 1) (length all) ≡ false = grind (arith, nat_tests, past) in l) in
    record {
      short = ap (λ (o : Option ℕ). has_packet_past 64 o (length all)) awaits ∙ none;
      ends = ends_same 64 layout all (length bytes)
          ∙ ap (λ (o : Option ℕ). transfer_ends 64 o (length all) (length bytes)) awaits
          ∙ ends_by (nat_lt (length bytes) 64) (is_full 64 (length bytes)) (nat_le long (length all)) begins.full
          ∙ sym (ap (λ (o : Option ℕ). nat_lt (length bytes) 64 || nat_le (awaited_for layout o) (length all)) begins.begun);
    }

-- the receiver of a round of which the pieces before this one came
abbrev receiver_with : CoreState → Option ℕ → List ControlState → ReceiverState
receiver_with core current view = record { layout = core.layout; view = view; collected = bytes_before core current }

first_of : (n : ℕ) (bytes : List ℕ) → 0 < n → first_byte (take n bytes) ≡ first_byte bytes
first_of zero bytes some = absurd (omega arith)
first_of (suc n) [] some = refl
first_of (suc n) (b ∷ bytes) some = refl

full_packets : (count : ℕ) → 0 < count → is_full 64 (64 * count) ≡ true
full_packets count some =
    let any : ((64 * count) == 0) ≡ false = grind (arith, nat_tests, some) in
    let none : (64 * count) % 64 ≡ 0 = omega arith in
    ap (λ (b : Bool). not b && (((64 * count) % 64) == 0)) any ∙ ap (λ (k : ℕ). k == 0) none

-- some pieces of an open round
pieces_begin : (c : CoreState) (r room count : ℕ) (view : List ControlState) → 0 < count → OpenFacts c r room view
    → Begins (receiver_with c (Some r) view) (take (64 * count) (bytes_left c r)) r
pieces_begin c r room count view some facts =
    let part = part_bytes c.layout r c.reports.fixed in
    let receiving = receiver_with c (Some r) view in
    let taken = take (64 * count) (bytes_left c r) in
    let n = 64 * c.piece + 64 * count in
    let all : bytes_with receiving taken ≡ take n part = sym (take-add (64 * c.piece) (64 * count) part) in
    let len : length (take n part) ≡ min n (length part) = length-take n part in
    let long = facts.long in
    record {
      begun = ap (report_begun c.layout) all
          ∙ same_first c.layout (take n part) part r (first_of n part (omega (arith, some))) (report_begins c.layout part r facts.back.report);
      within = subst (λ (xs : List ℕ). length xs ≤ report_bytes c.layout r) (sym all) (omega (arith, len, long));
      full = λ not_all.
          let goes_on : nat_le (report_bytes c.layout r) (length (take n part)) ≡ false =
          subst (λ (xs : List ℕ). nat_le (report_bytes c.layout r) (length xs) ≡ false) all not_all in
          let fewer : length (take n part) < report_bytes c.layout r = grind (arith, nat_tests, goes_on) in
          let behind : n < length part = omega (arith, fewer, len, long) in
          let left : length (bytes_left c r) ≡ length part - 64 * c.piece = length-drop (64 * c.piece) part in
          let came : length taken ≡ 64 * count = length-take-le (64 * count) (bytes_left c r) (omega (arith, behind, left)) in
          let packet : 64 ≤ length taken = omega (arith, came, some) in
          (ap (is_full 64) came ∙ full_packets count some, grind (arith, nat_tests, packet));
    }

-- a transfer that is done takes a piece at least
some_pieces : (count n : ℕ) (bytes : List ℕ) → end_of_pieces count bytes ≡ Done n → 0 < count
some_pieces zero n bytes is = let wrong : TooSmall ≡ Done n = is in cc
some_pieces (suc count) n bytes is = omega arith

no_round_done : (halted : Bool) (n : ℕ) → (if halted then Stalled else Nothing) ≡ Done n → ⊥
no_round_done true n is = let wrong : Stalled ≡ Done n = is in cc
no_round_done false n is = let wrong : Nothing ≡ Done n = is in cc

-- a transfer, once a round was opened where one is due
opened_alike : (c : CoreState) (o : Option ℕ) (room n : ℕ) (view : List ControlState) → IsSound (record c { current = o })
    → FitsView (items_of c.layout) view → end_of_round room (record c { current = o }) o ≡ Done n
    → TakesAlike (receiver_with c o view) (bytes_fitting room (record c { current = o }) o)
opened_alike c None room n view sound fits done = absurd (no_round_done c.halted n done)
opened_alike c (Some r) room n view sound fits done =
    let count = fitting_pieces room (bytes_left c r) in
    let some = some_pieces count n (take (64 * count) (bytes_left c r)) done in
    begins_alike (receiver_with c (Some r) view) (take (64 * count) (bytes_left c r)) r
    (pieces_begin c r room count view some (open_facts c r room view sound fits))

-- nothing came of a round that a token opens
before_token : (c : CoreState) (o : Option ℕ)
    → bytes_before c o ≡ bytes_before (core_after_due (record c { current = o }) o) (core_after_due (record c { current = o }) o).current
before_token c (Some r) = refl
before_token c None = by_due (due_where (items_of c.layout) c.halted c.reports)
  where
    by_due : (due : Option ℕ) → []
        ≡ bytes_before (core_with_due_round (record c { current = None }) due) (core_with_due_round (record c { current = None }) due).current
    by_due None = refl
    by_due (Some r) = refl

done_alike : (core : CoreState) (room n : ℕ) (receiving : ReceiverState) → AreInStep core receiving → report_result core room ≡ Done n
    → TakesAlike receiving (bytes_taken core room)
done_alike core room n receiving stands done =
    let opened = core_at_poll core in
    let same = at_poll_layout core in
    let ended : end_of_round room opened opened.current ≡ Done n =
    sym (ap (λ (b : Bool). let end : Poll = if b then end_of_round room opened opened.current else Nothing in end) stands.configured) ∙ done in
    let taken : bytes_taken core room ≡ bytes_fitting room opened opened.current =
    ap (λ (b : Bool). let bs : List ℕ = if b then bytes_fitting room opened opened.current else [] in bs) stands.configured in
    let receiver : receiving ≡ receiver_with opened opened.current receiving.view =
    ap (λ (l : Contents). let x : ReceiverState = record receiving { layout = l } in x) (stands.layout ∙ sym same)
    ∙ ap (λ (l : List ℕ). let x : ReceiverState = record receiving { layout = opened.layout; collected = l } in x)
    (stands.collected ∙ before_token core core.current) in
    subst (λ (bs : List ℕ). TakesAlike receiving bs) (sym taken)
    (subst (λ (x : ReceiverState). TakesAlike x (bytes_fitting room opened opened.current)) (sym receiver)
    (opened_alike opened opened.current room n receiving.view (sound_at_poll core stands.sound)
    (subst (λ (l : Contents). FitsView (items_of l) receiving.view) (sym same) stands.fits) ended))

-- ---- an endpoint that isn't halted stays so

at_poll_halted : (core : CoreState) → (core_at_poll core).halted ≡ core.halted
at_poll_halted core = by_round core.current
  where
    by_due : (o : Option ℕ) → (core_with_due_round core o).halted ≡ core.halted
    by_due None = refl
    by_due (Some r) = refl

    by_round : (o : Option ℕ) → (core_after_due core o).halted ≡ core.halted
    by_round (Some r) = refl
    by_round None = by_due (due_where (items_of core.layout) core.halted core.reports)

polls_halted : (n : ℕ) (core : CoreState) → (core_after_polls n core).halted ≡ core.halted
polls_halted zero core = refl
polls_halted (suc n) core = polls_halted n (core_after_poll core) ∙ at_poll_halted core

asks_halted : (core : CoreState) (room : ℕ) → (core_after_step core (Asks room)).halted ≡ core.halted
asks_halted core room = by_configured core.is_configured
  where
    by_configured : (b : Bool) → (if b then core_after_polls (pieces_taken core room) (core_at_poll core) else core).halted ≡ core.halted
    by_configured true = polls_halted (pieces_taken core room) (core_at_poll core) ∙ at_poll_halted core
    by_configured false = refl

write_halted : (core : CoreState) (view : List ControlState) (write : PendingWrite) → AreWithinEpoch (events_of_write core.reports.idle write)
    → (state_after_all (items_of core.layout) (link_with core view) (events_of_write core.reports.idle write)).halted ≡ core.halted
write_halted core view pendings.Nothing within = refl
write_halted core view pendings.Configure within = absurd within.0
write_halted core view (pendings.Keep place) within = refl
write_halted core view (pendings.Idle report time) within = refl
write_halted core view (pendings.Protocol protocol) within = refl
write_halted core view pendings.Halt within = absurd within.0
write_halted core view pendings.Clear within = absurd within.0

step_halted : (core : CoreState) (step : GadgetStep) (receiving : ReceiverState) → AreInStep core receiving
    → AreWithinEpoch (bus_events_of core step) → (core_after_step core step).halted ≡ core.halted
step_halted core (Changes change) receiving stands within = refl
step_halted core Frame receiving stands within = refl
step_halted core (Asks room) receiving stands within = asks_halted core room
step_halted core (Transfers setup written) receiving stands within =
    ap (λ (s : LinkState). s.halted) (step_in_step core (Transfers setup written) receiving stands within).stands
    ∙ write_halted core receiving.view (write_of_transfer core setup) within

-- ---- steps

-- an endpoint that isn't halted gives no STALL
pieces_no_stall : (count : ℕ) (bytes : List ℕ) → end_of_pieces count bytes ≡ Stalled → ⊥
pieces_no_stall count bytes is = by_test (count == 0) is
  where
    by_test : (none : Bool) → (if none then TooSmall else Done (length bytes)) ≡ Stalled → ⊥
    by_test true same = let wrong : TooSmall ≡ Stalled = same in cc
    by_test false same = let wrong : Done (length bytes) ≡ Stalled = same in cc

round_no_stall : (room : ℕ) (c : CoreState) (o : Option ℕ) → c.halted ≡ false → end_of_round room c o ≡ Stalled → ⊥
round_no_stall room c None going is =
    let wrong : Nothing ≡ Stalled = sym (ap (λ (b : Bool). let end : Poll = if b then Stalled else Nothing in end) going) ∙ is in cc
round_no_stall room c (Some r) going is =
    pieces_no_stall (fitting_pieces room (bytes_left c r)) (bytes_fitting room c (Some r)) is

no_stall : (core : CoreState) (room : ℕ) → core.is_configured ≡ true → core.halted ≡ false → report_result core room ≡ Stalled → ⊥
no_stall core room configured going is =
    let opened = core_at_poll core in
    round_no_stall room opened opened.current (at_poll_halted core ∙ going)
    (sym (ap (λ (b : Bool). let end : Poll = if b then end_of_round room opened opened.current else Nothing in end) configured) ∙ is)

-- what a driver makes of a transfer, by how it ends
hears_as : (end : Poll) (bytes : List ℕ) (info : InterfaceInfo) (receiving : ReceiverState) (driver later : DriverValue)
    (told : Result (Unit {0}) DriverFault) (events : List DriverEvent) → driver.interfaces ≡ live_interface info receiving ∷ []
    → ((n : ℕ) → end ≡ Done n → TakesAlike receiving bytes) → (end ≡ Stalled → ⊥) → Hears end bytes driver told later events
    → StepsTo info (receiver_after end bytes receiving) (events_after end bytes receiving) later events
hears_as (Done n) bytes info receiving driver later told events is alike going hears =
    let takes = takes_as info receiving bytes driver hears.outcome is (alike n refl) hears.comes in
    record {
      interface = ap (λ (d : DriverValue). d.interfaces) hears.after ∙ takes.interface;
      gives = hears.gives ∙ takes.gives;
    }
hears_as Nothing bytes info receiving driver later told events is alike going hears =
    record { interface = ap (λ (d : DriverValue). d.interfaces) hears.1 ∙ is; gives = hears.2 }
hears_as Stalled bytes info receiving driver later told events is alike going hears = absurd (going refl)
hears_as TooSmall bytes info receiving driver later told events is alike going hears =
    record { interface = ap (λ (d : DriverValue). d.interfaces) hears.1 ∙ is; gives = hears.2 }

runs_step : (core : CoreState) (step : GadgetStep) (info : InterfaceInfo) (receiving : ReceiverState) (driver later : DriverValue)
    (events : List DriverEvent) → IsBeside core info receiving driver → RunsStep core step driver later events
    → StepsTo info (receiver_after_step core step receiving) (events_at_step core step receiving) later events
runs_step core (Changes change) info receiving driver later events beside quiet =
    record { interface = quiet.0 ∙ beside.interface; gives = quiet.1 }
runs_step core Frame info receiving driver later events beside quiet =
    record { interface = quiet.0 ∙ beside.interface; gives = quiet.1 }
runs_step core (Transfers setup written) info receiving driver later events beside quiet =
    record { interface = quiet.0 ∙ beside.interface; gives = quiet.1 }
runs_step core (Asks room) info receiving driver later events beside runs =
    hears_as (report_result core room) (bytes_taken core room) info receiving runs.asked later runs.told events
    (runs.keeps ∙ beside.interface) (λ n done. done_alike core room n receiving beside.in_step done)
    (no_stall core room beside.in_step.configured beside.going) runs.hears

-- ---- lists of steps

-- a driver over steps: its events are those of a receiver, and it stands as that does
record RunsAlike (core : CoreState) (info : InterfaceInfo) (receiving : ReceiverState) (gadget_steps : List GadgetStep)
    (later : DriverValue) (events : List DriverEvent) : Type 0 where
  gives : events ≡ map (event_of 0) (events_received core gadget_steps receiving)
  beside : IsBeside (core_after_steps core gadget_steps) info (receiver_after_steps core gadget_steps receiving) later

runs_alike : (core : CoreState) (info : InterfaceInfo) (receiving : ReceiverState) (gadget_steps : List GadgetStep)
    (driver later : DriverValue) (events : List DriverEvent) → IsBeside core info receiving driver
    → AreWithinEpoch (bus_events core gadget_steps) → Runs core gadget_steps driver later events
    → RunsAlike core info receiving gadget_steps later events
runs_alike core info receiving [] driver later events beside within runs = record {
  gives = runs.1;
  beside = record { interface = runs.0 ∙ beside.interface; in_step = beside.in_step; going = beside.going };
}
runs_alike core info receiving (step ∷ rest) driver later events beside within runs =
    let next = core_after_step core step in
    let seen = receiver_after_step core step receiving in
    let parts = within_parts (bus_events_of core step) (bus_events next rest) within in
    let one = runs_step core step info receiving driver runs.0 runs.1 beside runs.3 in
    let now : List Event = events_at_step core step receiving in
    let on : IsBeside next info seen runs.0 = record {
      interface = one.interface;
      in_step = (step_in_step core step receiving beside.in_step parts.0).in_step;
      going = step_halted core step receiving beside.in_step parts.0 ∙ beside.going;
    } in
    let more = runs_alike next info seen rest runs.0 later runs.2 on parts.1 runs.4 in
    record {
      gives = runs.5 ∙ ap (λ (es : List DriverEvent). es ++ runs.2) one.gives
          ∙ ap (λ (es : List DriverEvent). map (event_of 0) now ++ es) more.gives
          ∙ sym (map-append (event_of 0) now (events_received next rest seen));
      beside = more.beside;
    }

pub delivers : (core : CoreState) (info : InterfaceInfo) (receiving : ReceiverState) (gadget_steps : List GadgetStep)
    (driver later : DriverValue) (events : List DriverEvent) → IsBeside core info receiving driver
    → AreWithinEpoch (bus_events core gadget_steps) → Runs core gadget_steps driver later events
    → Delivers core info receiving gadget_steps later events
delivers core info receiving gadget_steps driver later events beside within runs =
    let alike = runs_alike core info receiving gadget_steps driver later events beside within runs in
    let received = gives_events core gadget_steps receiving beside.in_step within in
    record {
      gives = alike.gives ∙ ap (map (event_of 0)) received.events;
      seen = receiver_after_steps core gadget_steps receiving;
      stands = received.stands;
      beside = alike.beside;
    }

-- ---- from the bring-up on

-- a driver that came up is beside its gadget
beside_up : (core : CoreState) → IsSound core
    → IsBeside (core_brought_up core) (virtual_interface (device_of core)) (new_receiver core.layout) (ready_for (device_of core) core.layout)
beside_up core sound =
    let fresh = fresh_up core sound in
    record {
      interface = refl;
      in_step = subst (λ (l : Contents). AreInStep (core_brought_up core) (new_receiver l)) (layout_up core)
          (fresh_in_step (core_brought_up core) core.reports.snapshot (no_idle core.reports.idle) fresh);
      going = fresh.going;
    }

up_alike : (core : CoreState) (gadget_steps : List GadgetStep) (later : DriverValue) (events : List DriverEvent) → IsSound core
    → AreWithinEpoch (bus_events (core_brought_up core) gadget_steps)
    → Runs (core_brought_up core) gadget_steps (ready_for (device_of core) core.layout) later events
    → events ≡ map (event_of 0) (events_received (core_brought_up core) gadget_steps (new_receiver (core_brought_up core).layout))
up_alike core gadget_steps later events sound within runs =
    (runs_alike (core_brought_up core) (virtual_interface (device_of core)) (new_receiver core.layout) gadget_steps
    (ready_for (device_of core) core.layout) later events (beside_up core sound) within runs).gives
    ∙ ap (λ (l : Contents). map (event_of 0) (events_received (core_brought_up core) gadget_steps (new_receiver l))) (sym (layout_up core))

pub cross_once : (core : CoreState) (gadget_steps : List GadgetStep) (later : DriverValue) (events : List DriverEvent) → IsSound core
    → AreWithinEpoch (bus_events (core_brought_up core) gadget_steps)
    → Runs (core_brought_up core) gadget_steps (ready_for (device_of core) core.layout) later events
    → events ≡ map (event_of 0) (events_of_crossed (items_of core.layout) core.reports.snapshot
    (no_idle core.reports.idle) (bus_events (core_brought_up core) gadget_steps))
cross_once core gadget_steps later events sound within runs =
    let up = core_brought_up core in
    let snapshot = core.reports.snapshot in
    let idle = no_idle core.reports.idle in
    up_alike core gadget_steps later events sound within runs
    ∙ ap (map (event_of 0)) (gives_rounds up snapshot idle gadget_steps (fresh_up core sound) within)
    ∙ ap (λ (l : Contents). map (event_of 0) (events_of_crossed (items_of l) snapshot idle (bus_events up gadget_steps))) (layout_up core)

pub cross_by_schedule : (core : CoreState) (gadget_steps : List GadgetStep) (later : DriverValue) (events : List DriverEvent) (own : List OwnStep)
    → IsSound core → bus_events (core_brought_up core) gadget_steps ≡ steps_as_events own
    → Runs (core_brought_up core) gadget_steps (ready_for (device_of core) core.layout) later events
    → events ≡ map (event_of 0) (events_of_epoch (items_of core.layout) core.reports.snapshot (no_idle core.reports.idle) own)
cross_by_schedule core gadget_steps later events own sound is runs =
    let up = core_brought_up core in
    let snapshot = core.reports.snapshot in
    let idle = no_idle core.reports.idle in
    up_alike core gadget_steps later events sound (subst AreWithinEpoch (sym is) (own_within own)) runs
    ∙ ap (map (event_of 0)) (gives_schedule up snapshot idle gadget_steps own (fresh_up core sound) is)
    ∙ ap (λ (l : Contents). map (event_of 0) (events_of_epoch (items_of l) snapshot idle own)) (layout_up core)

-- the driver agrees with its gadget where that has nothing to send
pub agrees_up : (core : CoreState) (gadget_steps : List GadgetStep) (later : DriverValue) (events : List DriverEvent) → IsSound core
    → AreWithinEpoch (bus_events (core_brought_up core) gadget_steps)
    → Runs (core_brought_up core) gadget_steps (ready_for (device_of core) core.layout) later events
    → DriverAgrees (core_after_steps (core_brought_up core) gadget_steps) (virtual_interface (device_of core)) later
agrees_up core gadget_steps later events sound within runs =
    let up : CoreState = core_brought_up core in
    let alike = runs_alike up (virtual_interface (device_of core)) (new_receiver core.layout) gadget_steps
    (ready_for (device_of core) core.layout) later events (beside_up core sound) within runs in (
      receiver_after_steps up gadget_steps (new_receiver core.layout),
      alike.beside.interface,
      subst (λ (l : Contents). AgreesAtNothing (core_after_steps up gadget_steps) (receiver_after_steps up gadget_steps (new_receiver l)).view)
          (layout_up core)
          (agrees_after_steps up core.reports.snapshot (no_idle core.reports.idle) gadget_steps (fresh_up core sound) within),
    )

-- both come to rest once nothing changes
pub rests_up : (core : CoreState) (earlier gadget_steps : List GadgetStep) (driver later : DriverValue) (events more : List DriverEvent) → IsSound core
    → AreSendable (items_of core.layout) core.reports.snapshot → AreWithinEpoch (bus_events (core_brought_up core) earlier)
    → Runs (core_brought_up core) earlier (ready_for (device_of core) core.layout) driver events
    → DriverComesToRest (core_after_steps (core_brought_up core) earlier) (virtual_interface (device_of core)) gadget_steps driver later more
rests_up core earlier gadget_steps driver later events more sound sendable within runs still enough more_runs =
    let up : CoreState = core_brought_up core in
    let info : InterfaceInfo = virtual_interface (device_of core) in
    let now : CoreState = core_after_steps up earlier in
    let seen : ReceiverState = receiver_after_steps up earlier (new_receiver core.layout) in
    let first = runs_alike up info (new_receiver core.layout) earlier (ready_for (device_of core) core.layout) driver events (beside_up core sound) within runs in
    let second = runs_alike now info seen gadget_steps driver later more first.beside
    (still_within now gadget_steps seen first.beside.in_step still) more_runs in (
      receiver_after_steps now gadget_steps seen,
      second.beside.interface,
      subst (λ (l : Contents). RestsWith (core_after_steps now gadget_steps) (receiver_after_steps now gadget_steps (receiver_after_steps up earlier (new_receiver l))).view)
          (layout_up core)
          (rests_after_transfers up core.reports.snapshot (no_idle core.reports.idle) earlier gadget_steps (fresh_up core sound)
          (subst (λ (l : Contents). AreSendable (items_of l) core.reports.snapshot) (sym (layout_up core)) sendable) within still enough),
    )
