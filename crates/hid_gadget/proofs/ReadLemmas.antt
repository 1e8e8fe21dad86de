-- Reports that are taken whole, and that a reader reads as they come.
use Rattle.std.proofs.Common.{◌≡◌, ◌∙◌, ℕ, suc, ◌+◌, ◌-◌, ◌*◌, ◌/◌, ◌<◌, ◌≤◌, Bool, true, false, List, [], ◌∷◌, ◌++◌, length, take, Option, Some, None, Result, Ok, Err, refl, ap, sym, subst, arith}
use Rattle.std.specs.Prelude.{if◌then◌else◌, nat_le}
use Rattle.std.proofs.lemmas.Bool.Decides.{nat_tests}
use Rattle.std.proofs.lemmas.List.{append-nil, take_all}
use Rattle.hid_report_descriptor.specs.declared.limits.TheConstants.{MAX_REPORT_BYTES}
use Rattle.hid_layout.specs.Controls.{items_of}
use Rattle.hid_layout.specs.Layout.{Contents}
use Rattle.hid_layout.specs.Reports.{report_bytes}
use Rattle.hid_snapshots.specs.declared.control_state.ControlState.{ControlState}
use Rattle.hid_snapshots.specs.declared.event.Event.{Event}
use Rattle.hid_snapshots.specs.declared.fault.ReportFault.{ReportFault}
use Rattle.hid_snapshots.specs.ControlStates.{blank}
use Rattle.hid_snapshots.specs.Parts.{IsInput}
use Rattle.hid_snapshots.specs.PartBytes.{part_bytes}
use Rattle.hid_snapshots.specs.Pieces.{pieces_for, pieces_of}
use Rattle.hid_snapshots.proofs.PieceLemmas.{pieces_are}
use Rattle.hid_usages.specs.Reading.{report_named}
use Rattle.hid_usages.specs.Receiving.{ReceiverState, events_of_report, is_whole, view_after_report}
use Rattle.hid_usages.specs.Taking.{TakesReport, read_events, read_view}
use Rattle.hid_usages.proofs.BackLemmas.{blank_view}
use Rattle.hid_bus.specs.ReportState.{due_where}
use Rattle.hid_bus.specs.DeviceHistory.{AreWithinEpoch}
use Rattle.hid_device.proofs.BusLemmas.{short_report}
use Rattle.hid_device.specs.Core.{CoreState, IsPiece, IsSound, core_after_due, core_at_poll, core_with_due_round}
use Rattle.hid_gadget.specs.declared.outcomes.Poll.{Poll}
use Rattle.hid_gadget.specs.declared.outcomes.Poll.TheVariants.{Done, Nothing, Stalled}
use Rattle.hid_gadget.specs.WholeReports.{IsTakenWhole, bytes_fitting, bytes_taken, core_after_polls, end_of_round, fitting_bytes, fitting_pieces, pieces_fitting, pieces_taken, report_result}
use Rattle.hid_gadget.specs.ReceivedReports.{AreInStep, Asks, Changes, Frame, GadgetStep, IsFresh, Transfers, bus_events, bus_events_of, core_after_step, events_after, events_at_step, events_of_crossed, events_received, receiver_after, receiver_after_step, receiver_after_steps}
use Rattle.hid_gadget.specs.ReadReports.{AreWhole, HoldsEach, IsWholeStep, ReadsAlike, events_of_end, events_of_step, events_read, receiver_of, view_after, view_after_step}
use Rattle.hid_gadget.proofs.PollLemmas.{open_at, polled_all}
use Rattle.hid_gadget.proofs.ReceiveLemmas.{StepGives, ends_so, events_named, fresh_in_step, gives_rounds, open_facts, step_in_step, transfer_keeps_round, view_named, within_parts}
use Rattle.hid_gadget.proofs.ResultLemmas.{done_by}
use Rattle.hid_gadget.proofs.SoundLemmas.{at_poll_layout, laid_by, sound_at_poll}

-- what a reader takes of a report is what is read of it
pub taken_is : (layout : Contents) (bytes : List ℕ) (view after : List ControlState) (out told : List Event) (result : Result (Unit {0}) ReportFault)
    → TakesReport layout bytes view out result after told
    → (after ≡ view_after_report layout bytes view) × (told ≡ out ++ events_of_report layout bytes view)
taken_is layout bytes view after out told (Ok done) (r, named, sees, tells) = (
  sees ∙ sym (view_named layout r bytes view named),
  tells ∙ ap (λ (es : List Event). out ++ es) (sym (events_named layout r bytes view named)),
)
taken_is layout bytes view after out told (Err fault) (named, same, none) = (
  same ∙ sym (ap (λ (o : Result ℕ ReportFault). elim o [ Ok n ↦ read_view layout n bytes view | Err f ↦ view ]) named),
  none ∙ sym (ap (λ (o : Result ℕ ReportFault). let events : List Event = elim o [ Ok n ↦ read_events layout n bytes view | Err f ↦ [] ] in out ++ events) named ∙ append-nil out),
)

-- ---- one report

-- the pieces of a report that is taken whole, and its bytes
whole_pieces : (room : ℕ) (bytes : List ℕ) → length bytes ≤ room → fitting_pieces room bytes ≡ pieces_for (length bytes)
whole_pieces room bytes fits =
    let l : nat_le (length bytes) room ≡ true = grind (arith, nat_tests, fits) in
    ap (λ (b : Bool). if b then pieces_for (length bytes) else room / 64) l

whole_bytes : (room : ℕ) (bytes : List ℕ) → length bytes ≤ room → fitting_bytes room bytes ≡ bytes
whole_bytes room bytes fits =
    ap (λ (n : ℕ). take (64 * n) bytes) (whole_pieces room bytes fits)
    ∙ take_all (64 * pieces_for (length bytes)) bytes (let l : length bytes ≤ 64 * ((length bytes - 1) / 64 + 1) = omega arith in l)

-- a round of a report that its room holds is taken whole
record WholeRound (c : CoreState) (room r : ℕ) (opened : CoreState) (bytes : List ℕ) : Type 0 where
  before : ℕ
  all : 0 + suc before ≡ pieces_of (items_of c.layout) r
  count : suc before ≡ pieces_fitting room opened (Some r)
  taken : bytes_fitting room opened (Some r) ≡ bytes

round_is_whole : (c : CoreState) (room r : ℕ) → report_bytes c.layout r ≤ room → IsSound (open_at c r 0 c.toggle)
    → WholeRound c room r (open_at c r 0 c.toggle) (part_bytes c.layout r c.reports.fixed)
round_is_whole c room r has_room sound =
    let layout = c.layout in
    let bytes = part_bytes layout r c.reports.fixed in
    let input : IsInput layout r = sound.inputs_first.first r sound.of_input in
    let long : length bytes ≡ report_bytes layout r = sound.sends.shows.whole in
    let short : length bytes ≤ room = omega (arith, long, has_room) in
    let one_more : suc ((length bytes - 1) / 64) ≡ (length bytes - 1) / 64 + 1 = omega arith in
    record {
      before = (length bytes - 1) / 64;
      all = (let e : 0 + suc ((length bytes - 1) / 64) ≡ (length bytes - 1) / 64 + 1 = omega arith in e)
          ∙ ap pieces_for long ∙ sym (pieces_are layout r (laid_by (open_at c r 0 c.toggle) sound) input);
      count = one_more ∙ sym (whole_pieces room bytes short);
      taken = whole_bytes room bytes short;
    }

-- a round at its first piece, which its room holds
whole_open : (c : CoreState) (room r : ℕ) → IsSound (open_at c r 0 c.toggle) → report_bytes c.layout r ≤ room
    → let opened = open_at c r 0 c.toggle in
    (end_of_round room opened (Some r) ≡ Done (report_bytes c.layout r))
    × ((bytes_fitting room opened (Some r) ≡ part_bytes c.layout r c.reports.fixed)
    × ((core_after_polls (pieces_fitting room opened (Some r)) opened).current ≡ None))
whole_open c room r sound has_room =
    let opened = open_at c r 0 c.toggle in
    let whole = round_is_whole c room r has_room sound in
    let some : 0 < pieces_fitting room opened (Some r) = omega (arith, whole.count) in
    let long : length (part_bytes c.layout r c.reports.fixed) ≡ report_bytes c.layout r = sound.sends.shows.whole in (
      done_by (pieces_fitting room opened (Some r)) (bytes_fitting room opened (Some r)) some
          ∙ ap (λ (n : ℕ). Done n) (ap (λ (l : List ℕ). length l) whole.taken ∙ long),
      (
        whole.taken,
        ap (λ (n : ℕ). (core_after_polls n opened).current) (sym whole.count)
            ∙ ap (λ (x : CoreState). x.current) (polled_all whole.before c r 0 c.toggle whole.all),
      ),
    )

-- a round that a poll opened is at its first piece
first_piece : (core : CoreState) → core.current ≡ None → core.piece ≡ 0 → (core_at_poll core).piece ≡ 0
first_piece core none first =
    ap (λ (o : Option ℕ). (core_after_due core o).piece) none
    ∙ by_due (due_where (items_of core.layout) core.halted core.reports)
  where
    by_due : (o : Option ℕ) → (core_with_due_round core o).piece ≡ 0
    by_due None = first
    by_due (Some r) = refl

-- what holds of an open round at its first piece, by what its core is
abbrev IsWholeAt : ℕ → ℕ → CoreState → Type 0
IsWholeAt room r opened =
    (end_of_round room opened opened.current ≡ Done (report_bytes opened.layout r))
    × ((bytes_fitting room opened opened.current ≡ part_bytes opened.layout r opened.reports.fixed)
    × ((core_after_polls (pieces_fitting room opened opened.current) opened).current ≡ None))

whole_at : (opened : CoreState) (room r : ℕ) → IsSound opened → opened.current ≡ Some r → opened.piece ≡ 0
    → report_bytes opened.layout r ≤ room → IsWholeAt room r opened
whole_at opened room r sound opens first has_room =
    let same : open_at opened r 0 opened.toggle ≡ opened =
    ap (λ (o : Option ℕ). let x : CoreState = record opened { current = o; piece = 0 } in x) (sym opens)
    ∙ ap (λ (n : ℕ). let x : CoreState = record opened { piece = n } in x) (sym first) in
    subst (IsWholeAt room r) same (whole_open opened room r (subst IsSound (sym same) sound) has_room)

pub report_is_whole : (core : CoreState) (room r : ℕ) → IsSound core → core.is_configured ≡ true → core.current ≡ None
    → (core_at_poll core).current ≡ Some r → report_bytes core.layout r ≤ room → IsTakenWhole core room r
report_is_whole core room r sound configured none opens has_room =
    let opened = core_at_poll core in
    let layout : opened.layout ≡ core.layout = at_poll_layout core in
    let first : core.piece ≡ 0 = subst (λ (o : Option ℕ). IsPiece (items_of core.layout) o core.piece) none sound.piece in
    let all = whole_at opened room r (sound_at_poll core sound) opens (first_piece core none first)
    (subst (λ (l : Contents). report_bytes l r ≤ room) (sym layout) has_room) in
    record {
      result = ap (λ (b : Bool). if b then end_of_round room opened opened.current else Nothing) configured
          ∙ all.0 ∙ ap (λ (l : Contents). Done (report_bytes l r)) layout;
      bytes = ap (λ (b : Bool). if b then bytes_fitting room opened opened.current else []) configured
          ∙ all.1.0 ∙ ap (λ (l : Contents). part_bytes l r opened.reports.fixed) layout;
      closed = ap (λ (b : Bool). (if b then core_after_polls (pieces_taken core room) opened else core).current) configured
          ∙ ap (λ (b : Bool). (core_after_polls (if b then pieces_fitting room opened opened.current else 0) opened).current) configured
          ∙ all.1.1;
    }

-- ---- a reader

-- what a reader makes of a step
record ReadsStep (core : CoreState) (step : GadgetStep) (view : List ControlState) : Type 0 where
  events : events_of_step core step view ≡ events_at_step core step (receiver_of core.layout view)
  receiver : receiver_after_step core step (receiver_of core.layout view) ≡ receiver_of core.layout (view_after_step core step view)
  no_round : (core_after_step core step).current ≡ None

-- what it makes of a transfer that ends so
abbrev ReadsEnd : Contents → List ℕ → List ControlState → Poll → Type 0
ReadsEnd layout bytes view end =
    (events_of_end layout end bytes view ≡ events_after end bytes (receiver_of layout view))
    × (receiver_after end bytes (receiver_of layout view) ≡ receiver_of layout (view_after layout end bytes view))

-- no report is due, or the endpoint is halted
reads_silent : (core : CoreState) (room : ℕ) (view : List ControlState) → core.is_configured ≡ true → (core_at_poll core).current ≡ None
    → ReadsStep core (Asks room) view
reads_silent core room view configured none =
    let opened = core_at_poll core in
    let result : report_result core room ≡ (if opened.halted then Stalled else Nothing) =
    ap (λ (b : Bool). if b then end_of_round room opened opened.current else Nothing) configured ∙ ap (end_of_round room opened) none in
    let count : pieces_taken core room ≡ 0 =
    ap (λ (b : Bool). if b then pieces_fitting room opened opened.current else 0) configured ∙ ap (pieces_fitting room opened) none in
    let reads : ReadsEnd core.layout (bytes_taken core room) view (report_result core room) =
    subst (ReadsEnd core.layout (bytes_taken core room) view) (sym result) (by_halt opened.halted) in
    record {
      events = reads.0;
      receiver = reads.1;
      no_round = ap (λ (b : Bool). (if b then core_after_polls (pieces_taken core room) opened else core).current) configured
          ∙ ap (λ (n : ℕ). (core_after_polls n opened).current) count ∙ none;
    }
  where
    by_halt : (b : Bool) → ReadsEnd core.layout (bytes_taken core room) view (if b then Stalled else Nothing)
    by_halt true = (refl, refl)
    by_halt false = (refl, refl)

-- what a receiver makes of a report that came whole, by whether it ends
abbrev ended_by : Contents → List ℕ → List ControlState → Bool → ReceiverState
ended_by layout bytes view ends = record {
  layout = layout;
  view = if ends then view_after_report layout bytes view else view;
  collected = if ends then [] else bytes;
}

reads_done : (layout : Contents) (n : ℕ) (bytes : List ℕ) (view : List ControlState) → is_whole 64 layout bytes (length bytes) ≡ true
    → ReadsEnd layout bytes view (Done n)
reads_done layout n bytes view ends = (
  sym (ap (λ (b : Bool). let es : List Event = if b then events_of_report layout bytes view else [] in es) ends),
  ap (ended_by layout bytes view) ends,
)

-- the bytes of a report that opens name it
named_at : (opened : CoreState) (r : ℕ) → IsSound opened → opened.current ≡ Some r
    → (report_named opened.layout (part_bytes opened.layout r opened.reports.fixed) ≡ Ok r)
    × (length (part_bytes opened.layout r opened.reports.fixed) ≡ report_bytes opened.layout r)
named_at opened r sound opens =
    let same : opened ≡ record opened { current = Some r } = ap (λ (o : Option ℕ). let x : CoreState = record opened { current = o } in x) opens in
    let facts = open_facts opened r 0 (blank (items_of opened.layout)) (subst IsSound same sound) (blank_view (items_of opened.layout)) in
    (facts.back.report, facts.long)

-- a report is due, and comes whole
reads_whole : (core : CoreState) (room r : ℕ) (view : List ControlState) → IsSound core → core.is_configured ≡ true → core.current ≡ None
    → (core_at_poll core).current ≡ Some r → report_bytes core.layout r ≤ room → ReadsStep core (Asks room) view
reads_whole core room r view sound configured none opens has_room =
    let opened = core_at_poll core in
    let layout = core.layout in
    let bytes = bytes_taken core room in
    let all = report_is_whole core room r sound configured none opens has_room in
    let named = subst (λ (l : Contents). (report_named l (part_bytes l r opened.reports.fixed) ≡ Ok r)
    × (length (part_bytes l r opened.reports.fixed) ≡ report_bytes l r)) (at_poll_layout core) (named_at opened r (sound_at_poll core sound) opens) in
    let part = part_bytes layout r opened.reports.fixed in
    let ends : is_whole 64 layout bytes (length bytes) ≡ true =
    ap (λ (l : List ℕ). is_whole 64 layout l (length l)) all.bytes ∙ ends_so layout r (length part) part named.0 named.1 in
    let reads : ReadsEnd layout bytes view (report_result core room) =
    subst (ReadsEnd layout bytes view) (sym all.result) (reads_done layout (report_bytes layout r) bytes view ends) in
    record { events = reads.0; receiver = reads.1; no_round = all.closed }

reads_ask : (core : CoreState) (room : ℕ) (view : List ControlState) → IsSound core → core.is_configured ≡ true → core.current ≡ None
    → HoldsEach core.layout room → ReadsStep core (Asks room) view
reads_ask core room view sound configured none holds = by_round (core_at_poll core).current refl
  where
    by_round : (o : Option ℕ) → (core_at_poll core).current ≡ o → ReadsStep core (Asks room) view
    by_round None e = reads_silent core room view configured e
    by_round (Some r) e =
        let opened = core_at_poll core in
        let now : IsSound opened = sound_at_poll core sound in
        let same : opened ≡ record opened { current = Some r } = ap (λ (o : Option ℕ). let x : CoreState = record opened { current = o } in x) e in
        let inputs : IsSound (record opened { current = Some r }) = subst IsSound same now in
        let input : IsInput core.layout r = subst (λ (l : Contents). IsInput l r) (at_poll_layout core) (inputs.inputs_first.first r inputs.of_input) in
        reads_whole core room r view sound configured none e (holds r input)

reads_step : (core : CoreState) (step : GadgetStep) (view : List ControlState) → AreInStep core (receiver_of core.layout view)
    → core.current ≡ None → IsWholeStep core.layout step → AreWithinEpoch (bus_events_of core step) → ReadsStep core step view
reads_step core (Changes change) view stands none whole within = record { events = refl; receiver = refl; no_round = none }
reads_step core Frame view stands none whole within = record { events = refl; receiver = refl; no_round = none }
reads_step core (Asks room) view stands none whole within = reads_ask core room view stands.sound stands.configured none whole
reads_step core (Transfers setup written) view stands none whole within =
    record { events = refl; receiver = refl; no_round = transfer_keeps_round core setup written within ∙ none }

pub reads_alike : (core : CoreState) (gadget_steps : List GadgetStep) (view : List ControlState)
    → AreInStep core (receiver_of core.layout view) → core.current ≡ None → AreWhole core.layout gadget_steps
    → AreWithinEpoch (bus_events core gadget_steps) → ReadsAlike core gadget_steps view
reads_alike core [] view stands none whole within = record { events = refl; sees = refl; no_round = none }
reads_alike core (step ∷ rest) view stands none whole within =
    let next = core_after_step core step in
    let seen = view_after_step core step view in
    let parts = within_parts (bus_events_of core step) (bus_events next rest) within in
    let gives : StepGives core step (receiver_of core.layout view) = step_in_step core step (receiver_of core.layout view) stands parts.0 in
    let one = reads_step core step view stands none whole.0 parts.0 in
    let after : receiver_after_step core step (receiver_of core.layout view) ≡ receiver_of next.layout seen =
    one.receiver ∙ ap (λ (l : Contents). receiver_of l seen) (sym gives.same) in
    let more = reads_alike next rest seen (subst (AreInStep next) after gives.in_step) one.no_round
    (subst (λ (l : Contents). AreWhole l rest) (sym gives.same) whole.1) parts.1 in
    record {
      events = ap (λ (es : List Event). es ++ events_read next rest seen) one.events
          ∙ ap (λ (es : List Event). events_at_step core step (receiver_of core.layout view) ++ es)
          (more.events ∙ ap (events_received next rest) (sym after));
      sees = more.sees ∙ ap (λ (x : ReceiverState). (receiver_after_steps next rest x).view) (sym after);
      no_round = more.no_round;
    }

-- from a configuration on
pub reads_rounds : (core : CoreState) (snapshot : List ControlState) (idle : List ℕ) (gadget_steps : List GadgetStep)
    → IsFresh core snapshot idle → AreWhole core.layout gadget_steps → AreWithinEpoch (bus_events core gadget_steps)
    → events_read core gadget_steps (blank (items_of core.layout))
    ≡ events_of_crossed (items_of core.layout) snapshot idle (bus_events core gadget_steps)
reads_rounds core snapshot idle gadget_steps fresh whole within =
    (reads_alike core gadget_steps (blank (items_of core.layout)) (fresh_in_step core snapshot idle fresh) fresh.no_round whole within).events
    ∙ gives_rounds core snapshot idle gadget_steps fresh within

-- a room of the longest report of a bus holds each report of a device
pub holds_each : (core : CoreState) (room : ℕ) → IsSound core → MAX_REPORT_BYTES ≤ room → HoldsEach core.layout room
holds_each core room sound large = λ r input.
    let short : report_bytes core.layout r ≤ MAX_REPORT_BYTES = short_report core r sound in
    omega (arith, short, large)
