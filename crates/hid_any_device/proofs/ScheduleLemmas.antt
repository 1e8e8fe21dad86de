-- The rounds of a virtual device have parts that a host reads as they were shown, and reports that end at it.
use Rattle.std.proofs.Common.{◌≡◌, ◌++◌, ℕ, zero, suc, ◌+◌, ◌-◌, ◌/◌, ◌<◌, inl, inr, Bool, true, false, cond, List, [], ◌∷◌, length, map, min, Option, Some, None, Result, Ok, Err, refl, ap, sym, ◌∙◌, subst, arith}
use Rattle.std.specs.Prelude.{IfSome, nat_lt, position}
use Rattle.std.specs.List.{filter, find, range_with_len, slice_get, slice_set}
use Rattle.std.specs.Option.{option_and_then}
use Rattle.std.proofs.lemmas.Bool.{cases_lt}
use Rattle.std.proofs.lemmas.List.{length-map, length-replicate}
use Rattle.std.proofs.lemmas.Option.{slice_get-get_or, slice_get_within, unwrap_or-slice_get}
use Rattle.hid_layout.specs.declared.control.Control.{Control}
use Rattle.hid_layout.specs.Layout.{Contents}
use Rattle.hid_layout.specs.Controls.{Item, control_of, controls_of_form, form_at, items_of}
use Rattle.hid_layout.specs.Reports.{IsLayout, report_bytes}
use Rattle.hid_report_descriptor.specs.declared.limits.TheConstants.{MAX_REPORT_BYTES}
use Rattle.hid_snapshots.specs.declared.change.Change.{Change}
use Rattle.hid_snapshots.specs.declared.control_state.ControlState.{ControlState}
use Rattle.hid_snapshots.specs.declared.control_state.ControlState.TheVariants.{Absent}
use Rattle.hid_snapshots.specs.declared.event.Event.{Event}
use Rattle.hid_snapshots.specs.declared.fault.ReportFault.{ReportFault}
use Rattle.hid_snapshots.specs.declared.fault.ReportFault.TheVariants.{Short}
use Rattle.hid_snapshots.specs.Codes.{has_empty_codes}
use Rattle.hid_snapshots.specs.ControlStates.{FitsShown, FitsSnapshot, FitsView, blank}
use Rattle.hid_snapshots.specs.PartBytes.{part_bytes}
use Rattle.hid_snapshots.specs.Parts.{IsInput, has_zeros, shown_parts}
use Rattle.hid_snapshots.specs.Pieces.{pieces_of}
use Rattle.hid_snapshots.specs.Snapshots.{OrFault, change_at, changed_state, snapshot_after, state_at, target, with_state}
use Rattle.hid_snapshots.specs.Views.{view_after_part}
use Rattle.hid_snapshots.proofs.BlankLemmas.{initial_fits}
use Rattle.hid_snapshots.proofs.FillLemmas.{set_length}
use Rattle.hid_snapshots.proofs.ItemLemmas.{control_found}
use Rattle.hid_snapshots.proofs.PieceLemmas.{pieces_are}
use Rattle.hid_snapshots.proofs.ReportLemmas.{can_send_all}
use Rattle.hid_snapshots.proofs.ShownLemmas.{blank_parts_fit, shown_again, shown_fits, taken_fits}
use Rattle.hid_snapshots.proofs.SnapshotLemmas.{changes_fit}
use Rattle.hid_usages.specs.PartsReadBack.{ReadsAsShown}
use Rattle.hid_usages.specs.Reading.{bytes_awaited, first_byte, is_input_with, report_begun, report_named, whole_report}
use Rattle.hid_usages.specs.Receiving.{events_of_report, view_after_report}
use Rattle.hid_usages.specs.Taking.{read_events, read_view}
use Rattle.hid_usages.proofs.CrossingLemmas.{parts_back, seen_is_view}
use Rattle.usb_transact.specs.declared.transaction.Fate.{Fate}
use Rattle.usb_transact.specs.declared.transaction.Fate.TheVariants.{Clean, TokenLost, ReplyLost, AckLost}
use Rattle.hid_bus.specs.ReportState.{ReportState, after_change, after_frame, after_opening, due_where, is_due, most_frames}
use Rattle.hid_bus.specs.Rounds.{Changes, Frame, OwnStep, Round, RoundHistory, crossed_rounds, events_of_rounds, has_closed, has_crossed, history_after_poll, history_after_step, history_at_token, history_before_answer, initial_history, new_round, open_round_after, open_rounds, part_events, rounds, rounds_closed_by_poll, rounds_closed_by_step, with_opened_round, with_poll}
use Rattle.hid_bus.specs.Rounds as own
use Rattle.hid_any_device.specs.Sender.{Sends}
use Rattle.hid_any_device.specs.PipeSteps.{PipeStep, Polls}
use Rattle.hid_any_device.specs.Delivery.{AllReportsEnd, ReportEnds, events_of_reports}
use Rattle.hid_any_device.specs.ReportPieces.{cut_pieces}
use Rattle.hid_any_device.specs.VirtualDevice.{DeliversRounds, SuitsDevice, opening_step, part_pieces, pipe_steps_at, pipe_steps_in, round_bytes}
use Rattle.hid_any_device.proofs.PartEncodingLemmas.{part_encodes, part_is_bytes, part_length}
use Rattle.hid_any_device.proofs.QueueLemmas.{headline}
use Rattle.hid_any_device.proofs.ReportPieceLemmas.{cut_ends, whole_last}
use Rattle.hid_any_device.proofs.VirtualDeviceLemmas.{parts_cross}

-- what holds of the layout of a virtual device with this many Input reports
record IsSound (layout : Contents) (inputs : ℕ) : Type 0 where
  laid : IsLayout layout
  inputs_first : (r : ℕ) → r < inputs → IsInput layout r
  empty_codes : has_empty_codes layout ≡ true
  zeros : has_zeros (items_of layout) ≡ true

-- a round of an Input report has parts that suit the layout
record RoundFits (layout : Contents) (round : Round) : Type 0 where
  input : IsInput layout round.report
  shown : FitsShown (items_of layout) round.parts

record StateFits (layout : Contents) (inputs : ℕ) (d : ReportState) : Type 0 where
  snapshot : FitsSnapshot (items_of layout) d.snapshot
  fixed : FitsShown (items_of layout) d.fixed
  frames : length d.frames ≡ inputs

abbrev CurrentFits : Contents → Option Round → Type 0
CurrentFits layout current = IfSome current (λ round. RoundFits layout round)

record HistoryFits (layout : Contents) (inputs : ℕ) (c : RoundHistory) : Type 0 where
  reports : StateFits layout inputs c.reports
  current : CurrentFits layout c.current

-- ---- a snapshot suits the layout after each change

ok_same : (x y : List ControlState) → (let o : OrFault (List ControlState) = Ok x in let p : OrFault (List ControlState) = Ok y in o ≡ p) → x ≡ y
ok_same x y k = cc

control_fits : (items : List Item) (states now : List ControlState) (change : Change) (control : Control)
    (o : OrFault ControlState) → FitsSnapshot items states → control_of items (target change) ≡ Some control
    → changed_state control.kind (controls_of_form (form_at items (target change).item)) (state_at states (target change).item) change ≡ o
    → with_state states (target change).item o ≡ Ok now → FitsSnapshot items now
control_fits items states now change control (Err fault) fits e f g = absurd (cc)
control_fits items states now change control (Ok new) fits e f g =
    let i : ℕ = (target change).item in
    let found = control_found items (target change) control e in
    let within : i < length states = omega (arith, fits.one_each, slice_get_within items i found.item found.there) in
    let there : slice_get states i ≡ Some (state_at states i) =
    slice_get-get_or states i Absent within ∙ ap (λ (state : ControlState). Some state) (sym (unwrap_or-slice_get states i Absent)) in
    subst (FitsSnapshot items) (ok_same (slice_set states i new) now g)
    (changes_fit items states change control (controls_of_form (form_at items i)) (state_at states i) new (Ok tt) found refl there f fits)

snapshot_fits : (items : List Item) (states now : List ControlState) (change : Change) (o : Option Control)
    → FitsSnapshot items states → control_of items (target change) ≡ o → change_at items states change o ≡ Ok now
    → FitsSnapshot items now
snapshot_fits items states now change None fits e h = absurd (cc)
snapshot_fits items states now change (Some control) fits e h =
    control_fits items states now change control
    (changed_state control.kind (controls_of_form (form_at items (target change).item)) (state_at states (target change).item) change)
    fits e refl h

-- the report state by what a change does to the snapshot
abbrev changed : ReportState → OrFault (List ControlState) → ReportState
changed d o =
    elim o [
      | Ok states ↦ record { snapshot = states; fixed = d.fixed; frames = d.frames; idle = d.idle; aborted = d.aborted }
      | Err fault ↦ d
    ]

change_fits : (layout : Contents) (inputs : ℕ) (d : ReportState) (change : Change) → StateFits layout inputs d
    → StateFits layout inputs (after_change (items_of layout) d change)
change_fits layout inputs d change fits = by_result (snapshot_after (items_of layout) d.snapshot change) refl
  where
    by_result : (o : OrFault (List ControlState)) → snapshot_after (items_of layout) d.snapshot change ≡ o
        → StateFits layout inputs (changed d o)
    by_result (Ok states) e = record {
      snapshot = snapshot_fits (items_of layout) d.snapshot states change (control_of (items_of layout) (target change)) fits.snapshot refl e;
      fixed = fits.fixed;
      frames = fits.frames;
    }
    by_result (Err fault) e = fits

frame_fits : (layout : Contents) (inputs : ℕ) (d : ReportState) → StateFits layout inputs d
    → StateFits layout inputs (after_frame d)
frame_fits layout inputs d fits = record {
  snapshot = fits.snapshot;
  fixed = fits.fixed;
  frames = length-map d.frames (λ n. min (n + 1) most_frames) ∙ fits.frames;
}

opening_fits : (layout : Contents) (inputs r : ℕ) (d : ReportState) → IsSound layout inputs → StateFits layout inputs d
    → StateFits layout inputs (after_opening (items_of layout) r d)
opening_fits layout inputs r d sound fits =
    let items : List Item = items_of layout in
    let parts : List ControlState = shown_parts items r d.snapshot d.fixed in
    let shown : FitsShown items parts = shown_fits layout r d.snapshot d.fixed sound.laid fits.snapshot fits.fixed in
    record {
      snapshot = taken_fits items r d.snapshot parts sound.zeros (sym (shown_again items r d.snapshot d.fixed)) fits.snapshot shown;
      fixed = shown;
      frames = set_length d.frames r 0 ∙ fits.frames;
    }

-- ---- a report that is due is an Input report

some_same : (x y : ℕ) → (let o : Option ℕ = Some x in let p : Option ℕ = Some y in o ≡ p) → x ≡ y
some_same x y k = cc

found_within : (p : ℕ → Bool) (n a r : ℕ) → find p (range_with_len a n) ≡ Some r → r < a + n
found_within p zero a r h = absurd (cc)
found_within p (suc n) a r h = by_test (p a) h (found_within p n (a + 1) r)
  where
    by_test : (b : Bool) → cond b (Some a) (find p (range_with_len (a + 1) n)) ≡ Some r → (find p (range_with_len (a + 1) n) ≡ Some r → r < (a + 1) + n) → r < a + suc n
    by_test true e later = let same : a ≡ r = some_same a r e in omega (arith, same)
    by_test false e later = let within : r < (a + 1) + n = later e in omega (arith, within)

due_is_input : (layout : Contents) (inputs r : ℕ) (halted : Bool) (d : ReportState) → IsSound layout inputs
    → StateFits layout inputs d → due_where (items_of layout) halted d ≡ Some r → IsInput layout r
due_is_input layout inputs r true d sound fits h = absurd (cc)
due_is_input layout inputs r false d sound fits h =
    let within : r < 0 + length d.frames = found_within (is_due (items_of layout) d) (length d.frames) 0 r h in
    sound.inputs_first r (omega (arith, within, fits.frames))

-- ---- each round of a schedule fits

token_fits : (layout : Contents) (inputs : ℕ) (d : ReportState) (current : Option Round) (halted : Bool)
    → IsSound layout inputs → StateFits layout inputs d → CurrentFits layout current
    → HistoryFits layout inputs (history_at_token (items_of layout) (record { reports = d; current = current; halted = halted }))
token_fits layout inputs d (Some round) halted sound fits here = record { reports = fits; current = here }
token_fits layout inputs d None halted sound fits here = by_due (due_where (items_of layout) halted d) refl
  where
    by_due : (o : Option ℕ) → due_where (items_of layout) halted d ≡ o
        → HistoryFits layout inputs (with_opened_round (items_of layout) (record { reports = d; current = None; halted = halted }) o)
    by_due None e = record { reports = fits; current = tt }
    by_due (Some r) e = record {
      reports = opening_fits layout inputs r d sound fits;
      current = record {
        input = due_is_input layout inputs r halted d sound fits e;
        shown = shown_fits layout r d.snapshot d.fixed sound.laid fits.snapshot fits.fixed;
      };
    }

answer_fits : (layout : Contents) (inputs : ℕ) (c : RoundHistory) (fate : Fate) → IsSound layout inputs
    → HistoryFits layout inputs c → HistoryFits layout inputs (history_before_answer (items_of layout) c fate)
answer_fits layout inputs c TokenLost sound fits = fits
answer_fits layout inputs c Clean sound fits = token_fits layout inputs c.reports c.current c.halted sound fits.reports fits.current
answer_fits layout inputs c ReplyLost sound fits = token_fits layout inputs c.reports c.current c.halted sound fits.reports fits.current
answer_fits layout inputs c AckLost sound fits = token_fits layout inputs c.reports c.current c.halted sound fits.reports fits.current

polled_fits : (layout : Contents) (round : Round) (fate : Fate) → RoundFits layout round → RoundFits layout (with_poll round fate)
polled_fits layout round fate fits = record { input = fits.input; shown = fits.shown }

open_fits : (layout : Contents) (current : Option Round) (fate : Fate) → CurrentFits layout current
    → CurrentFits layout (open_round_after current fate)
open_fits layout None fate fits = tt
open_fits layout (Some round) fate fits = by_closed (has_closed (with_poll round fate))
  where
    by_closed : (b : Bool) → CurrentFits layout (cond {A = Option Round} b None (Some (with_poll round fate)))
    by_closed true = tt
    by_closed false = polled_fits layout round fate fits

step_fits : (layout : Contents) (inputs : ℕ) (c : RoundHistory) (step : OwnStep) → IsSound layout inputs
    → HistoryFits layout inputs c → HistoryFits layout inputs (history_after_step (items_of layout) c step)
step_fits layout inputs c (Changes change) sound fits =
    record { reports = change_fits layout inputs c.reports change fits.reports; current = fits.current }
step_fits layout inputs c Frame sound fits =
    record { reports = frame_fits layout inputs c.reports fits.reports; current = fits.current }
step_fits layout inputs c (own.Polls fate) sound fits =
    let answered = answer_fits layout inputs c fate sound fits in
    record {
      reports = answered.reports;
      current = open_fits layout (history_before_answer (items_of layout) c fate).current fate answered.current;
    }

abbrev AllFit : Contents → List Round → Type 0
AllFit layout [] = Unit {0}
AllFit layout (round ∷ rest) = RoundFits layout round × AllFit layout rest

both_fit : (layout : Contents) (xs ys : List Round) → AllFit layout xs → AllFit layout ys → AllFit layout (xs ++ ys)
both_fit layout [] ys fits more = more
both_fit layout (x ∷ xs) ys fits more = (fits.0, both_fit layout xs ys fits.1 more)

closed_fit : (layout : Contents) (current : Option Round) (fate : Fate) → CurrentFits layout current
    → AllFit layout (rounds_closed_by_poll current fate)
closed_fit layout None fate fits = tt
closed_fit layout (Some round) fate fits = by_closed (has_closed (with_poll round fate))
  where
    by_closed : (b : Bool) → AllFit layout (cond b (with_poll round fate ∷ []) [])
    by_closed true = (polled_fits layout round fate fits, tt)
    by_closed false = tt

closed_by_step_fit : (layout : Contents) (inputs : ℕ) (c : RoundHistory) (step : OwnStep) → IsSound layout inputs
    → HistoryFits layout inputs c → AllFit layout (rounds_closed_by_step (items_of layout) c step)
closed_by_step_fit layout inputs c (Changes change) sound fits = tt
closed_by_step_fit layout inputs c Frame sound fits = tt
closed_by_step_fit layout inputs c (own.Polls fate) sound fits =
    closed_fit layout (history_before_answer (items_of layout) c fate).current fate
    (answer_fits layout inputs c fate sound fits).current

left_fit : (layout : Contents) (current : Option Round) → CurrentFits layout current → AllFit layout (open_rounds current)
left_fit layout None fits = tt
left_fit layout (Some round) fits = (fits, tt)

rounds_fit : (layout : Contents) (inputs : ℕ) (c : RoundHistory) (steps : List OwnStep) → IsSound layout inputs
    → HistoryFits layout inputs c → AllFit layout (rounds (items_of layout) steps c)
rounds_fit layout inputs c [] sound fits = left_fit layout c.current fits.current
rounds_fit layout inputs c (step ∷ steps) sound fits =
    both_fit layout (rounds_closed_by_step (items_of layout) c step)
    (rounds (items_of layout) steps (history_after_step (items_of layout) c step))
    (closed_by_step_fit layout inputs c step sound fits)
    (rounds_fit layout inputs (history_after_step (items_of layout) c step) steps sound (step_fits layout inputs c step sound fits))

crossed_fit : (layout : Contents) (all : List Round) → AllFit layout all → AllFit layout (filter has_crossed all)
crossed_fit layout [] fits = tt
crossed_fit layout (round ∷ rest) fits = by_crossed (has_crossed round) (crossed_fit layout rest fits.1)
  where
    by_crossed : (b : Bool) → AllFit layout (filter has_crossed rest)
        → AllFit layout (cond b (round ∷ filter has_crossed rest) (filter has_crossed rest))
    by_crossed true later = (fits.0, later)
    by_crossed false later = later

start_fits : (layout : Contents) (snapshot : List ControlState) (idle : List ℕ) → SuitsDevice layout snapshot idle
    → HistoryFits layout (length idle) (initial_history (items_of layout) snapshot idle)
start_fits layout snapshot idle suits = record {
  reports = record {
    snapshot = suits.fits;
    fixed = blank_parts_fit layout suits.laid;
    frames = length-replicate (length idle) 0;
  };
  current = tt;
}

-- ---- the bytes of a part are read as it was shown

reads : (layout : Contents) (inputs r : ℕ) (parts view : List ControlState) → IsSound layout inputs → IsInput layout r
    → FitsShown (items_of layout) parts → FitsView (items_of layout) view
    → ReadsAsShown layout r parts (part_bytes layout r parts) view
reads layout inputs r parts view sound input fits seen =
    parts_back layout r parts (part_bytes layout r parts) view
    (record {
      laid = sound.laid;
      input = input;
      fits = fits;
      empty_codes = sound.empty_codes;
      are_bytes = part_is_bytes layout r parts;
      encoding = part_encodes layout r parts sound.laid (can_send_all layout r parts sound.laid input fits);
    }) seen

abbrev events_by : Contents → List ℕ → List ControlState → Result ℕ ReportFault → List Event
events_by layout bytes view o = elim o [ Ok r ↦ read_events layout r bytes view | Err fault ↦ [] ]

abbrev view_by : Contents → List ℕ → List ControlState → Result ℕ ReportFault → List ControlState
view_by layout bytes view o = elim o [ Ok r ↦ read_view layout r bytes view | Err fault ↦ view ]

same_events : (layout : Contents) (inputs : ℕ) (view : List ControlState) (gone : List Round) → IsSound layout inputs
    → FitsView (items_of layout) view → AllFit layout gone
    → events_of_reports layout view (map (round_bytes layout) gone) ≡ events_of_rounds (items_of layout) view gone
same_events layout inputs view [] sound seen fits = refl
same_events layout inputs view (round ∷ gone) sound seen fits =
    let items : List Item = items_of layout in
    let bytes : List ℕ = round_bytes layout round in
    let now = reads layout inputs round.report round.parts view sound fits.0.input fits.0.shown seen in
    let next : List ControlState = view_after_part items round.report view round.parts in
    let view_is : view_after_report layout bytes view ≡ next = ap (view_by layout bytes view) now.report ∙ now.view in
    let events : events_of_report layout bytes view ≡ part_events items round.report view round.parts =
    ap (events_by layout bytes view) now.report ∙ now.events in
    ap (λ (es : List Event). es
    ++ events_of_reports layout (view_after_report layout bytes view) (map (round_bytes layout) gone)) events
    ∙ ap (λ (v : List ControlState). part_events items round.report view round.parts
    ++ events_of_reports layout v (map (round_bytes layout) gone)) view_is
    ∙ ap (λ (es : List Event). part_events items round.report view round.parts ++ es)
    (same_events layout inputs next gone sound (seen_is_view items round.report view round.parts seen fits.0.shown) fits.1)

-- ---- the report of a round ends at its host with its last piece

whole_is : (layout : Contents) (bytes : List ℕ) (o : Option ℕ) (r : ℕ) → whole_report layout bytes o ≡ Ok r → o ≡ Some r
whole_is layout bytes None r h = absurd (cc)
whole_is layout bytes (Some k) r h = by_length (nat_lt (length bytes) (report_bytes layout k)) h
  where
    by_length : (b : Bool) → cond {A = Result ℕ ReportFault} b (Err Short) (Ok k) ≡ Ok r → Some k ≡ Some r
    by_length true e = absurd (cc)
    by_length false e = let same : k ≡ r = cc in ap (λ (n : ℕ). Some n) same

begun_by : (layout : Contents) (bytes : List ℕ) (r : ℕ) → report_named layout bytes ≡ Ok r → report_begun layout bytes ≡ Some r
begun_by layout bytes r h = by_numbers layout.numbered h
  where
    by_first : (o : Option ℕ) → (elim o as (λ _. Result ℕ ReportFault) [ None ↦ Err Short | Some id ↦ whole_report layout bytes (position (is_input_with id) layout.reports) ]) ≡ Ok r
        → option_and_then (λ id. position (is_input_with id) layout.reports) o ≡ Some r
    by_first None e = absurd (cc)
    by_first (Some id) e = whole_is layout bytes (position (is_input_with id) layout.reports) r e

    by_numbers : (b : Bool)
        → cond b (elim (first_byte bytes) as (λ _. Result ℕ ReportFault) [ None ↦ Err Short | Some id ↦ whole_report layout bytes (position (is_input_with id) layout.reports) ])
        (whole_report layout bytes (position (is_input_with 0) layout.reports)) ≡ Ok r
        → cond b (option_and_then (λ id. position (is_input_with id) layout.reports) (first_byte bytes)) (position (is_input_with 0) layout.reports) ≡ Some r
    by_numbers true e = by_first (first_byte bytes) e
    by_numbers false e = whole_is layout bytes (position (is_input_with 0) layout.reports) r e

-- the length that is awaited
abbrev awaited_for : Contents → Option ℕ → ℕ
awaited_for layout o = elim o [ None ↦ MAX_REPORT_BYTES | Some k ↦ report_bytes layout k ]

awaits_all : (layout : Contents) (r : ℕ) (bytes : List ℕ) → report_named layout bytes ≡ Ok r → bytes_awaited layout bytes ≡ report_bytes layout r
awaits_all layout r bytes named = ap (awaited_for layout) (begun_by layout bytes r named)

part_ends : (layout : Contents) (inputs r : ℕ) (parts : List ControlState) → IsSound layout inputs → IsInput layout r
    → FitsShown (items_of layout) parts → ReportEnds 64 layout [] (part_pieces layout r parts)
part_ends layout inputs r parts sound input fits =
    let bytes : List ℕ = part_bytes layout r parts in
    let read = reads layout inputs r parts (blank (items_of layout)) sound input fits (initial_fits layout sound.laid) in
    let long : length bytes ≡ report_bytes layout r = part_length layout r parts in
    let awaited : bytes_awaited layout bytes ≡ length bytes = awaits_all layout r bytes read.report ∙ sym long in
    let pieces : pieces_of (items_of layout) r ≡ (length bytes - 1) / 64 + 1 =
    pieces_are layout r sound.laid input ∙ ap (λ (k : ℕ). (k - 1) / 64 + 1) (sym long) in
    let count : pieces_of (items_of layout) r - 1 ≡ (length bytes - 1) / 64 = omega (arith, pieces) in
    subst (λ (n : ℕ). ReportEnds 64 layout [] (cut_pieces 64 n bytes)) (sym count)
    (ends_so layout bytes awaited)
  where
    ends_so : (layout : Contents) (bytes : List ℕ) → bytes_awaited layout bytes ≡ length bytes
        → ReportEnds 64 layout [] (cut_pieces 64 ((length bytes - 1) / 64) bytes)
    ends_so layout bytes awaited = elim (cases_lt (length bytes) 64) [
      | inl lt ↦
          let none : (length bytes - 1) / 64 ≡ 0 = omega arith in
          subst (λ (n : ℕ). ReportEnds 64 layout [] (cut_pieces 64 n bytes)) (sym none)
          (whole_last 64 (length bytes) (bytes_awaited layout bytes) (length bytes) (inl lt))
      | inr ge ↦
          cut_ends 64 layout ((length bytes - 1) / 64) [] bytes (omega arith) (omega arith)
          (omega (arith, awaited, ge)) (inr (omega (arith, awaited)))
    ]

keeps_join : (layout : Contents) (xs ys : List PipeStep) → AllReportsEnd 64 layout xs → AllReportsEnd 64 layout ys
    → AllReportsEnd 64 layout (xs ++ ys)
keeps_join layout [] ys keeps more = more
keeps_join layout (x ∷ xs) ys keeps more = (keeps.0, keeps_join layout xs ys keeps.1 more)

opening_keeps : (layout : Contents) (inputs : ℕ) (earlier current : Option Round) → IsSound layout inputs
    → CurrentFits layout current → AllReportsEnd 64 layout (opening_step (part_pieces layout) earlier current)
opening_keeps layout inputs (Some round) current sound fits = tt
opening_keeps layout inputs None None sound fits = tt
opening_keeps layout inputs None (Some round) sound fits =
    (part_ends layout inputs round.report round.parts sound fits.input fits.shown, tt)

at_keeps : (layout : Contents) (inputs : ℕ) (c : RoundHistory) (step : OwnStep) → IsSound layout inputs
    → HistoryFits layout inputs c → AllReportsEnd 64 layout (pipe_steps_at (items_of layout) (part_pieces layout) c step)
at_keeps layout inputs c (Changes change) sound fits = tt
at_keeps layout inputs c Frame sound fits = tt
at_keeps layout inputs c (own.Polls fate) sound fits =
    keeps_join layout
    (opening_step (part_pieces layout) c.current (history_before_answer (items_of layout) c fate).current)
    (Polls Sends fate ∷ [])
    (opening_keeps layout inputs c.current (history_before_answer (items_of layout) c fate).current sound
    (answer_fits layout inputs c fate sound fits).current)
    (tt, tt)

all_keep : (layout : Contents) (inputs : ℕ) (c : RoundHistory) (steps : List OwnStep) → IsSound layout inputs
    → HistoryFits layout inputs c → AllReportsEnd 64 layout (pipe_steps_in (items_of layout) (part_pieces layout) c steps)
all_keep layout inputs c [] sound fits = tt
all_keep layout inputs c (step ∷ steps) sound fits =
    keeps_join layout (pipe_steps_at (items_of layout) (part_pieces layout) c step)
    (pipe_steps_in (items_of layout) (part_pieces layout) (history_after_step (items_of layout) c step) steps)
    (at_keeps layout inputs c step sound fits)
    (all_keep layout inputs (history_after_step (items_of layout) c step) steps sound (step_fits layout inputs c step sound fits))

-- The headline of a virtual device, by that of any device.
pub delivers_rounds : (addr endpoint : ℕ) (layout : Contents) (snapshot : List ControlState) (idle : List ℕ)
    (steps : List OwnStep) → SuitsDevice layout snapshot idle
    → DeliversRounds addr endpoint layout snapshot idle steps
delivers_rounds addr endpoint layout snapshot idle steps suits =
    let items : List Item = items_of layout in
    let c : RoundHistory = initial_history items snapshot idle in
    let sound : IsSound layout (length idle) =
    record { laid = suits.laid; inputs_first = suits.inputs; empty_codes = suits.empty_codes; zeros = suits.zeros } in
    let fits = start_fits layout snapshot idle suits in
    (headline 64 addr endpoint layout (pipe_steps_in items (part_pieces layout) c steps)
    (all_keep layout (length idle) c steps sound fits)).events
    ∙ ap (events_of_reports layout (blank items)) (parts_cross layout snapshot idle steps)
    ∙ same_events layout (length idle) (blank items) (crossed_rounds items snapshot idle steps) sound (initial_fits layout suits.laid)
    (crossed_fit layout (rounds items steps c) (rounds_fit layout (length idle) c steps sound fits))
