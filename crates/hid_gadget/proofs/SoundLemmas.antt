-- A device stays sound through changes, frames, polls and requests.
use Rattle.std.proofs.Common.{◌≡◌, ◌∙◌, ℕ, zero, suc, ◌+◌, ◌<◌, Bool, true, false, not, ◌&&◌, cond, List, length, map, min, Option, None, Some, Ok, Err, refl, ap, sym, subst, arith}
use Rattle.std.specs.Prelude.{if◌then◌else◌, unwrap_or}
use Rattle.std.specs.List.{find, range_with_len, slice_get, slice_set}
use Rattle.std.proofs.lemmas.Bool.Decides.{nat_tests}
use Rattle.std.proofs.lemmas.List.{length-map, length-replicate, length-set}
use Rattle.std.proofs.lemmas.Option.{slice_get-get_or, slice_get_within, unwrap_or-slice_get}
use Rattle.hid_report_descriptor.specs.declared.limits.Limits.TheVariants.{Bus}
use Rattle.hid_layout.specs.declared.control.Control.{Control}
use Rattle.hid_layout.specs.Controls.{Item, control_of, controls_of_form, form_at, items_of}
use Rattle.hid_layout.specs.Reports.{IsLayout}
use Rattle.hid_layout.proofs.WellFormed.{layout_of_accepted}
use Rattle.hid_snapshots.specs.declared.change.Change.{Change}
use Rattle.hid_snapshots.specs.declared.control_state.ControlState.{ControlState}
use Rattle.hid_snapshots.specs.declared.control_state.ControlState.TheVariants.{Absent}
use Rattle.hid_snapshots.specs.ControlStates.{FitsShown, FitsSnapshot}
use Rattle.hid_snapshots.specs.Parts.{IsInput, shown_parts}
use Rattle.hid_snapshots.specs.Pieces.{is_last_piece, pieces_of}
use Rattle.hid_snapshots.specs.Snapshots.{OrFault, change_at, changed_state, snapshot_after, state_at, target, with_state}
use Rattle.hid_snapshots.proofs.ItemLemmas.{control_found}
use Rattle.hid_snapshots.proofs.PieceLemmas.{some_piece}
use Rattle.hid_snapshots.proofs.ReportLemmas.{bytes_are_of_part, can_send_all}
use Rattle.hid_snapshots.proofs.ShownLemmas.{blank_parts_fit, shown_again, shown_fits, taken_fits}
use Rattle.hid_snapshots.proofs.SnapshotLemmas.{changes_fit}
use Rattle.usb_control.specs.declared.setup.Setup.{Setup}
use Rattle.usb_control.specs.SetupBytes.{reads}
use Rattle.hid_bus.specs.ReportState.{ReportState, due_where, is_due, most_frames, with_abort}
use Rattle.hid_device.specs.declared.decisions.PendingWrite.{PendingWrite}
use Rattle.hid_device.specs.declared.decisions.PendingWrite.TheVariants as pendings
use Rattle.hid_device.specs.Core.{CoreState, IsSound, changed_core, configured_core, core_after_ack, core_after_due, core_at_poll, core_with_due_round, core_with_round, framed_core, round_after_piece}
use Rattle.hid_device.specs.Inputs.{input_count}
use Rattle.hid_device.specs.Outputs.{with_report}
use Rattle.hid_device.specs.RequestDecisions.{RequestDecision, Reads, Refuses, Writes}
use Rattle.hid_device.specs.RequestTable.{core_after_decision, core_after_write, core_table, decide, with_idle_time}
use Rattle.hid_device.proofs.AckLemmas.{sound_at_piece, sound_closed, sound_halted}
use Rattle.hid_device.proofs.OutputLemmas.{idle_length, kept_are, sound_framed, sound_with}
use Rattle.hid_gadget.specs.WholeReports.{core_after_poll, core_after_polls, core_after_report, pieces_taken}
use Rattle.hid_gadget.specs.WholeTransfers.{after_transfer}
use Rattle.hid_gadget.proofs.PartEncodingLemmas.{part_encodes, part_is_bytes}

-- its layout is one
pub laid_by : (core : CoreState) → IsSound core → IsLayout core.layout
laid_by core sound = subst IsLayout (sym sound.lays.laid) (layout_of_accepted Bus core.descriptor sound.lays.items sound.lays.accepted)

-- ---- changes and frames

ok_same : (x y : List ControlState) → (let o : OrFault (List ControlState) = Ok x in let p : OrFault (List ControlState) = Ok y in o ≡ p) → x ≡ y
ok_same x y k = cc

control_fits : (items : List Item) (states now : List ControlState) (change : Change) (control : Control)
    (o : OrFault ControlState) → FitsSnapshot items states → control_of items (target change) ≡ Some control
    → changed_state control.kind (controls_of_form (form_at items (target change).item)) (state_at states (target change).item) change ≡ o
    → with_state states (target change).item o ≡ Ok now → FitsSnapshot items now
control_fits items states now change control (Err fault) fits e f g = absurd (cc)
control_fits items states now change control (Ok new) fits e f g =
    let i : ℕ = (target change).item in
    let found = control_found items (target change) control e in
    let within : i < length states = omega (arith, fits.one_each, slice_get_within items i found.item found.there) in
    let there : slice_get states i ≡ Some (state_at states i) =
    slice_get-get_or states i Absent within ∙ ap (λ (state : ControlState). Some state) (sym (unwrap_or-slice_get states i Absent)) in
    subst (FitsSnapshot items) (ok_same (slice_set states i new) now g)
    (changes_fit items states change control (controls_of_form (form_at items i)) (state_at states i) new (Ok tt) found refl there f fits)

snapshot_fits : (items : List Item) (states now : List ControlState) (change : Change) (o : Option Control)
    → FitsSnapshot items states → control_of items (target change) ≡ o → change_at items states change o ≡ Ok now
    → FitsSnapshot items now
snapshot_fits items states now change None fits e h = absurd (cc)
snapshot_fits items states now change (Some control) fits e h =
    control_fits items states now change control
    (changed_state control.kind (controls_of_form (form_at items (target change).item)) (state_at states (target change).item) change)
    fits e refl h

-- a core by what a change does to the snapshot
abbrev changed_by : CoreState → OrFault (List ControlState) → CoreState
changed_by core o = let d = core.reports in record core {
  reports = elim o [
    | Ok states ↦ record { snapshot = states; fixed = d.fixed; frames = d.frames; idle = d.idle; aborted = d.aborted }
    | Err fault ↦ d
  ];
}

pub sound_changed : (core : CoreState) (change : Change) → IsSound core → IsSound (changed_core core change)
sound_changed core change before = by_result (snapshot_after (items_of core.layout) core.reports.snapshot change) refl
  where
    by_result : (o : OrFault (List ControlState)) → snapshot_after (items_of core.layout) core.reports.snapshot change ≡ o
        → IsSound (changed_by core o)
    by_result (Ok states) e = record {
      lays = before.lays;
      empty_codes = before.empty_codes;
      zeros = before.zeros;
      inputs_first = before.inputs_first;
      snapshot = snapshot_fits (items_of core.layout) core.reports.snapshot states change (control_of (items_of core.layout) (target change)) before.snapshot refl e;
      fixed = before.fixed;
      each_frames = before.each_frames;
      each_idle = before.each_idle;
      each_cut = before.each_cut;
      of_input = before.of_input;
      piece = before.piece;
      sends = before.sends;
      quiet = before.quiet;
      outputs = before.outputs;
    }
    by_result (Err fault) e = before

-- a change leaves the parts that are fixed
pub change_keeps_fixed : (core : CoreState) (change : Change) → (changed_core core change).reports.fixed ≡ core.reports.fixed
change_keeps_fixed core change = by_result (snapshot_after (items_of core.layout) core.reports.snapshot change)
  where
    by_result : (o : OrFault (List ControlState)) → (changed_by core o).reports.fixed ≡ core.reports.fixed
    by_result (Ok states) = refl
    by_result (Err fault) = refl

pub sound_at_frame : (core : CoreState) → IsSound core → IsSound (framed_core core)
sound_at_frame core before =
    sound_framed core (map (λ n. min (n + 1) most_frames) core.reports.frames) before
    (length-map core.reports.frames (λ n. min (n + 1) most_frames) ∙ before.each_frames)

-- ---- polls

-- a round opens
opens_sound : (core : CoreState) (r : ℕ) → IsSound core → r < input_count core.layout.reports → core.halted ≡ false
    → IsSound (core_with_round core r)
opens_sound core r before within going =
    let layout = core.layout in
    let items = items_of layout in
    let laid = laid_by core before in
    let d = core.reports in
    let parts : List ControlState = shown_parts items r d.snapshot d.fixed in
    let shown : FitsShown items parts = shown_fits layout r d.snapshot d.fixed laid before.snapshot before.fixed in
    let input : IsInput layout r = before.inputs_first.first r within in
    record {
      lays = before.lays;
      empty_codes = before.empty_codes;
      zeros = before.zeros;
      inputs_first = before.inputs_first;
      snapshot = taken_fits items r d.snapshot parts before.zeros (sym (shown_again items r d.snapshot d.fixed)) before.snapshot shown;
      fixed = shown;
      each_frames = length-set d.frames r 0 ∙ before.each_frames;
      each_idle = before.each_idle;
      each_cut = length-set d.aborted r false ∙ before.each_cut;
      of_input = within;
      piece = some_piece items r;
      sends = record {
        are_bytes = part_is_bytes layout r parts;
        shows = part_encodes layout r parts laid (can_send_all layout r parts laid input shown);
        only = λ other are is. bytes_are_of_part layout r parts other laid are is;
      };
      quiet = going;
      outputs = before.outputs;
    }

some_same : (x y : ℕ) → (let o : Option ℕ = Some x in let p : Option ℕ = Some y in o ≡ p) → x ≡ y
some_same x y k = cc

found_within : (p : ℕ → Bool) (n a r : ℕ) → find p (range_with_len a n) ≡ Some r → r < a + n
found_within p zero a r h = absurd (cc)
found_within p (suc n) a r h = by_test (p a) h (found_within p n (a + 1) r)
  where
    by_test : (b : Bool) → cond b (Some a) (find p (range_with_len (a + 1) n)) ≡ Some r → (find p (range_with_len (a + 1) n) ≡ Some r → r < (a + 1) + n) → r < a + suc n
    by_test true e later = let same : a ≡ r = some_same a r e in omega (arith, same)
    by_test false e later = let within : r < (a + 1) + n = later e in omega (arith, within)

-- a report that is due is an Input report, of an endpoint that isn't halted
due_within : (items : List Item) (halted : Bool) (d : ReportState) (r : ℕ) → due_where items halted d ≡ Some r
    → (halted ≡ false) × (r < length d.frames)
due_within items true d r is = absurd (cc)
due_within items false d r is =
    let within : r < 0 + length d.frames = found_within (is_due items d) (length d.frames) 0 r is in
    (refl, omega (arith, within))

due_sound : (core : CoreState) (due : Option ℕ) → IsSound core → due_where (items_of core.layout) core.halted core.reports ≡ due
    → IsSound (core_with_due_round core due)
due_sound core None before is = before
due_sound core (Some r) before is =
    let due = due_within (items_of core.layout) core.halted core.reports r is in
    opens_sound core r before (omega (arith, due.1, before.each_frames)) due.0

pub sound_at_poll : (core : CoreState) → IsSound core → IsSound (core_at_poll core)
sound_at_poll core before = by_round core.current
  where
    by_round : (o : Option ℕ) → IsSound (core_after_due core o)
    by_round None = due_sound core (due_where (items_of core.layout) core.halted core.reports) before refl
    by_round (Some r) = before

-- a token leaves the layout, and whether the device is configured
pub at_poll_layout : (core : CoreState) → (core_at_poll core).layout ≡ core.layout
at_poll_layout core = by_round core.current
  where
    by_due : (o : Option ℕ) → (core_with_due_round core o).layout ≡ core.layout
    by_due None = refl
    by_due (Some r) = refl

    by_round : (o : Option ℕ) → (core_after_due core o).layout ≡ core.layout
    by_round (Some r) = refl
    by_round None = by_due (due_where (items_of core.layout) core.halted core.reports)

pub at_poll_configured : (core : CoreState) → (core_at_poll core).is_configured ≡ core.is_configured
at_poll_configured core = by_round core.current
  where
    by_due : (o : Option ℕ) → (core_with_due_round core o).is_configured ≡ core.is_configured
    by_due None = refl
    by_due (Some r) = refl

    by_round : (o : Option ℕ) → (core_after_due core o).is_configured ≡ core.is_configured
    by_round (Some r) = refl
    by_round None = by_due (due_where (items_of core.layout) core.halted core.reports)

-- an acknowledgement
abbrev acked_as : CoreState → ℕ → Bool → CoreState
acked_as core r last = record core {
  current = round_after_piece (Some r) (cond last None (Some (core.piece + 1)));
  piece = unwrap_or (cond last None (Some (core.piece + 1))) 0;
  toggle = not core.toggle;
}

ack_sound_at : (core : CoreState) (o : Option ℕ) → IsSound (record core { current = o })
    → IsSound (core_after_ack (record core { current = o }))
ack_sound_at core None before = sound_closed (record core { current = None }) core.toggle before
ack_sound_at core (Some r) before = by_last (is_last_piece (items_of core.layout) r core.piece) refl
  where
    by_last : (b : Bool) → is_last_piece (items_of core.layout) r core.piece ≡ b → IsSound (acked_as core r b)
    by_last true e = sound_closed (record core { current = Some r }) (not core.toggle) before
    by_last false e =
        let more : core.piece + 1 < pieces_of (items_of core.layout) r = grind (arith, nat_tests, e) in
        sound_at_piece (record core { current = Some r }) (not core.toggle) (core.piece + 1) before more

sound_after_ack : (core : CoreState) → IsSound core → IsSound (core_after_ack core)
sound_after_ack core before = ack_sound_at core core.current before

pub sound_after_polls : (n : ℕ) (core : CoreState) → IsSound core → IsSound (core_after_polls n core)
sound_after_polls zero core before = before
sound_after_polls (suc n) core before =
    sound_after_polls n (core_after_poll core) (sound_after_ack (core_at_poll core) (sound_at_poll core before))

pub sound_after_report : (core : CoreState) (room : ℕ) → IsSound core → IsSound (core_after_report core room)
sound_after_report core room before = by_configured core.is_configured
  where
    by_configured : (b : Bool) → IsSound (if b then core_after_polls (pieces_taken core room) (core_at_poll core) else core)
    by_configured true = sound_after_polls (pieces_taken core room) (core_at_poll core) (sound_at_poll core before)
    by_configured false = before

-- ---- requests

answered_sound : (core : CoreState) (answer : Option (List ℕ)) (pending : PendingWrite) → IsSound core
    → IsSound (record core { answer = answer; pending = pending })
answered_sound core answer pending before = record {
  lays = before.lays;
  empty_codes = before.empty_codes;
  zeros = before.zeros;
  inputs_first = before.inputs_first;
  snapshot = before.snapshot;
  fixed = before.fixed;
  each_frames = before.each_frames;
  each_idle = before.each_idle;
  each_cut = before.each_cut;
  of_input = before.of_input;
  piece = before.piece;
  sends = before.sends;
  quiet = before.quiet;
  outputs = before.outputs;
}

decided_sound : (core : CoreState) (decision : RequestDecision) → IsSound core → IsSound (core_after_decision core decision)
decided_sound core Refuses before = answered_sound core None pendings.Nothing before
decided_sound core (Reads bytes) before = answered_sound core (Some bytes) pendings.Nothing before
decided_sound core (Writes pending) before = answered_sound core None pending before

configured_sound : (core : CoreState) → IsSound core → IsSound (configured_core core)
configured_sound core before = record {
  lays = before.lays;
  empty_codes = before.empty_codes;
  zeros = before.zeros;
  inputs_first = before.inputs_first;
  snapshot = before.snapshot;
  fixed = blank_parts_fit core.layout (laid_by core before);
  each_frames = length-replicate (length core.reports.idle) 0 ∙ before.each_idle;
  each_idle = before.each_idle;
  each_cut = length-replicate (length core.reports.idle) false ∙ before.each_idle;
  of_input = tt;
  piece = refl;
  sends = tt;
  quiet = tt;
  outputs = before.outputs;
}

abort_sound : (core : CoreState) (o : Option ℕ) (toggle halted : Bool) → IsSound core
    → IsSound (record core { reports = with_abort o core.reports; current = None; piece = 0; toggle = toggle; halted = halted })
abort_sound core None toggle halted before = sound_halted core core.reports.aborted toggle halted before before.each_cut
abort_sound core (Some r) toggle halted before =
    sound_halted core (slice_set core.reports.aborted r true) toggle halted before
    (length-set core.reports.aborted r true ∙ before.each_cut)

written_sound : (core : CoreState) (bytes : List ℕ) (pending : PendingWrite) → IsSound core → IsSound (core_after_write core bytes pending)
written_sound core bytes pendings.Nothing before = before
written_sound core bytes pendings.Configure before = configured_sound core before
written_sound core bytes (pendings.Keep i) before =
    sound_with core core.is_configured core.reports.idle core.protocol (with_report core.outputs i bytes) before before.each_idle
    (kept_are core.layout core.outputs i bytes before.outputs)
written_sound core bytes (pendings.Idle report time) before =
    sound_with core core.is_configured (with_idle_time core.reports.idle report time) core.protocol core.outputs before
    (idle_length core.reports.idle report time ∙ before.each_idle) before.outputs
written_sound core bytes (pendings.Protocol protocol) before =
    sound_with core core.is_configured core.reports.idle protocol core.outputs before before.each_idle before.outputs
written_sound core bytes pendings.Halt before = abort_sound core core.current core.toggle true before
written_sound core bytes pendings.Clear before = abort_sound core core.current false false before

pub sound_after_transfer : (core : CoreState) (setup : Setup) (written : List ℕ) → IsSound core
    → IsSound (after_transfer core_table core setup written)
sound_after_transfer core setup written before =
    by_effect (core_table.accepts core setup && not (reads setup))
  where
    decided : IsSound (core_table.prepared core setup)
    decided = decided_sound core (decide core setup) before

    by_effect : (b : Bool) → IsSound (if b then core_table.applied (core_table.prepared core setup) written else core_table.prepared core setup)
    by_effect true = written_sound (core_table.prepared core setup) written (core_table.prepared core setup).pending decided
    by_effect false = decided
