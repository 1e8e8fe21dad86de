-- A receiver of a gadget's reports gives the events of the history of its rounds.
use Rattle.std.proofs.Common.{◌≡◌, ◌∙◌, ℕ, zero, suc, ◌+◌, ◌-◌, ◌*◌, ◌<◌, ◌≤◌, ◌||◌, inl, inr, Bool, true, false, not, ◌&&◌, cond, List, [], ◌∷◌, ◌++◌, length, take, drop, Option, Some, None, Result, Ok, Err, refl, ap, sym, subst, arith, append_assoc, append-nil}
use Rattle.std.specs.Prelude.{if◌then◌else◌, nat_le, nat_lt, position, replicate}
use Rattle.std.specs.Option.{option_and_then}
use Rattle.std.proofs.Math.Seq.{take-add}
use Rattle.std.proofs.lemmas.Bool.{cases_lt}
use Rattle.std.proofs.lemmas.Bool.Decides.{nat_tests}
use Rattle.std.proofs.lemmas.List.{length-drop, length-take-le, take_all}
use Rattle.hid_report_descriptor.specs.declared.limits.TheConstants.{MAX_REPORT_BYTES}
use Rattle.hid_layout.specs.Controls.{Item, items_of}
use Rattle.hid_layout.specs.Layout.{Contents}
use Rattle.hid_layout.specs.Reports.{IsLayout, report_bytes}
use Rattle.hid_snapshots.specs.declared.change.Change.{Change}
use Rattle.hid_snapshots.specs.declared.control_state.ControlState.{ControlState}
use Rattle.hid_snapshots.specs.declared.event.Event.{Event}
use Rattle.hid_snapshots.specs.declared.fault.ReportFault.{ReportFault}
use Rattle.hid_snapshots.specs.declared.fault.ReportFault.TheVariants.{Short}
use Rattle.hid_snapshots.specs.ControlStates.{FitsView, blank}
use Rattle.hid_snapshots.specs.Parts.{IsInput}
use Rattle.hid_snapshots.specs.PartBytes.{part_bytes}
use Rattle.hid_snapshots.specs.Pieces.{is_last_piece, pieces_for, pieces_of}
use Rattle.hid_snapshots.specs.Views.{view_after_part}
use Rattle.hid_snapshots.proofs.PieceLemmas.{pieces_are}
use Rattle.hid_usages.specs.PartsReadBack.{ReadsAsShown, ShowsParts}
use Rattle.hid_usages.specs.Reading.{bytes_awaited, first_byte, is_input_with, report_begun, report_named, whole_report}
use Rattle.hid_usages.specs.Receiving.{ReceiverState, bytes_with, ends_with, events_of_report, is_whole, view_after_report, without_collected}
use Rattle.hid_usages.specs.Taking.{read_events, read_view}
use Rattle.hid_usages.proofs.BackLemmas.{blank_view}
use Rattle.hid_usages.proofs.CrossingLemmas.{parts_back, seen_is_view}
use Rattle.usb_transact.specs.declared.transaction.Fate.TheVariants.{Clean, ReplyLost}
use Rattle.usb_control.specs.declared.setup.Setup.{Setup}
use Rattle.usb_control.specs.SetupBytes.{reads}
use Rattle.hid_requests.specs.RequestKinds.{request_kind_of}
use Rattle.hid_bus.specs.ReportState.{ReportState, due_where}
use Rattle.hid_bus.specs.Rounds.{OwnStep, Polls, events_of_epoch, part_events}
use Rattle.hid_bus.specs.LinkState.{LinkState, events_of_steps, initial_link, poll_events, state_after_answer, state_after_steps, state_at_token, with_open_report}
use Rattle.hid_bus.specs.DeviceHistory.{AreWithinEpoch, BusEvent, delivered_events, events_of_history, state_after, state_after_all, steps_as_events}
use Rattle.hid_bus.proofs.ScheduleLemmas.{delivers_epoch, epoch_is_told, own_stands, own_told}
use Rattle.hid_device.specs.declared.decisions.PendingWrite.{PendingWrite}
use Rattle.hid_device.specs.declared.decisions.PendingWrite.TheVariants as pendings
use Rattle.hid_device.specs.Core.{CoreState, IsSound, changed_core, core_after_due, core_at_poll, core_with_due_round, framed_core}
use Rattle.hid_device.specs.RequestDecisions.{RequestDecision, Reads, Refuses, Writes}
use Rattle.hid_device.specs.RequestTable.{core_after_decision, core_after_write, core_table, decide}
use Rattle.hid_gadget.specs.declared.outcomes.Poll.{Poll}
use Rattle.hid_gadget.specs.declared.outcomes.Poll.TheVariants.{Done, TooSmall}
use Rattle.hid_gadget.specs.WholeReports.{bytes_fitting, bytes_left, core_after_polls, end_of_pieces, end_of_round, fitting_pieces, pieces_fitting}
use Rattle.hid_gadget.specs.WholeTransfers.{after_transfer}
use Rattle.hid_gadget.specs.ReceivedReports.{AreInStep, Asks, Changes, Frame, GadgetStep, GivesEvents, IsFresh, Transfers, bus_events, bus_events_of, bytes_before, core_after_step, events_after, events_at_step, events_of_crossed, events_of_write, events_received, link_with, new_receiver, polls_of, receiver_after, receiver_after_step, set_configuration_1, write_of_transfer}
use Rattle.hid_gadget.proofs.PollLemmas.{closed_with, flips, open_at, polled_all, polled_some}
use Rattle.hid_gadget.proofs.ResultLemmas.{done_by}
use Rattle.hid_gadget.proofs.SoundLemmas.{at_poll_configured, at_poll_layout, change_keeps_fixed, laid_by, sound_after_report, sound_after_transfer, sound_at_frame, sound_at_poll, sound_changed}
use Rattle.hid_gadget.proofs.TakeLemmas.{fits_open}

-- ---- where a report ends at its receiver

whole_is : (layout : Contents) (bytes : List ℕ) (o : Option ℕ) (r : ℕ) → whole_report layout bytes o ≡ Ok r → o ≡ Some r
whole_is layout bytes None r h = absurd (cc)
whole_is layout bytes (Some k) r h = by_length (nat_lt (length bytes) (report_bytes layout k)) h
  where
    by_length : (b : Bool) → cond {A = Result ℕ ReportFault} b (Err Short) (Ok k) ≡ Ok r → Some k ≡ Some r
    by_length true e = absurd (cc)
    by_length false e = let same : k ≡ r = cc in ap (λ (n : ℕ). Some n) same

begun_by : (layout : Contents) (bytes : List ℕ) (r : ℕ) → report_named layout bytes ≡ Ok r → report_begun layout bytes ≡ Some r
begun_by layout bytes r h = by_numbers layout.numbered h
  where
    by_first : (o : Option ℕ) → (elim o as (λ _. Result ℕ ReportFault) [ None ↦ Err Short | Some id ↦ whole_report layout bytes (position (is_input_with id) layout.reports) ]) ≡ Ok r
        → option_and_then (λ id. position (is_input_with id) layout.reports) o ≡ Some r
    by_first None e = absurd (cc)
    by_first (Some id) e = whole_is layout bytes (position (is_input_with id) layout.reports) r e

    by_numbers : (b : Bool)
        → cond b (elim (first_byte bytes) as (λ _. Result ℕ ReportFault) [ None ↦ Err Short | Some id ↦ whole_report layout bytes (position (is_input_with id) layout.reports) ])
        (whole_report layout bytes (position (is_input_with 0) layout.reports)) ≡ Ok r
        → cond b (option_and_then (λ id. position (is_input_with id) layout.reports) (first_byte bytes)) (position (is_input_with 0) layout.reports) ≡ Some r
    by_numbers true e = by_first (first_byte bytes) e
    by_numbers false e = whole_is layout bytes (position (is_input_with 0) layout.reports) r e

-- the length that is awaited
abbrev awaited_for : Contents → Option ℕ → ℕ
awaited_for layout o = elim o [ None ↦ MAX_REPORT_BYTES | Some k ↦ report_bytes layout k ]

first_of : (n : ℕ) (bytes : List ℕ) → first_byte (take (suc n) bytes) ≡ first_byte bytes
first_of n [] = refl
first_of n (b ∷ bytes) = refl

-- the first bytes of a report say how many it has
awaits_all : (layout : Contents) (r n : ℕ) (bytes : List ℕ) → report_named layout bytes ≡ Ok r → 0 < n
    → bytes_awaited layout (take n bytes) ≡ report_bytes layout r
awaits_all layout r zero bytes named some = absurd (omega (arith, some))
awaits_all layout r (suc n) bytes named some =
    ap (λ (first : Option ℕ). awaited_for layout (if layout.numbered then option_and_then (λ id. position (is_input_with id) layout.reports) first else position (is_input_with 0) layout.reports))
    (first_of n bytes)
    ∙ ap (awaited_for layout) (begun_by layout bytes r named)

-- a report goes on while full packets of it came and bytes of it are to come
goes_on : (layout : Contents) (r n last : ℕ) (bytes : List ℕ) → report_named layout bytes ≡ Ok r → length bytes ≡ report_bytes layout r
    → 0 < n → n < length bytes → 64 ≤ last → is_whole 64 layout (take n bytes) last ≡ false
goes_on layout r n last bytes named long some more full =
    let awaited : bytes_awaited layout (take n bytes) ≡ report_bytes layout r = awaits_all layout r n bytes named some in
    let came : length (take n bytes) ≡ n = length-take-le n bytes (omega (arith, more)) in
    let not_short : nat_lt last 64 ≡ false = grind (arith, nat_tests, full) in
    let over : n < report_bytes layout r = omega (arith, more, long) in
    let not_all : nat_le (report_bytes layout r) n ≡ false = grind (arith, nat_tests, over) in
    ap (λ (b : Bool). b || nat_le (bytes_awaited layout (take n bytes)) (length (take n bytes))) not_short
    ∙ ap (λ (k : ℕ). nat_le k (length (take n bytes))) awaited
    ∙ ap (λ (k : ℕ). nat_le (report_bytes layout r) k) came
    ∙ not_all

either_way : (a b : Bool) → b ≡ true → (a || b) ≡ true
either_way true b is = refl
either_way false b is = is

-- a report ends with its last byte
pub ends_so : (layout : Contents) (r last : ℕ) (bytes : List ℕ) → report_named layout bytes ≡ Ok r → length bytes ≡ report_bytes layout r
    → is_whole 64 layout bytes last ≡ true
ends_so layout r last bytes named long =
    let awaited : bytes_awaited layout bytes ≡ report_bytes layout r = ap (awaited_for layout) (begun_by layout bytes r named) in
    let fits : bytes_awaited layout bytes ≤ length bytes = omega (arith, awaited, long) in
    either_way (nat_lt last 64) (nat_le (bytes_awaited layout bytes) (length bytes)) (grind (arith, nat_tests, fits))

-- ---- what is read of a report

pub view_named : (layout : Contents) (r : ℕ) (bytes : List ℕ) (view : List ControlState) → report_named layout bytes ≡ Ok r
    → view_after_report layout bytes view ≡ read_view layout r bytes view
view_named layout r bytes view named =
    ap (λ (o : Result ℕ ReportFault). elim o [ Ok n ↦ read_view layout n bytes view | Err fault ↦ view ]) named

pub events_named : (layout : Contents) (r : ℕ) (bytes : List ℕ) (view : List ControlState) → report_named layout bytes ≡ Ok r
    → events_of_report layout bytes view ≡ read_events layout r bytes view
events_named layout r bytes view named =
    ap (λ (o : Result ℕ ReportFault). let events : List Event = elim o [ Ok n ↦ read_events layout n bytes view | Err fault ↦ [] ] in events) named

-- ---- the polls of an open round

-- the link state after a clean poll of an open round, by whether its piece is the last one
abbrev polled_link : CoreState → ℕ → ℕ → Bool → List ControlState → Bool → LinkState
polled_link c r piece toggle view last = record {
  reports = c.reports;
  current = cond last None (Some (record { report = r; pieces = pieces_of (items_of c.layout) r; piece = piece + 1; crossed = false }));
  toggle = not toggle;
  view = cond (last && true) (view_after_part (items_of c.layout) r view c.reports.fixed) view;
  halted = c.halted;
}

-- its events
abbrev polled_events : CoreState → ℕ → List ControlState → Bool → List Event
polled_events c r view last = cond (last && true) (part_events (items_of c.layout) r view c.reports.fixed) []

-- what some polls give: these events, and this link state after them
record PollsGive (items : List Item) (s : LinkState) (n : ℕ) (told : List Event) (after : LinkState) : Type 0 where
  events : events_of_steps items s (replicate n (Polls Clean)) ≡ told
  stands : state_after_steps items s (replicate n (Polls Clean)) ≡ after

-- the polls of the pieces that are left of a round
polls_give : (n : ℕ) (c : CoreState) (r piece : ℕ) (toggle : Bool) (view : List ControlState) → piece + suc n ≡ pieces_of (items_of c.layout) r
    → PollsGive (items_of c.layout) (link_with (open_at c r piece toggle) view) (suc n)
    (part_events (items_of c.layout) r view c.reports.fixed)
    (link_with (closed_with c (flips (suc n) toggle)) (view_after_part (items_of c.layout) r view c.reports.fixed))
polls_give zero c r piece toggle view all =
    let last : is_last_piece (items_of c.layout) r piece ≡ true =
    (let l : nat_le (pieces_of (items_of c.layout) r) (piece + 1) ≡ true = grind (arith, nat_tests, all) in l) in
    record {
      events = append-nil (polled_events c r view (is_last_piece (items_of c.layout) r piece)) ∙ ap (polled_events c r view) last;
      stands = ap (polled_link c r piece toggle view) last;
    }
polls_give (suc n) c r piece toggle view all =
    let items = items_of c.layout in
    let rest_steps : List OwnStep = replicate (suc n) (Polls Clean) in
    let more : is_last_piece items r piece ≡ false =
    (let l : nat_le (pieces_of items r) (piece + 1) ≡ false = grind (arith, nat_tests, all) in l) in
    let rest = polls_give n c r (piece + 1) (not toggle) view (omega (arith, all)) in
    record {
      events = ap (λ (b : Bool). polled_events c r view b ++ events_of_steps items (polled_link c r piece toggle view b) rest_steps) more
          ∙ rest.events;
      stands = ap (λ (b : Bool). state_after_steps items (polled_link c r piece toggle view b) rest_steps) more ∙ rest.stands;
    }

-- the polls of pieces before the last one give no event
polls_before : (n : ℕ) (c : CoreState) (r piece : ℕ) (toggle : Bool) (view : List ControlState) → piece + n < pieces_of (items_of c.layout) r
    → PollsGive (items_of c.layout) (link_with (open_at c r piece toggle) view) n []
    (link_with (open_at c r (piece + n) (flips n toggle)) view)
polls_before zero c r piece toggle view few = record {
  events = refl;
  stands = ap (λ (k : ℕ). link_with (open_at c r k toggle) view) (let e : piece ≡ piece + 0 = omega arith in e);
}
polls_before (suc n) c r piece toggle view few =
    let items = items_of c.layout in
    let rest_steps : List OwnStep = replicate n (Polls Clean) in
    let more : is_last_piece items r piece ≡ false =
    (let l : nat_le (pieces_of items r) (piece + 1) ≡ false = grind (arith, nat_tests, few) in l) in
    let rest = polls_before n c r (piece + 1) (not toggle) view (omega (arith, few)) in
    record {
      events = ap (λ (b : Bool). polled_events c r view b ++ events_of_steps items (polled_link c r piece toggle view b) rest_steps) more
          ∙ rest.events;
      stands = ap (λ (b : Bool). state_after_steps items (polled_link c r piece toggle view b) rest_steps) more ∙ rest.stands
          ∙ ap (λ (k : ℕ). link_with (open_at c r k (flips n (not toggle))) view) (let e : piece + 1 + n ≡ piece + suc n = omega arith in e);
    }

-- the first poll finds the round that its token opened
polls_from : (items : List Item) (s opened : LinkState) (n : ℕ) (told : List Event) (after : LinkState) → state_at_token items s ≡ opened
    → state_at_token items opened ≡ opened → 0 < n → PollsGive items opened n told after → PollsGive items s n told after
polls_from items s opened zero told after at again some gives = absurd (omega (arith, some))
polls_from items s opened (suc n) told after at again some gives =
    let same : state_at_token items s ≡ state_at_token items opened = at ∙ sym again in
    let rest : List OwnStep = replicate n (Polls Clean) in
    record {
      events = ap (λ (x : LinkState). poll_events items x Clean ++ events_of_steps items (state_after_answer items x Clean) rest) same ∙ gives.events;
      stands = ap (λ (x : LinkState). state_after_steps items (state_after_answer items x Clean) rest) same ∙ gives.stands;
    }

-- ---- a transfer, once a round was opened where one is due

-- what a transfer gives, of a core with this open round, from a link state before its token on
record AskGives (opened : CoreState) (current : Option ℕ) (receiving : ReceiverState) (s : LinkState) (room : ℕ) : Type 0 where
  events : events_after (end_of_round room opened current) (bytes_fitting room opened current) receiving
      ≡ events_of_steps (items_of opened.layout) s (polls_of (end_of_round room opened current) (pieces_fitting room opened current))
  stands : link_with (core_after_polls (pieces_fitting room opened current) opened)
      (receiver_after (end_of_round room opened current) (bytes_fitting room opened current) receiving).view
      ≡ state_after_steps (items_of opened.layout) s (polls_of (end_of_round room opened current) (pieces_fitting room opened current))
  layout : (receiver_after (end_of_round room opened current) (bytes_fitting room opened current) receiving).layout ≡ opened.layout
  fits : FitsView (items_of opened.layout) (receiver_after (end_of_round room opened current) (bytes_fitting room opened current) receiving).view
  collected : (receiver_after (end_of_round room opened current) (bytes_fitting room opened current) receiving).collected
      ≡ bytes_before (core_after_polls (pieces_fitting room opened current) opened) (core_after_polls (pieces_fitting room opened current) opened).current
  same : (core_after_polls (pieces_fitting room opened current) opened).layout ≡ opened.layout
  configured : (core_after_polls (pieces_fitting room opened current) opened).is_configured ≡ opened.is_configured

-- the receiver of an open round
abbrev receiver_with : CoreState → Option ℕ → List ControlState → ReceiverState
receiver_with c current view = record { layout = c.layout; view = view; collected = bytes_before c current }

asks_silent : (c : CoreState) (room : ℕ) (view : List ControlState) (s : LinkState) → FitsView (items_of c.layout) view
    → state_at_token (items_of c.layout) s ≡ link_with (record c { current = None }) view
    → AskGives (record c { current = None }) None (receiver_with c None view) s room
asks_silent c room view s fits at = by_halt c.halted at
  where
    by_halt : (b : Bool) → state_at_token (items_of c.layout) s ≡ link_with (record c { current = None; halted = b }) view
        → AskGives (record c { current = None; halted = b }) None (receiver_with c None view) s room
    by_halt true h = record {
      events = ap (λ (x : LinkState). poll_events (items_of c.layout) x Clean ++ []) (sym h);
      stands = ap (λ (x : LinkState). state_after_answer (items_of c.layout) x Clean) (sym h);
      layout = refl;
      fits = fits;
      collected = refl;
      same = refl;
      configured = refl;
    }
    by_halt false h = record {
      events = ap (λ (x : LinkState). poll_events (items_of c.layout) x Clean ++ []) (sym h);
      stands = ap (λ (x : LinkState). state_after_answer (items_of c.layout) x Clean) (sym h);
      layout = refl;
      fits = fits;
      collected = refl;
      same = refl;
      configured = refl;
    }

-- what a receiver makes of bytes, by whether its report ends with them
abbrev taken_by : ReceiverState → List ℕ → Bool → ReceiverState
taken_by receiving bytes ends = record receiving {
  view = if ends then view_after_report receiving.layout (bytes_with receiving bytes) receiving.view else receiving.view;
  collected = if ends then [] else bytes_with receiving bytes;
}

abbrev told_by : ReceiverState → List ℕ → Bool → List Event
told_by receiving bytes ends = if ends then events_of_report receiving.layout (bytes_with receiving bytes) receiving.view else []

-- what is known of a round that is open at a piece
pub record OpenFacts (c : CoreState) (r room : ℕ) (view : List ControlState) : Type 0 where
  pub long : length (part_bytes c.layout r c.reports.fixed) ≡ report_bytes c.layout r
  pub pieces : pieces_of (items_of c.layout) r ≡ pieces_for (length (part_bytes c.layout r c.reports.fixed))
  pub few : c.piece + fitting_pieces room (bytes_left c r) ≤ pieces_of (items_of c.layout) r
  pub back : ReadsAsShown c.layout r c.reports.fixed (part_bytes c.layout r c.reports.fixed) view
  pub after : FitsView (items_of c.layout) (view_after_part (items_of c.layout) r view c.reports.fixed)

pub open_facts : (c : CoreState) (r room : ℕ) (view : List ControlState) → IsSound (record c { current = Some r })
    → FitsView (items_of c.layout) view → OpenFacts c r room view
open_facts c r room view sound fits =
    let opened : CoreState = record c { current = Some r } in
    let laid : IsLayout c.layout = laid_by opened sound in
    let bytes = part_bytes c.layout r c.reports.fixed in
    let input : IsInput c.layout r = sound.inputs_first.first r sound.of_input in
    let shown : ShowsParts c.layout r c.reports.fixed bytes = record {
      laid = laid;
      input = input;
      fits = sound.fixed;
      empty_codes = sound.empty_codes;
      are_bytes = sound.sends.are_bytes;
      encoding = sound.sends.shows;
    } in
    record {
      long = sound.sends.shows.whole;
      pieces = pieces_are c.layout r laid input ∙ ap pieces_for (sym sound.sends.shows.whole);
      few = fits_open opened r room (fitting_pieces room (bytes_left opened r)) sound laid refl refl;
      back = parts_back c.layout r c.reports.fixed bytes view shown fits;
      after = seen_is_view (items_of c.layout) r view c.reports.fixed fits sound.fixed;
    }

-- pieces behind those that came before
joined : (bytes : List ℕ) (piece n : ℕ) → take (64 * piece) bytes ++ take (64 * n) (drop (64 * piece) bytes) ≡ take (64 * (piece + n)) bytes
joined bytes piece n =
    sym (take-add (64 * piece) (64 * n) bytes)
    ∙ ap (λ (k : ℕ). take k bytes) (let e : 64 * piece + 64 * n ≡ 64 * (piece + n) = omega arith in e)

-- what a transfer gives that takes so many pieces and ends so
record TakesGives (c : CoreState) (r n : ℕ) (end : Poll) (bytes : List ℕ) (view : List ControlState) (s : LinkState) : Type 0 where
  events : events_after end bytes (receiver_with c (Some r) view) ≡ events_of_steps (items_of c.layout) s (polls_of end n)
  stands : link_with (core_after_polls n (record c { current = Some r })) (receiver_after end bytes (receiver_with c (Some r) view)).view
      ≡ state_after_steps (items_of c.layout) s (polls_of end n)
  layout : (receiver_after end bytes (receiver_with c (Some r) view)).layout ≡ c.layout
  fits : FitsView (items_of c.layout) (receiver_after end bytes (receiver_with c (Some r) view)).view
  collected : (receiver_after end bytes (receiver_with c (Some r) view)).collected
      ≡ bytes_before (core_after_polls n (record c { current = Some r })) (core_after_polls n (record c { current = Some r })).current
  same : (core_after_polls n (record c { current = Some r })).layout ≡ c.layout
  configured : (core_after_polls n (record c { current = Some r })).is_configured ≡ c.is_configured

-- no piece fits: the round is open, and its data are lost
takes_none : (c : CoreState) (r : ℕ) (bytes : List ℕ) (view : List ControlState) (s : LinkState) → FitsView (items_of c.layout) view
    → state_at_token (items_of c.layout) s ≡ link_with (record c { current = Some r }) view → TakesGives c r 0 TooSmall bytes view s
takes_none c r bytes view s fits at = record {
  events = ap (λ (x : LinkState). poll_events (items_of c.layout) x ReplyLost ++ []) (sym at);
  stands = ap (λ (x : LinkState). state_after_answer (items_of c.layout) x ReplyLost) (sym at);
  layout = refl;
  fits = fits;
  collected = refl;
  same = refl;
  configured = refl;
}

-- some pieces fit, and others are left
takes_some : (c : CoreState) (r room k count : ℕ) (view : List ControlState) (s : LinkState) → OpenFacts c r room view → FitsView (items_of c.layout) view
    → state_at_token (items_of c.layout) s ≡ link_with (record c { current = Some r }) view → 0 < count
    → c.piece + count < pieces_of (items_of c.layout) r → TakesGives c r count (Done k) (take (64 * count) (bytes_left c r)) view s
takes_some c r room k count view s facts fits at some more =
    let items = items_of c.layout in
    let bytes = part_bytes c.layout r c.reports.fixed in
    let receiving = receiver_with c (Some r) view in
    let taken = take (64 * count) (bytes_left c r) in
    let all : bytes_with receiving taken ≡ take (64 * (c.piece + count)) bytes = joined bytes c.piece count in
    let behind : 64 * (c.piece + count) < length bytes = omega (arith, more, facts.pieces) in
    let left : length (bytes_left c r) ≡ length bytes - 64 * c.piece = length-drop (64 * c.piece) bytes in
    let full : length taken ≡ 64 * count = length-take-le (64 * count) (bytes_left c r) (omega (arith, behind, left)) in
    let goes : ends_with 64 receiving taken ≡ false =
    ap (λ (l : List ℕ). is_whole 64 c.layout l (length taken)) all
    ∙ goes_on c.layout r (64 * (c.piece + count)) (length taken) bytes facts.back.report facts.long (omega (arith, some)) behind (omega (arith, full, some)) in
    let gives = polls_from items s (link_with (record c { current = Some r }) view) count [] (link_with (open_at c r (c.piece + count) (flips count c.toggle)) view) at refl some
    (polls_before count c r c.piece c.toggle view more) in
    let core : core_after_polls count (record c { current = Some r }) ≡ open_at c r (c.piece + count) (flips count c.toggle) =
    polled_some count c r c.piece c.toggle more in
    record {
      events = ap (told_by receiving taken) goes ∙ sym gives.events;
      stands = ap (λ (b : Bool). link_with (core_after_polls count (record c { current = Some r })) (taken_by receiving taken b).view) goes
          ∙ ap (λ (x : CoreState). link_with x view) core ∙ sym gives.stands;
      layout = refl;
      fits = subst (λ (b : Bool). FitsView items (taken_by receiving taken b).view) (sym goes) fits;
      collected = ap (λ (b : Bool). (taken_by receiving taken b).collected) goes ∙ all
          ∙ ap (λ (x : CoreState). bytes_before x x.current) (sym core);
      same = ap (λ (x : CoreState). x.layout) core;
      configured = ap (λ (x : CoreState). x.is_configured) core;
    }

-- all pieces that are left fit
takes_last : (c : CoreState) (r room k j : ℕ) (view : List ControlState) (s : LinkState) → OpenFacts c r room view → FitsView (items_of c.layout) view
    → state_at_token (items_of c.layout) s ≡ link_with (record c { current = Some r }) view
    → c.piece + suc j ≡ pieces_of (items_of c.layout) r → TakesGives c r (suc j) (Done k) (take (64 * suc j) (bytes_left c r)) view s
takes_last c r room k j view s facts fits at last =
    let items = items_of c.layout in
    let bytes = part_bytes c.layout r c.reports.fixed in
    let receiving = receiver_with c (Some r) view in
    let taken = take (64 * suc j) (bytes_left c r) in
    let parts = c.reports.fixed in
    let enough : length bytes ≤ 64 * (c.piece + suc j) = omega (arith, last, facts.pieces) in
    let all : bytes_with receiving taken ≡ bytes = joined bytes c.piece (suc j) ∙ take_all (64 * (c.piece + suc j)) bytes enough in
    let ends : ends_with 64 receiving taken ≡ true =
    ap (λ (l : List ℕ). is_whole 64 c.layout l (length taken)) all
    ∙ ends_so c.layout r (length taken) bytes facts.back.report facts.long in
    let gives = polls_from items s (link_with (record c { current = Some r }) view) (suc j) (part_events items r view parts)
    (link_with (closed_with c (flips (suc j) c.toggle)) (view_after_part items r view parts)) at refl (omega arith)
    (polls_give j c r c.piece c.toggle view last) in
    let core : core_after_polls (suc j) (record c { current = Some r }) ≡ closed_with c (flips (suc j) c.toggle) =
    polled_all j c r c.piece c.toggle last in
    let sees : view_after_report c.layout (bytes_with receiving taken) view ≡ view_after_part items r view parts =
    ap (λ (l : List ℕ). view_after_report c.layout l view) all ∙ view_named c.layout r bytes view facts.back.report ∙ facts.back.view in
    let tells : events_of_report c.layout (bytes_with receiving taken) view ≡ part_events items r view parts =
    ap (λ (l : List ℕ). events_of_report c.layout l view) all ∙ events_named c.layout r bytes view facts.back.report ∙ facts.back.events in
    let view_is : (taken_by receiving taken (ends_with 64 receiving taken)).view ≡ view_after_part items r view parts =
    ap (λ (b : Bool). (taken_by receiving taken b).view) ends ∙ sees in
    record {
      events = ap (told_by receiving taken) ends ∙ tells ∙ sym gives.events;
      stands = ap (link_with (core_after_polls (suc j) (record c { current = Some r }))) view_is
          ∙ ap (λ (x : CoreState). link_with x (view_after_part items r view parts)) core ∙ sym gives.stands;
      layout = refl;
      fits = subst (FitsView items) (sym view_is) facts.after;
      collected = ap (λ (b : Bool). (taken_by receiving taken b).collected) ends
          ∙ ap (λ (x : CoreState). bytes_before x x.current) (sym core);
      same = ap (λ (x : CoreState). x.layout) core;
      configured = ap (λ (x : CoreState). x.is_configured) core;
    }

-- by how many pieces fit
takes_as : (c : CoreState) (r room count : ℕ) (view : List ControlState) (s : LinkState) → OpenFacts c r room view → FitsView (items_of c.layout) view
    → state_at_token (items_of c.layout) s ≡ link_with (record c { current = Some r }) view
    → c.piece + count ≤ pieces_of (items_of c.layout) r
    → TakesGives c r count (end_of_pieces count (take (64 * count) (bytes_left c r))) (take (64 * count) (bytes_left c r)) view s
takes_as c r room zero view s facts fits at few = takes_none c r (take (64 * 0) (bytes_left c r)) view s fits at
takes_as c r room (suc j) view s facts fits at few =
    let taken = take (64 * suc j) (bytes_left c r) in
    let done : end_of_pieces (suc j) taken ≡ Done (length taken) = done_by (suc j) taken (omega arith) in
    let gives : TakesGives c r (suc j) (Done (length taken)) taken view s = elim (cases_lt (c.piece + suc j) (pieces_of (items_of c.layout) r)) [
      | inl more ↦ takes_some c r room (length taken) (suc j) view s facts fits at (omega arith) more
      | inr last ↦ takes_last c r room (length taken) j view s facts fits at (omega (arith, last, few))
    ] in
    subst (λ (end : Poll). TakesGives c r (suc j) end taken view s) (sym done) gives

asks_open : (c : CoreState) (r room : ℕ) (view : List ControlState) (s : LinkState) → IsSound (record c { current = Some r })
    → FitsView (items_of c.layout) view → state_at_token (items_of c.layout) s ≡ link_with (record c { current = Some r }) view
    → AskGives (record c { current = Some r }) (Some r) (receiver_with c (Some r) view) s room
asks_open c r room view s sound fits at =
    let facts = open_facts c r room view sound fits in
    let gives = takes_as c r room (fitting_pieces room (bytes_left c r)) view s facts fits at facts.few in
    record {
      events = gives.events;
      stands = gives.stands;
      layout = gives.layout;
      fits = gives.fits;
      collected = gives.collected;
      same = gives.same;
      configured = gives.configured;
    }

asks_as : (c : CoreState) (o : Option ℕ) (room : ℕ) (view : List ControlState) (s : LinkState) → IsSound (record c { current = o })
    → FitsView (items_of c.layout) view → state_at_token (items_of c.layout) s ≡ link_with (record c { current = o }) view
    → AskGives (record c { current = o }) o (receiver_with c o view) s room
asks_as c None room view s sound fits at = asks_silent c room view s fits at
asks_as c (Some r) room view s sound fits at = asks_open c r room view s sound fits at

-- ---- the token of a transfer

pub token_at : (c : CoreState) (o : Option ℕ) (view : List ControlState)
    → state_at_token (items_of c.layout) (link_with (record c { current = o }) view) ≡ link_with (core_after_due (record c { current = o }) o) view
token_at c (Some r) view = refl
token_at c None view = by_due (due_where (items_of c.layout) c.halted c.reports)
  where
    by_due : (due : Option ℕ) → with_open_report (items_of c.layout) (link_with (record c { current = None }) view) due
        ≡ link_with (core_with_due_round (record c { current = None }) due) view
    by_due None = refl
    by_due (Some r) = refl

-- nothing came of a round that it opens
before_at : (c : CoreState) (o : Option ℕ)
    → bytes_before (record c { current = o }) o ≡ bytes_before (core_after_due (record c { current = o }) o) (core_after_due (record c { current = o }) o).current
before_at c (Some r) = refl
before_at c None = by_due (due_where (items_of c.layout) c.halted c.reports)
  where
    by_due : (due : Option ℕ) → []
        ≡ bytes_before (core_with_due_round (record c { current = None }) due) (core_with_due_round (record c { current = None }) due).current
    by_due None = refl
    by_due (Some r) = refl

-- ---- steps

-- what a step gives
pub record StepGives (core : CoreState) (step : GadgetStep) (receiving : ReceiverState) : Type 0 where
  pub events : events_at_step core step receiving
      ≡ events_of_history (items_of core.layout) (link_with core receiving.view) (bus_events_of core step)
  pub stands : link_with (core_after_step core step) (receiver_after_step core step receiving).view
      ≡ state_after_all (items_of core.layout) (link_with core receiving.view) (bus_events_of core step)
  pub same : (core_after_step core step).layout ≡ core.layout
  pub in_step : AreInStep (core_after_step core step) (receiver_after_step core step receiving)

-- a configured gadget
abbrev configured : CoreState → CoreState
configured c = record c { is_configured = true }

asks_give : (c : CoreState) (room : ℕ) (view : List ControlState) → IsSound (configured c) → FitsView (items_of c.layout) view
    → StepGives (configured c) (Asks room) (receiver_with (core_at_poll (configured c)) (core_at_poll (configured c)).current view)
asks_give c room view sound fits =
    let core = configured c in
    let opened = core_at_poll core in
    let lay : opened.layout ≡ core.layout = at_poll_layout core in
    let set : opened.is_configured ≡ true = at_poll_configured core in
    let items = items_of core.layout in
    let s = link_with core view in
    let at : state_at_token (items_of opened.layout) s ≡ link_with opened view =
    ap (λ (l : Contents). state_at_token (items_of l) s) lay ∙ token_at core core.current view in
    let gives = asks_as opened opened.current room view s (sound_at_poll core sound) (subst (λ (l : Contents). FitsView (items_of l) view) (sym lay) fits) at in
    let steps : List OwnStep = polls_of (end_of_round room opened opened.current) (pieces_fitting room opened opened.current) in
    record {
      events = gives.events ∙ ap (λ (l : Contents). events_of_steps (items_of l) s steps) lay ∙ sym (own_told items steps s);
      stands = gives.stands ∙ ap (λ (l : Contents). state_after_steps (items_of l) s steps) lay ∙ sym (own_stands items steps s);
      same = gives.same ∙ lay;
      in_step = record {
        sound = sound_after_report core room sound;
        configured = gives.configured ∙ set;
        layout = gives.layout ∙ sym gives.same;
        fits = subst (λ (l : Contents). FitsView (items_of l)
            (receiver_after (end_of_round room opened opened.current) (bytes_fitting room opened opened.current) (receiver_with opened opened.current view)).view)
            (sym gives.same) gives.fits;
        collected = gives.collected;
      };
    }

asks_in_step : (core : CoreState) (room : ℕ) (receiving : ReceiverState) → AreInStep core receiving → StepGives core (Asks room) receiving
asks_in_step core room receiving stands =
    let is : configured core ≡ core = ap (λ (b : Bool). let d : CoreState = record core { is_configured = b } in d) (sym stands.configured) in
    let opened = core_at_poll (configured core) in
    let layout : receiving.layout ≡ opened.layout = stands.layout ∙ sym (at_poll_layout (configured core)) in
    let collected : receiving.collected ≡ bytes_before opened opened.current = stands.collected ∙ before_at (configured core) core.current in
    let receiver : receiving ≡ receiver_with opened opened.current receiving.view =
    ap (λ (l : Contents). let x : ReceiverState = record receiving { layout = l } in x) layout
    ∙ ap (λ (l : List ℕ). let x : ReceiverState = record receiving { layout = opened.layout; collected = l } in x) collected in
    subst (λ (c : CoreState). StepGives c (Asks room) receiving) is
    (subst (λ (x : ReceiverState). StepGives (configured core) (Asks room) x) (sym receiver)
    (asks_give core room receiving.view (subst IsSound (sym is) stands.sound) stands.fits))

-- what a write gives that neither configures the device nor halts or clears its endpoint
record WriteGives (core after : CoreState) (write : PendingWrite) (view : List ControlState) : Type 0 where
  events : [] ≡ events_of_history (items_of core.layout) (link_with core view) (events_of_write core.reports.idle write)
  stands : link_with after view ≡ state_after_all (items_of core.layout) (link_with core view) (events_of_write core.reports.idle write)
  same : after.layout ≡ core.layout
  configured : after.is_configured ≡ core.is_configured
  before : bytes_before after after.current ≡ bytes_before core core.current

write_gives : (core : CoreState) (answer : Option (List ℕ)) (pending write : PendingWrite) (written : List ℕ) (view : List ControlState)
    → AreWithinEpoch (events_of_write core.reports.idle write)
    → WriteGives core (core_after_write (record core { answer = answer; pending = pending }) written write) write view
write_gives core answer pending pendings.Nothing written view within = record { events = refl; stands = refl; same = refl; configured = refl; before = refl }
write_gives core answer pending pendings.Configure written view within = absurd within.0
write_gives core answer pending (pendings.Keep place) written view within = record { events = refl; stands = refl; same = refl; configured = refl; before = refl }
write_gives core answer pending (pendings.Idle report time) written view within = record { events = refl; stands = refl; same = refl; configured = refl; before = refl }
write_gives core answer pending (pendings.Protocol protocol) written view within = record { events = refl; stands = refl; same = refl; configured = refl; before = refl }
write_gives core answer pending pendings.Halt written view within = absurd within.0
write_gives core answer pending pendings.Clear written view within = absurd within.0

decided_gives : (core : CoreState) (decision : RequestDecision) (write : PendingWrite) (written : List ℕ) (view : List ControlState)
    → AreWithinEpoch (events_of_write core.reports.idle write)
    → WriteGives core (core_after_write (core_after_decision core decision) written write) write view
decided_gives core Refuses write written view within = write_gives core None pendings.Nothing write written view within
decided_gives core (Reads bytes) write written view within = write_gives core (Some bytes) pendings.Nothing write written view within
decided_gives core (Writes pending) write written view within = write_gives core None pending write written view within

-- a transfer as its write
transfer_is : (core : CoreState) (setup : Setup) (written : List ℕ)
    → core_after_write (core_after_decision core (decide core setup)) written (write_of_transfer core setup) ≡ after_transfer core_table core setup written
transfer_is core setup written = by_effect (core_table.accepts core setup && not (reads setup))
  where
    decided : CoreState
    decided = core_table.prepared core setup

    by_effect : (b : Bool) → core_after_write decided written (if b then decided.pending else pendings.Nothing)
        ≡ (if b then core_table.applied decided written else decided)
    by_effect true = refl
    by_effect false = refl

transfer_in_step : (core : CoreState) (setup : Setup) (written : List ℕ) (receiving : ReceiverState) → AreInStep core receiving
    → AreWithinEpoch (events_of_write core.reports.idle (write_of_transfer core setup)) → StepGives core (Transfers setup written) receiving
transfer_in_step core setup written receiving stands within =
    let after = after_transfer core_table core setup written in
    let write = write_of_transfer core setup in
    let gives : WriteGives core after write receiving.view =
    subst (λ (x : CoreState). WriteGives core x write receiving.view) (transfer_is core setup written)
    (decided_gives core (decide core setup) write written receiving.view within) in
    record {
      events = gives.events;
      stands = gives.stands;
      same = gives.same;
      in_step = record {
        sound = sound_after_transfer core setup written stands.sound;
        configured = gives.configured ∙ stands.configured;
        layout = stands.layout ∙ sym gives.same;
        fits = subst (λ (l : Contents). FitsView (items_of l) receiving.view) (sym gives.same) stands.fits;
        collected = stands.collected ∙ sym gives.before;
      };
    }

-- it leaves the open round
pub transfer_keeps_round : (core : CoreState) (setup : Setup) (written : List ℕ)
    → AreWithinEpoch (events_of_write core.reports.idle (write_of_transfer core setup))
    → (after_transfer core_table core setup written).current ≡ core.current
transfer_keeps_round core setup written within =
    ap (λ (x : CoreState). x.current) (sym (transfer_is core setup written))
    ∙ by_decision (decide core setup)
  where
    by_write : (answered : CoreState) (write : PendingWrite) → AreWithinEpoch (events_of_write core.reports.idle write)
        → (core_after_write answered written write).current ≡ answered.current
    by_write answered pendings.Nothing w = refl
    by_write answered pendings.Configure w = absurd w.0
    by_write answered (pendings.Keep place) w = refl
    by_write answered (pendings.Idle report time) w = refl
    by_write answered (pendings.Protocol protocol) w = refl
    by_write answered pendings.Halt w = absurd w.0
    by_write answered pendings.Clear w = absurd w.0

    by_decision : (d : RequestDecision)
        → (core_after_write (core_after_decision core d) written (write_of_transfer core setup)).current ≡ core.current
    by_decision Refuses = by_write (core_after_decision core Refuses) (write_of_transfer core setup) within
    by_decision (Reads bytes) = by_write (core_after_decision core (Reads bytes)) (write_of_transfer core setup) within
    by_decision (Writes pending) = by_write (core_after_decision core (Writes pending)) (write_of_transfer core setup) within

change_in_step : (core : CoreState) (change : Change) (receiving : ReceiverState) → AreInStep core receiving → StepGives core (Changes change) receiving
change_in_step core change receiving stands = record {
  events = refl;
  stands = refl;
  same = refl;
  in_step = record {
    sound = sound_changed core change stands.sound;
    configured = stands.configured;
    layout = stands.layout;
    fits = stands.fits;
    collected = stands.collected ∙ by_round core.current;
  };
}
  where
    by_round : (o : Option ℕ) → bytes_before core o ≡ bytes_before (changed_core core change) o
    by_round None = refl
    by_round (Some r) =
        ap (λ (parts : List ControlState). take (64 * core.piece) (part_bytes core.layout r parts)) (sym (change_keeps_fixed core change))

pub step_in_step : (core : CoreState) (step : GadgetStep) (receiving : ReceiverState) → AreInStep core receiving
    → AreWithinEpoch (bus_events_of core step) → StepGives core step receiving
step_in_step core (Changes change) receiving stands within = change_in_step core change receiving stands
step_in_step core Frame receiving stands within = record {
  events = refl;
  stands = refl;
  same = refl;
  in_step = record {
    sound = sound_at_frame core stands.sound;
    configured = stands.configured;
    layout = stands.layout;
    fits = stands.fits;
    collected = stands.collected ∙ by_round core.current;
  };
}
  where
    by_round : (o : Option ℕ) → bytes_before core o ≡ bytes_before (framed_core core) o
    by_round None = refl
    by_round (Some r) = refl
step_in_step core (Asks room) receiving stands within = asks_in_step core room receiving stands
step_in_step core (Transfers setup written) receiving stands within = transfer_in_step core setup written receiving stands within

-- ---- lists of steps

events_join : (items : List Item) (s : LinkState) (xs ys : List BusEvent)
    → events_of_history items s (xs ++ ys) ≡ events_of_history items s xs ++ events_of_history items (state_after_all items s xs) ys
events_join items s [] ys = refl
events_join items s (x ∷ xs) ys =
    ap (λ (es : List Event). delivered_events items s x ++ es) (events_join items (state_after items s x) xs ys)
    ∙ sym (append_assoc (delivered_events items s x) (events_of_history items (state_after items s x) xs)
    (events_of_history items (state_after_all items (state_after items s x) xs) ys))

state_joins : (items : List Item) (s : LinkState) (xs ys : List BusEvent)
    → state_after_all items s (xs ++ ys) ≡ state_after_all items (state_after_all items s xs) ys
state_joins items s [] ys = refl
state_joins items s (x ∷ xs) ys = state_joins items (state_after items s x) xs ys

pub within_parts : (xs ys : List BusEvent) → AreWithinEpoch (xs ++ ys) → AreWithinEpoch xs × AreWithinEpoch ys
within_parts [] ys within = (tt, within)
within_parts (x ∷ xs) ys within = let rest = within_parts xs ys within.1 in ((within.0, rest.0), rest.1)

pub gives_events : (core : CoreState) (gadget_steps : List GadgetStep) (receiving : ReceiverState) → AreInStep core receiving
    → AreWithinEpoch (bus_events core gadget_steps) → GivesEvents core gadget_steps receiving
gives_events core [] receiving stands within = record { events = refl; stands = refl; in_step = stands }
gives_events core (step ∷ rest) receiving stands within =
    let next = core_after_step core step in
    let seen = receiver_after_step core step receiving in
    let items = items_of core.layout in
    let before = bus_events_of core step in
    let later = bus_events next rest in
    let parts = within_parts before later within in
    let one = step_in_step core step receiving stands parts.0 in
    let same : items_of next.layout ≡ items = ap items_of one.same in
    let more = gives_events next rest seen one.in_step parts.1 in
    record {
      events =
          ap (λ (es : List Event). es ++ events_received next rest seen) one.events
          ∙ ap (λ (es : List Event). events_of_history items (link_with core receiving.view) before ++ es)
          (more.events
          ∙ ap (λ (is : List Item). events_of_history is (link_with next seen.view) later) same
          ∙ ap (λ (s : LinkState). events_of_history items s later) one.stands)
          ∙ sym (events_join items (link_with core receiving.view) before later);
      stands =
          more.stands
          ∙ ap (λ (is : List Item). state_after_all is (link_with next seen.view) later) same
          ∙ ap (λ (s : LinkState). state_after_all items s later) one.stands
          ∙ sym (state_joins items (link_with core receiving.view) before later);
      in_step = more.in_step;
    }

-- ---- from a configuration on

-- a gadget without an open round
abbrev quiet : CoreState → CoreState
quiet c = record c { current = None; halted = false }

quiet_is : (core : CoreState) (snapshot : List ControlState) (idle : List ℕ) → IsFresh core snapshot idle → quiet core ≡ core
quiet_is core snapshot idle fresh =
    ap (λ (b : Bool). let d : CoreState = record core { current = None; halted = b } in d) (sym fresh.going)
    ∙ ap (λ (o : Option ℕ). let d : CoreState = record core { current = o } in d) (sym fresh.no_round)

pub fresh_is : (core : CoreState) (snapshot : List ControlState) (idle : List ℕ) → IsFresh core snapshot idle
    → link_with core (blank (items_of core.layout)) ≡ initial_link (items_of core.layout) snapshot idle
fresh_is core snapshot idle fresh =
    let items = items_of core.layout in
    let start : LinkState = initial_link items snapshot idle in
    ap (λ (d : CoreState). link_with d (blank items)) (sym (quiet_is core snapshot idle fresh))
    ∙ ap (λ (x : ReportState). let s : LinkState = record start { reports = x; toggle = core.toggle } in s) fresh.reports
    ∙ ap (λ (t : Bool). let s : LinkState = record start { toggle = t } in s) fresh.toggle

-- it is in step with a new receiver
pub fresh_in_step : (core : CoreState) (snapshot : List ControlState) (idle : List ℕ) → IsFresh core snapshot idle
    → AreInStep core (new_receiver core.layout)
fresh_in_step core snapshot idle fresh = record {
  sound = fresh.sound;
  configured = fresh.configured;
  layout = refl;
  fits = blank_view (items_of core.layout);
  collected = ap (bytes_before core) (sym fresh.no_round);
}

-- one that forgets what came goes on where no round is open
pub goes_on_again : (core later : CoreState) (receiving : ReceiverState) → AreInStep core receiving → IsSound later
    → later.is_configured ≡ true → later.layout ≡ core.layout → later.current ≡ None → AreInStep later (without_collected receiving)
goes_on_again core later receiving stands sound configured same none = record {
  sound = sound;
  configured = configured;
  layout = stands.layout ∙ sym same;
  fits = subst (λ (l : Contents). FitsView (items_of l) receiving.view) (sym same) stands.fits;
  collected = ap (bytes_before later) (sym none);
}

gives_history : (core : CoreState) (snapshot : List ControlState) (idle : List ℕ) (gadget_steps : List GadgetStep)
    → IsFresh core snapshot idle → AreWithinEpoch (bus_events core gadget_steps)
    → events_received core gadget_steps (new_receiver core.layout)
    ≡ events_of_history (items_of core.layout) (initial_link (items_of core.layout) snapshot idle) (bus_events core gadget_steps)
gives_history core snapshot idle gadget_steps fresh within =
    (gives_events core gadget_steps (new_receiver core.layout) (fresh_in_step core snapshot idle fresh) within).events
    ∙ ap (λ (s : LinkState). events_of_history (items_of core.layout) s (bus_events core gadget_steps)) (fresh_is core snapshot idle fresh)

pub gives_rounds : (core : CoreState) (snapshot : List ControlState) (idle : List ℕ) (gadget_steps : List GadgetStep)
    → IsFresh core snapshot idle → AreWithinEpoch (bus_events core gadget_steps)
    → events_received core gadget_steps (new_receiver core.layout)
    ≡ events_of_crossed (items_of core.layout) snapshot idle (bus_events core gadget_steps)
gives_rounds core snapshot idle gadget_steps fresh within =
    gives_history core snapshot idle gadget_steps fresh within
    ∙ epoch_is_told (items_of core.layout) (initial_link (items_of core.layout) snapshot idle) (bus_events core gadget_steps) refl within

pub own_within : (steps : List OwnStep) → AreWithinEpoch (steps_as_events steps)
own_within [] = tt
own_within (x ∷ steps) = (tt, own_within steps)

pub gives_schedule : (core : CoreState) (snapshot : List ControlState) (idle : List ℕ) (gadget_steps : List GadgetStep) (own : List OwnStep)
    → IsFresh core snapshot idle → bus_events core gadget_steps ≡ steps_as_events own
    → events_received core gadget_steps (new_receiver core.layout) ≡ events_of_epoch (items_of core.layout) snapshot idle own
gives_schedule core snapshot idle gadget_steps own fresh is =
    let items = items_of core.layout in
    gives_history core snapshot idle gadget_steps fresh (subst AreWithinEpoch (sym is) (own_within own))
    ∙ ap (events_of_history items (initial_link items snapshot idle)) is
    ∙ own_told items own (initial_link items snapshot idle)
    ∙ delivers_epoch items snapshot idle own

-- a gadget is fresh after SET_CONFIGURATION 1
pub is_fresh : (core : CoreState) → IsSound core
    → IsFresh (after_transfer core_table core set_configuration_1 []) core.reports.snapshot core.reports.idle
unfolding decide request_kind_of
is_fresh core sound = record {
  sound = sound_after_transfer core set_configuration_1 [] sound;
  configured = refl;
  going = refl;
  no_round = refl;
  reports = refl;
  toggle = refl;
}
