-- A transfer with which its report ends at once is read as the report.
use Rattle.std.proofs.Common.{◌≡◌, ℕ, ◌+◌, ◌<◌, refl, sym, ◌∙◌, ap, subst, inl, inr, Bool, true, false, cond, List, [], length, Option, Some, None, Result, Ok, Err, arith}
use Rattle.std.specs.Prelude.{max, not, ◌==◌, ◌&&◌, ◌||◌, option_map, position}
use Rattle.std.specs.Option.{option_and_then}
use Rattle.std.proofs.Math.Nat.{le-max_left, le-max_right, mod-eq_of_lt}
use Rattle.std.proofs.lemmas.Bool.{le-leb, lt-leb}
use Rattle.hid_layout.specs.Layout.{Contents}
use Rattle.hid_layout.specs.Reports.{report_bytes}
use Rattle.hid_snapshots.specs.declared.control_state.ControlState.{ControlState}
use Rattle.hid_snapshots.specs.declared.event.Event.{Event}
use Rattle.hid_snapshots.specs.declared.fault.ReportFault.{ReportFault}
use Rattle.hid_usages.specs.declared.receiver.Arrived.{Arrived}
use Rattle.hid_usages.specs.declared.receiver.Arrived.TheVariants.{Part}
use Rattle.hid_usages.specs.Reading.{first_byte, is_input_with, report_named}
use Rattle.hid_usages.specs.Receiving.{ReceiverState, events_of_report, is_whole, view_after_report, whole_outcome}
use Rattle.hid_driver.specs.declared.fault.DriverFault.{DriverFault}
use Rattle.hid_driver.specs.declared.fault.DriverFault.TheVariants.{LongTransfer}
use Rattle.hid_driver.specs.Pipe.{EndsAtOnce, full_size, has_come, has_packet_past, is_full, length_begun, pipe_of_receiver, receiving_after_transfer, report_end, transfer_ends, transfer_events, transfer_outcome, transfer_result, unnumbered_length}
use Rattle.hid_driver.proofs.PipeLemmas.{ends_same}

-- without Report IDs a report has its length whatever its bytes are
length_by : (lengths : ℕ → ℕ) (numbered : Bool) (none some all : Option ℕ) (n : ℕ)
    → cond numbered None (option_map lengths (cond numbered none all)) ≡ Some n
    → option_map lengths (cond numbered some all) ≡ Some n
length_by lengths true none some all n is = let wrong : ◌≡◌ {A = Option ℕ} None (Some n) = is in cc
length_by lengths false none some all n is = is

unnumbered_begun : (layout : Contents) (bytes : List ℕ) (n : ℕ) → unnumbered_length layout ≡ Some n → length_begun layout bytes ≡ Some n
unnumbered_begun layout bytes n is =
    let named = λ (first : Option ℕ). option_and_then (λ id. position (is_input_with id) layout.reports) first in
    length_by (report_bytes layout) layout.numbered (named (first_byte [])) (named (first_byte bytes))
    (position (is_input_with 0) layout.reports) n is

-- fewer bytes than a packet has are no full packets
neither : (none : Bool) → (not none && none) ≡ false
neither true = refl
neither false = refl

not_full : (packet_size came : ℕ) → came < packet_size → is_full packet_size came ≡ false
not_full packet_size came short = ap (λ (n : ℕ). not (came == 0) && (n == 0)) (mod-eq_of_lt short) ∙ neither (came == 0)

-- what a report that ends at once is: no packet lies past its end, and it ends
record EndsShort (packet_size : ℕ) (begun : Option ℕ) (came : ℕ) : Type 0 where
  past : has_packet_past packet_size begun came ≡ false
  ends : transfer_ends packet_size begun came came ≡ true

short_ends : (packet_size came : ℕ) (begun : Option ℕ) → came < packet_size → EndsShort packet_size begun came
short_ends packet_size came begun short =
    let more = le-max_left packet_size 1 in
    record {
      past = lt-leb (report_end begun + max packet_size 1) came (omega (arith, more, short));
      ends = ap (λ (full : Bool). not full || has_come begun came) (not_full packet_size came short);
    }

either : (b : Bool) → (b || true) ≡ true
either true = refl
either false = refl

whole_ends : (packet_size came : ℕ) (begun : Option ℕ) → begun ≡ Some came → EndsShort packet_size begun came
whole_ends packet_size came begun is =
    let more = le-max_left came 1 in
    let one = le-max_right packet_size 1 in
    record {
      past = ap (λ (o : Option ℕ). has_packet_past packet_size o came) is
          ∙ lt-leb (max came 1 + max packet_size 1) came (omega (arith, more, one));
      ends = ap (λ (o : Option ℕ). transfer_ends packet_size o came came) is
          ∙ ap (λ (b : Bool). not (is_full packet_size came) || b) (le-leb came came (omega arith))
          ∙ either (not (is_full packet_size came));
    }

-- What a receiver makes of a transfer with which its report ends at once: it reads it.
pub record ReadsAtOnce (packet_size : ℕ) (receiving : ReceiverState) (bytes : List ℕ) : Type 0 where
  pub outcome : transfer_outcome (pipe_of_receiver packet_size receiving) bytes
      ≡ transfer_result (whole_outcome (report_named receiving.layout bytes))
  pub after : receiving_after_transfer (pipe_of_receiver packet_size receiving) bytes
      ≡ record receiving { view = view_after_report receiving.layout bytes receiving.view }
  pub events : transfer_events (pipe_of_receiver packet_size receiving) bytes
      ≡ events_of_report receiving.layout bytes receiving.view

reads_by : (packet_size : ℕ) (layout : Contents) (view : List ControlState) (bytes : List ℕ)
    → EndsShort packet_size (length_begun layout bytes) (length bytes)
    → ReadsAtOnce packet_size (record { layout = layout; view = view; collected = [] }) bytes
reads_by packet_size layout view bytes short =
    let whole : Bool = is_whole (full_size packet_size (length_begun layout bytes) (length bytes)) layout bytes (length bytes) in
    let ends : whole ≡ true = ends_same packet_size layout bytes (length bytes) ∙ short.ends in
    let read : Result Arrived ReportFault = whole_outcome (report_named layout bytes) in
    let seen : List ControlState = view_after_report layout bytes view in
    let told : List Event = events_of_report layout bytes view in
    let none : ReceiverState = record { layout = layout; view = view; collected = [] } in
    let kept = λ (b : Bool). let state : ReceiverState = record { layout = layout; view = cond b seen view; collected = cond b [] bytes } in state in
    record {
      outcome = ap (λ (b : Bool). let one : Result (Unit {0}) DriverFault = cond b (Err LongTransfer) (transfer_result (cond whole read (Ok Part))) in one) short.past
          ∙ ap (λ (b : Bool). transfer_result (cond b read (Ok Part))) ends;
      after = ap (λ (b : Bool). cond b none (kept whole)) short.past ∙ ap kept ends;
      events = ap (λ (b : Bool). let one : List Event = cond b [] (cond whole told []) in one) short.past
          ∙ ap (λ (b : Bool). let one : List Event = cond b told [] in one) ends;
    }

pub reads_at_once : (packet_size : ℕ) (receiving : ReceiverState) (bytes : List ℕ)
    → EndsAtOnce (pipe_of_receiver packet_size receiving) bytes → ReadsAtOnce packet_size receiving bytes
reads_at_once packet_size receiving bytes at_once =
    let layout = receiving.layout in
    let begun = length_begun layout bytes in
    let short : EndsShort packet_size begun (length bytes) = elim at_once.1 [
      | inl few ↦ short_ends packet_size (length bytes) begun few
      | inr is ↦ whole_ends packet_size (length bytes) begun (unnumbered_begun layout bytes (length bytes) is)
    ] in
    let same : record { layout = layout; view = receiving.view; collected = [] } ≡ receiving
    = ap (λ (bs : List ℕ). let state : ReceiverState = record { layout = layout; view = receiving.view; collected = bs } in state) (sym at_once.0) in
    subst (λ (r : ReceiverState). ReadsAtOnce packet_size r bytes) same (reads_by packet_size layout receiving.view bytes short)

-- a receiver whose view alone changed
pub view_changed : (before after : ReceiverState) (view : List ControlState) → after.layout ≡ before.layout → after.view ≡ view
    → after.collected ≡ before.collected → after ≡ record before { view = view }
view_changed before after view layout seen collected =
    ap (λ (l : Contents). let state : ReceiverState = record { layout = l; view = after.view; collected = after.collected } in state) layout
    ∙ ap (λ (v : List ControlState). let state : ReceiverState = record { layout = before.layout; view = v; collected = after.collected } in state) seen
    ∙ ap (λ (bs : List ℕ). let state : ReceiverState = record { layout = before.layout; view = view; collected = bs } in state) collected
