-- A host that takes the piece at hand of a round: what it has of the report then, and what it reads where that is whole (USB
-- 2.0, 5.7.3).
use Rattle.std.proofs.Common.{◌≡◌, ◌∙◌, ◌+◌, ◌*◌, ◌<◌, ◌≤◌, ◌++◌, ◌||◌, ℕ, zero, suc, Bool, true, false, not, cond, List, [], ◌∷◌, Option, Some, None, Result, Ok, Err, length, take, refl, ap, arith}
use Rattle.std.specs.Prelude.{nat_le, nat_lt, position}
use Rattle.std.specs.Option.{option_and_then}
use Rattle.std.proofs.lemmas.Bool.Decides.{nat_tests}
use Rattle.arrayvec.specs.declared.array_vec.ArrayVec.{ArrayVec}
use Rattle.hid_report_descriptor.specs.declared.limits.TheConstants.{MAX_REPORT_BYTES}
use Rattle.hid_layout.specs.Controls.{items_of}
use Rattle.hid_layout.specs.Layout.{Contents, report_bytes}
use Rattle.hid_snapshots.specs.declared.control_state.ControlState.{ControlState}
use Rattle.hid_snapshots.specs.declared.event.Event.{Event}
use Rattle.hid_snapshots.specs.declared.fault.ReportFault.{ReportFault}
use Rattle.hid_snapshots.specs.declared.fault.ReportFault.TheVariants.{Short}
use Rattle.hid_snapshots.specs.Pieces.{piece_of, pieces_for, pieces_of, is_last_piece}
use Rattle.hid_snapshots.proofs.PieceLemmas.{collected_all, collected_more, full_piece, more_to_come}
use Rattle.hid_usages.specs.PartsReadBack.{ReadsAsShown}
use Rattle.hid_usages.specs.Reading.{bytes_awaited, first_byte, is_input_with, report_begun, report_named, whole_report}
use Rattle.hid_usages.specs.Taking.{read_view, read_events}
use Rattle.hid_snapshots.specs.Views.{view_after_part}
use Rattle.usb_transact.specs.declared.host.Took.TheVariants.{Fresh}
use Rattle.hid_bus.specs.Rounds.{part_events}
use Rattle.hid_host.specs.Ready.{ReadyHostState, bytes_with, collected_bytes_with, data_read, ends_with, events_after, events_of_report, is_whole, outcome_of, read_or_fault, read_outcome, ready_host_after, view_after_report, view_with}

-- ---- how long a report is, by the first of its bytes that came

whole_is : (layout : Contents) (bytes : List ℕ) (o : Option ℕ) (r : ℕ) → whole_report layout bytes o ≡ Ok r → o ≡ Some r
whole_is layout bytes None r h = absurd (cc)
whole_is layout bytes (Some k) r h = by_length (nat_lt (length bytes) (report_bytes layout k)) h
  where
    by_length : (b : Bool) → cond {A = Result ℕ ReportFault} b (Err Short) (Ok k) ≡ Ok r → Some k ≡ Some r
    by_length true e = absurd (cc)
    by_length false e = let same : k ≡ r = cc in ap (λ (n : ℕ). Some n) same

begun_by : (layout : Contents) (bytes : List ℕ) (r : ℕ) → report_named layout bytes ≡ Ok r → report_begun layout bytes ≡ Some r
begun_by layout bytes r h = by_numbers layout.numbered h
  where
    by_first : (o : Option ℕ) → (elim o as (λ _. Result ℕ ReportFault) [ None ↦ Err Short | Some id ↦ whole_report layout bytes (position (is_input_with id) layout.reports) ]) ≡ Ok r
        → option_and_then (λ id. position (is_input_with id) layout.reports) o ≡ Some r
    by_first None e = absurd (cc)
    by_first (Some id) e = whole_is layout bytes (position (is_input_with id) layout.reports) r e

    by_numbers : (b : Bool)
        → cond b (elim (first_byte bytes) as (λ _. Result ℕ ReportFault) [ None ↦ Err Short | Some id ↦ whole_report layout bytes (position (is_input_with id) layout.reports) ])
        (whole_report layout bytes (position (is_input_with 0) layout.reports)) ≡ Ok r
        → cond b (option_and_then (λ id. position (is_input_with id) layout.reports) (first_byte bytes)) (position (is_input_with 0) layout.reports) ≡ Some r
    by_numbers true e = by_first (first_byte bytes) e
    by_numbers false e = whole_is layout bytes (position (is_input_with 0) layout.reports) r e

first_taken : (n : ℕ) (bytes : List ℕ) → 0 < n → first_byte (take n bytes) ≡ first_byte bytes
first_taken zero bytes some = absurd (omega arith)
first_taken (suc n) [] some = refl
first_taken (suc n) (b ∷ bytes) some = refl

-- the length that is awaited
abbrev awaited_for : Contents → Option ℕ → ℕ
awaited_for layout o = elim o [ None ↦ MAX_REPORT_BYTES | Some k ↦ report_bytes layout k ]

awaits_all : (layout : Contents) (r : ℕ) (bytes : List ℕ) → report_named layout bytes ≡ Ok r → bytes_awaited layout bytes ≡ report_bytes layout r
awaits_all layout r bytes named = ap (awaited_for layout) (begun_by layout bytes r named)

awaits : (layout : Contents) (r : ℕ) (bytes : List ℕ) (n : ℕ) → 0 < n → report_named layout bytes ≡ Ok r → bytes_awaited layout (take n bytes) ≡ report_bytes layout r
awaits layout r bytes n some named =
    ap (λ (o : Option ℕ). awaited_for layout (cond layout.numbered (option_and_then (λ id. position (is_input_with id) layout.reports) o) (position (is_input_with 0) layout.reports)))
    (first_taken n bytes some) ∙ awaits_all layout r bytes named

-- ---- whether a report ends with a piece: with its last one

last_so : (n m k : ℕ) → n ≡ m → nat_le n k ≡ true → m ≤ k
last_so n m k same h = grind (arith, nat_tests, same, h)

pub more_so : (n m k : ℕ) → n ≡ m → nat_le n k ≡ false → k < m
more_so n m k same h = grind (arith, nat_tests, same, h)

or_same : (b : Bool) (n : ℕ) → b || nat_le n n ≡ true
or_same true n = refl
or_same false n = grind (arith, nat_tests)

above : (n m : ℕ) → m < n → nat_le n m ≡ false
above n m more = grind (arith, nat_tests, more)

-- the bytes that show a part: they are read as it was shown, and go in n pieces
pub record Reads (layout : Contents) (r : ℕ) (parts : List ControlState) (bytes : List ℕ)
    (view : List ControlState) : Type 0 where
  pub shown : ReadsAsShown layout r parts bytes view
  pub long : report_bytes layout r ≡ length bytes
  pub pieces : pieces_of (items_of layout) r ≡ pieces_for (length bytes)

-- the bytes up to a piece
abbrev pub up_to : List ℕ → ℕ → List ℕ
up_to bytes piece = take (64 * (piece + 1)) bytes

all_came : (layout : Contents) (r : ℕ) (parts : List ControlState) (bytes : List ℕ) (view : List ControlState)
    (piece : ℕ) → Reads layout r parts bytes view → is_last_piece (items_of layout) r piece ≡ true
    → up_to bytes piece ≡ bytes
all_came layout r parts bytes view piece reads last = collected_all bytes piece (last_so (pieces_of (items_of layout) r) (pieces_for (length bytes)) (piece + 1) reads.pieces last)

ends_by : (layout : Contents) (r : ℕ) (parts : List ControlState) (bytes : List ℕ) (view : List ControlState)
    (piece : ℕ) (last : Bool) → Reads layout r parts bytes view → is_last_piece (items_of layout) r piece ≡ last
    → is_whole layout (up_to bytes piece) (length (piece_of bytes piece)) ≡ last
ends_by layout r parts bytes view piece true reads last =
    let k = length (piece_of bytes piece) in
    ap (λ (bs : List ℕ). is_whole layout bs k) (all_came layout r parts bytes view piece reads last)
    ∙ ap (λ (n : ℕ). nat_lt k 64 || nat_le n (length bytes)) (awaits_all layout r bytes reads.shown.report ∙ reads.long)
    ∙ or_same (nat_lt k 64) (length bytes)
ends_by layout r parts bytes view piece false reads last =
    let more : piece + 1 < pieces_for (length bytes) = more_so (pieces_of (items_of layout) r) (pieces_for (length bytes)) (piece + 1) reads.pieces last in
    let came = up_to bytes piece in
    ap (λ (n : ℕ). nat_lt n 64 || nat_le (bytes_awaited layout came) (length came)) (full_piece bytes piece more)
    ∙ ap (λ (n : ℕ). nat_lt 64 64 || nat_le n (length came)) (awaits layout r bytes (64 * (piece + 1)) (omega arith) reads.shown.report ∙ reads.long)
    ∙ above (length bytes) (length came) (more_to_come bytes piece more)

-- ---- what a host makes of it

abbrev pub payload : List ℕ → ArrayVec ℕ 64 (Unit {0})
payload bytes = record { items = bytes }

-- its toggle changes with each
abbrev pub known_as : ReadyHostState → List ControlState → List ℕ → ReadyHostState
known_as known view collected = record {
  layout = known.layout;
  pipe = record known.pipe { expects = not known.pipe.expects };
  view = view;
  collected = collected;
}

-- its view sees the part with the last piece, and before that it keeps what came
abbrev pub taking : ReadyHostState → ℕ → List ControlState → List ℕ → ℕ → Bool → ReadyHostState
taking known r parts bytes piece last =
    known_as known (cond last (view_after_part (items_of known.layout) r known.view parts) known.view)
    (cond last [] (up_to bytes piece))

-- what came joined with the piece, and whether the report ends so
record Joins (known : ReadyHostState) (bytes : List ℕ) (piece : ℕ) (last : Bool) : Type 0 where
  came : bytes_with known (piece_of bytes piece) ≡ up_to bytes piece
  ends : ends_with known (piece_of bytes piece) ≡ last

joins : (known : ReadyHostState) (r : ℕ) (parts : List ControlState) (bytes : List ℕ) (piece : ℕ) (last : Bool)
    → Reads known.layout r parts bytes known.view → is_last_piece (items_of known.layout) r piece ≡ last
    → known.collected ≡ take (64 * piece) bytes → Joins known bytes piece last
joins known r parts bytes piece last reads is got =
    let p = piece_of bytes piece in
    let came : bytes_with known p ≡ up_to bytes piece = ap (λ (bs : List ℕ). bs ++ p) got ∙ collected_more bytes piece in
    record {
      came = came;
      ends = ap (λ (bs : List ℕ). is_whole known.layout bs (length p)) came ∙ ends_by known.layout r parts bytes known.view piece last reads is;
    }

view_then : (known : ReadyHostState) (r : ℕ) (parts : List ControlState) (bytes : List ℕ) (piece : ℕ) (last : Bool)
    → Reads known.layout r parts bytes known.view → is_last_piece (items_of known.layout) r piece ≡ last
    → cond last (view_after_report known.layout (up_to bytes piece) known.view) known.view
    ≡ cond last (view_after_part (items_of known.layout) r known.view parts) known.view
view_then known r parts bytes piece false reads is = refl
view_then known r parts bytes piece true reads is =
    ap (λ (bs : List ℕ). view_after_report known.layout bs known.view)
    (all_came known.layout r parts bytes known.view piece reads is)
    ∙ ap (λ (o : Result ℕ ReportFault). elim o as
    (λ _. List ControlState) [
      | Ok n ↦ read_view known.layout n bytes known.view
      | Err fault ↦
          known.view
    ]) reads.shown.report ∙ reads.shown.view

events_then : (known : ReadyHostState) (r : ℕ) (parts : List ControlState) (bytes : List ℕ) (piece : ℕ) (last : Bool)
    → Reads known.layout r parts bytes known.view → is_last_piece (items_of known.layout) r piece ≡ last
    → cond last (events_of_report known.layout (up_to bytes piece) known.view) []
    ≡ cond last (part_events (items_of known.layout) r known.view parts) []
events_then known r parts bytes piece false reads is = refl
events_then known r parts bytes piece true reads is =
    ap (λ (bs : List ℕ). events_of_report known.layout bs known.view)
    (all_came known.layout r parts bytes known.view piece reads is)
    ∙ ap (λ (o : Result ℕ ReportFault). elim o as (λ _. List Event) [ Ok n ↦ read_events known.layout n bytes known.view | Err fault ↦ [] ]) reads.shown.report ∙ reads.shown.events

told_then : (known : ReadyHostState) (r : ℕ) (parts : List ControlState) (bytes : List ℕ) (piece : ℕ) (last : Bool)
    → Reads known.layout r parts bytes known.view → is_last_piece (items_of known.layout) r piece ≡ last
    → cond {A = Result (Unit {0}) ReportFault} last (read_or_fault (report_named known.layout (up_to bytes piece))) (Ok tt) ≡ Ok tt
told_then known r parts bytes piece false reads is = refl
told_then known r parts bytes piece true reads is =
    ap (λ (bs : List ℕ). read_or_fault (report_named known.layout bs)) (all_came known.layout r parts bytes known.view piece reads is) ∙ ap read_or_fault reads.shown.report

-- a host that takes the piece at hand, where the pieces before it came
pub record TakesPiece (known : ReadyHostState) (r : ℕ) (parts : List ControlState) (bytes : List ℕ) (piece : ℕ)
    (last : Bool) : Type 0 where
  pub told : outcome_of known (Fresh (payload (piece_of bytes piece))) ≡ Ok (Fresh (payload (piece_of bytes piece)))
  pub behind : ready_host_after known (Fresh (payload (piece_of bytes piece))) ≡ taking known r parts bytes piece last
  pub events : events_after known (Fresh (payload (piece_of bytes piece)))
      ≡ cond last (part_events (items_of known.layout) r known.view parts) []

pub takes_piece : (known : ReadyHostState) (r : ℕ) (parts : List ControlState) (bytes : List ℕ) (piece : ℕ)
    (last : Bool)
    → Reads known.layout r parts bytes known.view → is_last_piece (items_of known.layout) r piece ≡ last
    → known.collected ≡ take (64 * piece) bytes → TakesPiece known r parts bytes piece last
takes_piece known r parts bytes piece last reads is got =
    let p = piece_of bytes piece in
    let j = joins known r parts bytes piece last reads is got in
    let view : view_with known p ≡ cond last (view_after_part (items_of known.layout) r known.view parts) known.view
    = ap (λ (b : Bool). cond b (view_after_report known.layout (bytes_with known p) known.view) known.view) j.ends
    ∙ ap (λ (bs : List ℕ). cond last (view_after_report known.layout bs known.view) known.view) j.came
    ∙ view_then known r parts bytes piece last reads is in
    let collected : collected_bytes_with known p ≡ cond last [] (up_to bytes piece)
    = ap (λ (b : Bool). cond b [] (bytes_with known p)) j.ends ∙ ap (λ (bs : List ℕ). cond last [] bs) j.came in
    let read : data_read known p ≡ Ok tt
    = ap (λ (b : Bool). cond {A = Result (Unit {0}) ReportFault} b (read_or_fault (report_named known.layout (bytes_with known p))) (Ok tt)) j.ends
    ∙ ap (λ (bs : List ℕ). cond {A = Result (Unit {0}) ReportFault} last (read_or_fault (report_named known.layout bs)) (Ok tt)) j.came ∙ told_then known r parts bytes piece last reads is in
    record {
      told = ap (read_outcome (Fresh (payload p))) read;
      behind = ap (λ (v : List ControlState). known_as known v (collected_bytes_with known p)) view
          ∙ ap (known_as known
          (cond last (view_after_part (items_of known.layout) r known.view parts) known.view)) collected;
      events = ap (λ (b : Bool). cond b (events_of_report known.layout (bytes_with known p) known.view) []) j.ends
          ∙ ap (λ (bs : List ℕ). cond last (events_of_report known.layout bs known.view) []) j.came
          ∙ events_then known r parts bytes piece last reads is;
    }
