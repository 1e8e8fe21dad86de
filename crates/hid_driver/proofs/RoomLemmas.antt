-- A transfer of at most a packet has room.
use Rattle.std.proofs.Common.{◌≡◌, ℕ, zero, suc, ◌+◌, ◌<◌, ◌≤◌, refl, sym, ◌∙◌, ap, subst, inl, inr, Bool, true, false, cond, List, [], ◌∷◌, ◌++◌, length, length-append, Option, Some, None, arith}
use Rattle.std.specs.Prelude.{max, nat_le, nat_lt, ◌||◌, option_map, position}
use Rattle.std.specs.Option.{option_and_then}
use Rattle.std.proofs.Math.Nat.{le-max_left, le-max_right}
use Rattle.std.proofs.lemmas.Bool.{cases_lt, le-leb, leb-false, lt-leb}
use Rattle.std.proofs.lemmas.List.Quantifiers.{position-Some}
use Rattle.hid_report_descriptor.specs.declared.limits.TheConstants.{MAX_REPORT_BYTES}
use Rattle.hid_report_descriptor.specs.declared.report.ReportKind.TheVariants.{Input}
use Rattle.hid_layout.specs.Layout.{Contents}
use Rattle.hid_layout.specs.Reports.{report_bytes}
use Rattle.hid_usages.specs.Reading.{bytes_awaited, first_byte, is_input_with, report_begun}
use Rattle.hid_usages.specs.Receiving.{ReceiverState, after_packet, bytes_with, is_whole, without_collected}
use Rattle.hid_driver.specs.declared.outcome.Outcome.{Outcome}
use Rattle.hid_driver.specs.declared.outcome.Outcome.TheVariants.{Done, Stalled, Failed}
use Rattle.hid_driver.specs.Pipe.{KeepsFew, PipeState, has_packet_past, pipe_after_outcome, is_live, is_long, length_begun, live_pipe, longest_of, longest_report, pipe_at_start, report_end, size_with, transfer_room}

-- no report is longer than the longest one
least_longest : (layout : Contents) (count : ℕ) → MAX_REPORT_BYTES ≤ longest_of layout count
least_longest layout zero = omega arith
least_longest layout (suc count) =
    let before = least_longest layout count in
    let more = le-max_left (longest_of layout count) (report_bytes layout count) in
    omega (arith, before, more)

pub each_longest : (layout : Contents) (count r : ℕ) → r < count → report_bytes layout r ≤ longest_of layout count
each_longest layout zero r within = absurd (omega arith)
each_longest layout (suc count) r within =
    elim (cases_lt r count) [
      | inl before ↦
          let one = each_longest layout count r before in
          let more = le-max_left (longest_of layout count) (report_bytes layout count) in
          omega (arith, one, more)
      | inr past ↦
          let same : count ≡ r = omega arith in
          subst (λ (k : ℕ). report_bytes layout k ≤ max (longest_of layout count) (report_bytes layout count)) same
          (le-max_right (longest_of layout count) (report_bytes layout count))
    ]

pub found_within : (layout : Contents) (id r : ℕ) → position (is_input_with id) layout.reports ≡ Some r → r < length layout.reports
found_within layout id r found = (position-Some (is_input_with id) layout.reports r (record { kind = Input; id = 0; bits = 0 }) found).0

pub begun_by : (layout : Contents) (numbered : Bool) (first : Option ℕ) (r : ℕ)
    → cond numbered (option_and_then (λ id. position (is_input_with id) layout.reports) first) (position (is_input_with 0) layout.reports) ≡ Some r
    → r < length layout.reports
begun_by layout false first r begun = found_within layout 0 r begun
begun_by layout true None r begun = let wrong : ◌≡◌ {A = Option ℕ} None (Some r) = begun in cc
begun_by layout true (Some id) r begun = found_within layout id r begun

-- the end of a report: past its first byte, and not past the longest report
end_some : (begun : Option ℕ) → 0 < report_end begun
end_some None = omega arith
end_some (Some len) = let one = le-max_right len 1 in omega (arith, one)

end_by : (layout : Contents) (begun : Option ℕ) → ((r : ℕ) → begun ≡ Some r → r < length layout.reports)
    → report_end (option_map (report_bytes layout) begun) ≤ longest_report layout
end_by layout None within = least_longest layout (length layout.reports)
end_by layout (Some r) within =
    let one = each_longest layout (length layout.reports) r (within r refl) in
    let least = least_longest layout (length layout.reports) in
    omega (arith, one, least)

end_most : (layout : Contents) (bytes : List ℕ) → report_end (length_begun layout bytes) ≤ longest_report layout
end_most layout bytes = end_by layout (report_begun layout bytes) (λ r begun. begun_by layout layout.numbered (first_byte bytes) r begun)

awaited_by : (lengths : ℕ → ℕ) (begun : Option ℕ)
    → elim begun as (λ _. ℕ) [ None ↦ MAX_REPORT_BYTES | Some r ↦ lengths r ] ≤ report_end (option_map lengths begun)
awaited_by lengths None = omega arith
awaited_by lengths (Some r) = le-max_left (lengths r) 1

-- what isn't too long has room
pub room_when : (packet_size : ℕ) (layout : Contents) (bytes : List ℕ) → 0 < packet_size
    → has_packet_past packet_size (length_begun layout bytes) (length bytes) ≡ false → length bytes ≤ transfer_room packet_size layout
room_when packet_size layout bytes some none =
    let few = leb-false (report_end (length_begun layout bytes) + max packet_size 1) (length bytes) none in
    let most = end_most layout bytes in
    omega (arith, few, most, some)

-- a packet after what is kept doesn't lie past the end of the report
packet_after : (packet_size : ℕ) (layout : Contents) (collected bytes : List ℕ) → length collected < report_end (length_begun layout collected)
    → length bytes ≤ packet_size
    → has_packet_past packet_size (length_begun layout (collected ++ bytes)) (length (collected ++ bytes)) ≡ false
packet_after packet_size layout [] bytes few short =
    let some = end_some (length_begun layout bytes) in
    lt-leb (report_end (length_begun layout bytes) + max packet_size 1) (length bytes) (omega (arith, some, short))
packet_after packet_size layout (x ∷ xs) bytes few short =
    let all = length-append (x ∷ xs) bytes in
    lt-leb (report_end (length_begun layout (x ∷ xs)) + max packet_size 1) (length ((x ∷ xs) ++ bytes)) (omega (arith, all, few, short))

pub has_room : (pipe : PipeState) (bytes : List ℕ) → KeepsFew pipe → length bytes ≤ pipe.packet_size → is_long pipe bytes ≡ false
has_room pipe bytes few short = packet_after pipe.packet_size pipe.receiving.layout pipe.receiving.collected bytes few short

-- with bytes that end no report there are fewer than are awaited
goes_on_by : (size last awaited came : ℕ) → (nat_lt last size || nat_le awaited came) ≡ false → came < awaited
goes_on_by size last awaited came goes =
    elim (cases_lt came awaited) [
      | inl before ↦ before
      | inr past ↦
          let enough = le-leb awaited came past in
          let whole : (nat_lt last size || nat_le awaited came) ≡ true = ap (λ (b : Bool). nat_lt last size || b) enough ∙ either (nat_lt last size) in
          let wrong : true ≡ false = sym whole ∙ goes in
          cc
    ]
  where
    either : (b : Bool) → (b || true) ≡ true
    either true = refl
    either false = refl

-- a receiver keeps fewer bytes than the report has
abbrev FewKept : ReceiverState → Type 0
FewKept receiving = length receiving.collected < report_end (length_begun receiving.layout receiving.collected)

-- what is kept after a transfer
kept_by : (layout : Contents) (bytes : List ℕ) (whole : Bool) → (whole ≡ false → length bytes < report_end (length_begun layout bytes))
    → length (cond whole [] bytes) < report_end (length_begun layout (cond whole [] bytes))
kept_by layout bytes true few = end_some (length_begun layout [])
kept_by layout bytes false few = few refl

received_few : (long : Bool) (receiving : ReceiverState) (size : ℕ) (bytes : List ℕ)
    → FewKept (cond long (without_collected receiving) (after_packet size receiving bytes))
received_few true receiving size bytes = end_some (length_begun receiving.layout [])
received_few false receiving size bytes =
    let all : List ℕ = bytes_with receiving bytes in
    kept_by receiving.layout all (is_whole size receiving.layout all (length bytes))
    (λ goes. let most = awaited_by (report_bytes receiving.layout) (report_begun receiving.layout all) in
    let few = goes_on_by size (length bytes) (bytes_awaited receiving.layout all) (length all) goes in
    omega (arith, most, few))

live_few : (pipe : PipeState) (outcome : Outcome) → KeepsFew pipe → KeepsFew (live_pipe pipe outcome)
live_few pipe (Done bytes) few = received_few (is_long pipe bytes.now) pipe.receiving (size_with pipe bytes.now) bytes.now
live_few pipe Stalled few = end_some (length_begun pipe.receiving.layout [])
live_few pipe Failed few = few

heard_few_if : (live : Bool) (pipe : PipeState) (outcome : Outcome) → KeepsFew pipe → KeepsFew (cond live (live_pipe pipe outcome) pipe)
heard_few_if true pipe outcome few = live_few pipe outcome few
heard_few_if false pipe outcome few = few

pub heard_few : (pipe : PipeState) (outcome : Outcome) → KeepsFew pipe → KeepsFew (pipe_after_outcome pipe outcome)
heard_few pipe outcome few = heard_few_if (is_live pipe.flow) pipe outcome few

pub start_few : (packet_size : ℕ) (layout : Contents) → KeepsFew (pipe_at_start packet_size layout)
start_few packet_size layout = end_some (length_begun layout [])
