-- What is kept of Output and Feature reports: as many bytes of each as it has.
use Rattle.std.proofs.Common.{◌≡◌, ℕ, ◌+◌, ◌-◌, ◌<◌, ◌≤◌, Bool, true, false, ◌==◌, ◌&&◌, List, ◌++◌, length, take, drop, append-nil, get_or, zero, suc, Option, Some, None, refl, ap, sym, ◌∙◌, subst, arith}
use Rattle.std.specs.Prelude.{nat_le, slice_get, slice_set, option_map}
use Rattle.std.specs.List.{range_with_len}
use Rattle.std.proofs.lemmas.Bool.Decides.{nat_tests}
use Rattle.std.proofs.lemmas.List.{drop_all, length-drop, length-replicate, length-set, take_all}
use Rattle.std.proofs.lemmas.List.FromFn.{length-map-range_with_len}
use Rattle.std.proofs.lemmas.Option.{slice_get-get_or, slice_get-map, slice_get_within}
use Rattle.std.proofs.lemmas.List.Quantifiers.{position-Some}
use Rattle.hid_report_descriptor.specs.declared.report.Report.{Report}
use Rattle.hid_report_descriptor.specs.declared.report.ReportKind.TheVariants.{Input}
use Rattle.hid_report_descriptor.specs.Kinds.{same_kind}
use Rattle.hid_layout.specs.Controls.{is_input, is_input_report}
use Rattle.hid_layout.specs.Layout.{Contents}
use Rattle.hid_layout.specs.Reports.{report_bytes}
use Rattle.hid_snapshots.proofs.FillLemmas.{fill_next}
use Rattle.hid_snapshots.proofs.ItemLemmas.{set_here, set_there}
use Rattle.hid_snapshots.proofs.ListLemmas.{map_at}
use Rattle.hid_snapshots.specs.Encoding.{bare_report}
use Rattle.usb_control.specs.declared.device.TheConstants.{MAX_WRITE}
use Rattle.hid_requests.specs.declared.class.Protocol.{Protocol}
use Rattle.hid_device.specs.Core.{CoreState, IsSound}
use Rattle.hid_device.specs.RequestTable.{with_idle_time}
use Rattle.hid_device.specs.Inputs.{input_count}
use Rattle.hid_device.specs.Outputs.{AreOutputs, bare_outputs, in_place_of, is_output_named, kept_bytes, kept_reports, report_number_of, with_report}
use Rattle.hid_bus.specs.ReportState.{ReportState, with_idle}

bare_length : (layout : Contents) (r : ℕ) → length (bare_report layout r) ≡ report_bytes layout r
bare_length layout r = by_ids layout.numbered refl
  where
    by_ids : (b : Bool) → layout.numbered ≡ b → length (bare_report layout r) ≡ report_bytes layout r
    by_ids true ids = rw ids (omega (arith, length-replicate {A = ℕ}))
    by_ids false none = rw none (omega (arith, length-replicate {A = ℕ}))

-- an element of numbers one after the other is the first and its place
number_at : (first count i n : ℕ) → slice_get (range_with_len first count) i ≡ Some n → n ≡ first + i
number_at first zero i n at = absurd (cc)
number_at first (suc count) zero n at = let e : first ≡ n = cc in omega (arith, e)
number_at first (suc count) (suc i) n at = let e : n ≡ first + 1 + i = number_at (first + 1) count i n at in omega (arith, e)

mapped_at : {A : Type 0} (f : ℕ → A) (o : Option ℕ) (x : A) (n : ℕ) → ((m : ℕ) → o ≡ Some m → m ≡ n) → option_map f o ≡ Some x → x ≡ f n
mapped_at f None x n is h = absurd (cc)
mapped_at f (Some m) x n is h = let e : f m ≡ x = cc in sym e ∙ ap f (is m refl)

pub bare_are : (layout : Contents) → AreOutputs layout (bare_outputs layout)
bare_are layout =
    let first : ℕ = input_count layout.reports in
    let count : ℕ = length layout.reports - first in
    record {
      each = length-map-range_with_len (bare_report layout) first count ∙ sym (length-drop first layout.reports);
      whole = λ i output at.
          let is : output ≡ bare_report layout (first + i) = mapped_at (bare_report layout) (slice_get (range_with_len first count) i) output (first + i)
          (number_at first count i) (sym (slice_get-map (bare_report layout) (range_with_len first count) i) ∙ at) in
          ap (λ (bytes : List ℕ). length bytes) is ∙ bare_length layout (first + i);
    }

range_at : (first count i : ℕ) → i < count → slice_get (range_with_len first count) i ≡ Some (first + i)
range_at first zero i within = absurd (omega arith)
range_at first (suc count) zero within = ap Some (omega arith)
range_at first (suc count) (suc i) within = range_at (first + 1) count i (omega arith) ∙ ap Some (omega arith)

pub kept_count : (layout : Contents) → length (bare_outputs layout) ≡ length (kept_reports layout.reports)
kept_count layout = (bare_are layout).each

-- one report more is made again
pub bare_next : (layout : Contents) (start now : List (List ℕ)) (report : ℕ) (new : List ℕ) → length start ≡ length (kept_reports layout.reports)
    → input_count layout.reports ≤ report → report < length layout.reports
    → now ≡ take (report - input_count layout.reports) (bare_outputs layout) ++ drop (report - input_count layout.reports) start → new ≡ bare_report layout report
    → slice_set now (report - input_count layout.reports) new
    ≡ take (report + 1 - input_count layout.reports) (bare_outputs layout) ++ drop (report + 1 - input_count layout.reports) start
bare_next layout start now report new long from before so_far is =
    let first : ℕ = input_count layout.reports in
    let count : ℕ = length layout.reports - first in
    let i : ℕ = report - first in
    let within : i < count = omega (arith, from, before) in
    let same : length start ≡ count = long ∙ length-drop first layout.reports in
    let made : bare_report layout (first + i) ≡ new = ap (bare_report layout) (omega (arith, from)) ∙ sym is in
    let target : slice_get (bare_outputs layout) i ≡ Some new = map_at (bare_report layout) (range_with_len first count) i (first + i) (range_at first count i within) ∙ ap Some made in
    let next : i + 1 ≡ report + 1 - first = omega (arith, from) in
    ap (λ (xs : List (List ℕ)). slice_set xs i new) so_far ∙ fill_next (bare_outputs layout) start i new target (omega (arith, same, within))
    ∙ ap (λ (n : ℕ). take n (bare_outputs layout) ++ drop n start) next

same_length : (output bytes : List ℕ) → length (in_place_of output bytes) ≡ length output
same_length output bytes = by_test (length bytes == length output) refl
  where
    by_test : (b : Bool) → (length bytes == length output) ≡ b → length (in_place_of output bytes) ≡ length output
    by_test true e = rw e (grind (arith, nat_tests, e))
    by_test false e = rw e refl

pub kept_are : (layout : Contents) (outputs : List (List ℕ)) (i : ℕ) (bytes : List ℕ) → AreOutputs layout outputs
    → AreOutputs layout (with_report outputs i bytes)
kept_are layout outputs i bytes are = by_place (slice_get outputs i) refl
  where
    by_place : (o : Option (List ℕ)) → slice_get outputs i ≡ o
        → AreOutputs layout (elim o [ None ↦ outputs | Some output ↦ slice_set outputs i (in_place_of output bytes) ])
    by_place None at = are
    by_place (Some output) at = record {
      each = length-set outputs i (in_place_of output bytes) ∙ are.each;
      whole = λ k other there. at_place k other there (k == i) refl;
    }
      where
        within : i < length outputs
        within = slice_get_within outputs i output at

        at_place : (k : ℕ) (other : List ℕ) → slice_get (slice_set outputs i (in_place_of output bytes)) k ≡ Some other → (b : Bool) → (k == i) ≡ b
            → length other ≡ kept_bytes layout k
        at_place k other there true e =
            let same : i ≡ k = grind (arith, nat_tests, e) in
            let here : slice_get (slice_set outputs i (in_place_of output bytes)) k ≡ Some (in_place_of output bytes)
            = subst (λ (j : ℕ). slice_get (slice_set outputs i (in_place_of output bytes)) j ≡ Some (in_place_of output bytes)) same (set_here outputs i (in_place_of output bytes) within) in
            let is : in_place_of output bytes ≡ other = cc in
            sym (ap (λ (l : List ℕ). length l) is) ∙ same_length output bytes ∙ are.whole i output at ∙ ap (kept_bytes layout) same
        at_place k other there false e =
            are.whole k other (sym (set_there outputs i k (in_place_of output bytes) (λ same. absurd (grind (arith, nat_tests, e, same)))) ∙ there)

pub kept_is : (outputs : List (List ℕ)) (i : ℕ) (bytes output new : List ℕ) → slice_get outputs i ≡ Some output → new ≡ in_place_of output bytes
    → slice_set outputs i new ≡ with_report outputs i bytes
kept_is outputs i bytes output new at is = ap (λ (x : List ℕ). slice_set outputs i x) is ∙ by_place (slice_get outputs i) at
  where
    by_place : (o : Option (List ℕ)) → o ≡ Some output
        → slice_set outputs i (in_place_of output bytes) ≡ (elim o [ None ↦ outputs | Some there ↦ slice_set outputs i (in_place_of there bytes) ])
    by_place None h = absurd (cc)
    by_place (Some there) h = let e : output ≡ there = cc in ap (λ (x : List ℕ). slice_set outputs i (in_place_of x bytes)) e

-- the report that is found by its kind is of that kind
pub named_input : (reports : List Report) (id r : ℕ) → report_number_of reports Input id ≡ Some r
    → is_input reports r ≡ true
named_input reports id r found =
    let d : Report = record { kind = Input; id = id; bits = 0 } in
    let p = position-Some (is_output_named Input id) reports r d found in
    let named : same_kind (get_or reports r d).kind Input && ((get_or reports r d).id == id) ≡ true = p.1 in
    let kind : same_kind (get_or reports r d).kind Input ≡ true = grind (arith, named) in
    ap is_input_report (slice_get-get_or reports r d p.0) ∙ kind

-- A device stays sound with other idle times, as many, and with other reports of the same lengths.
pub sound_with : (core : CoreState) (is_configured : Bool) (idle : List ℕ) (protocol : Protocol) (outputs : List (List ℕ)) → IsSound core
    → length idle ≡ input_count core.layout.reports → AreOutputs core.layout outputs
    → IsSound
    (record core {
      is_configured = is_configured;
      reports = with_idle idle core.reports;
      protocol =
          protocol;
      outputs = outputs;
    })
sound_with core is_configured idle protocol outputs before long are = record {
  lays = before.lays;
  empty_codes = before.empty_codes;
  zeros = before.zeros;
  inputs_first = before.inputs_first;
  snapshot = before.snapshot;
  fixed = before.fixed;
  each_frames = before.each_frames;
  each_idle = long;
  each_cut = before.each_cut;
  of_input = before.of_input;
  piece = before.piece;
  sends = before.sends;
  quiet = before.quiet;
  outputs = are;
}

-- a device stays sound with other counts of frames, as many
pub sound_framed : (core : CoreState) (frames : List ℕ) → IsSound core → length frames ≡ input_count core.layout.reports
    → IsSound (let d : ReportState = record core.reports { frames = frames } in record core { reports = d })
sound_framed core frames before long = record {
  lays = before.lays;
  empty_codes = before.empty_codes;
  zeros = before.zeros;
  inputs_first = before.inputs_first;
  snapshot = before.snapshot;
  fixed = before.fixed;
  each_frames = long;
  each_idle = before.each_idle;
  each_cut = before.each_cut;
  of_input = before.of_input;
  piece = before.piece;
  sends = before.sends;
  quiet = before.quiet;
  outputs = before.outputs;
}

pub idle_length : (idle : List ℕ) (report : Option ℕ) (time : ℕ)
    → length (with_idle_time idle report time) ≡ length idle
idle_length idle None time = length-replicate (length idle) time
idle_length idle (Some r) time = length-set idle r time

-- what is written over a whole vector is what it has then
pub refilled : {A : Type 0} (new items : List A) (len : ℕ) → len ≡ length items → length new ≡ length items → take len (new ++ drop (length new) items) ≡ new
refilled {A} new items len long same =
    ap (λ (rest : List A). take len (new ++ rest)) (drop_all (length new) items (omega (arith, same)))
    ∙ ap (take len) (append-nil new) ∙ take_all len new (omega (arith, long, same))

-- a report has the place that its kind and ID have, among those that are kept
pub kept_there : (layout : Contents) (outputs : List (List ℕ)) (i : ℕ) → AreOutputs layout outputs → i < length (kept_reports layout.reports) → i < length outputs
kept_there layout outputs i are within = subst (λ (n : ℕ). i < n) (sym are.each) within

-- as many bytes as it has are no more than a device takes
pub suits_is : (layout : Contents) (outputs : List (List ℕ)) (i n len : ℕ) (output : List ℕ) → AreOutputs layout outputs → slice_get outputs i ≡ Some output → n ≡ length output → n ≤ MAX_WRITE
    → (len == n) ≡ ((len == kept_bytes layout i) && nat_le len MAX_WRITE)
suits_is layout outputs i n len output are at long short = by_test (len == n) refl ∙ ap (λ (k : ℕ). (len == k) && nat_le len MAX_WRITE) (long ∙ are.whole i output at)
  where
    by_test : (b : Bool) → (len == n) ≡ b → b ≡ ((len == n) && nat_le len MAX_WRITE)
    by_test true same = grind (arith, nat_tests, same, short)
    by_test false other = sym (ap (λ (b : Bool). b && nat_le len MAX_WRITE) other)
