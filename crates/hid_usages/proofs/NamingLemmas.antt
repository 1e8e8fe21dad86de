-- The bytes of a report name it: by their first byte where reports are numbered, and else as the Input report with ID 0.
use Rattle.std.proofs.Common.{◌≡◌, ℕ, ◌+◌, ◌-◌, ◌/◌, ◌<◌, inl, inr, Bool, true, false, cond, nat_eq, nat_lt, List, [], ◌∷◌, length, replicate, get_or, Option, Some, None, Result, Ok, Err, ℤ, refl, sym, ap, ◌∙◌, arith}
use Rattle.std.proofs.lemmas.Bool.{cases_Bool}
use Rattle.std.specs.List.{slice_get, position, position_or_len}
use Rattle.std.proofs.lemmas.List.Sums.{position_or_len_is}
use Rattle.std.proofs.lemmas.Option.{slice_get_within, slice_get-get_or}
use Rattle.std.proofs.lemmas.Bool.Decides.{nat_tests}
use Rattle.hid_fields.specs.Field.{bit_of}
use Rattle.hid_fields.proofs.FieldLemmas.{pattern_of-same}
use Rattle.hid_fields.proofs.WordLemmas.{pattern_of-byte}
use Rattle.hid_report_descriptor.specs.declared.report.Report.{Report}
use Rattle.hid_report_descriptor.specs.declared.report.ReportKind.TheVariants.{Input}
use Rattle.hid_report_descriptor.specs.Kinds.{same_kind}
use Rattle.hid_layout.specs.Layout.{Contents}
use Rattle.hid_layout.specs.Reports.{IsLayout, first_bit, report_bytes, report_id, bits_of}
use Rattle.hid_report_descriptor.proofs.Shares.{kinds_equal}
use Rattle.hid_snapshots.specs.declared.fault.ReportFault.{ReportFault}
use Rattle.hid_snapshots.specs.declared.fault.ReportFault.TheVariants.{Short}
use Rattle.hid_snapshots.specs.Encoding.{AreBytes, IsEncoding, bare_report}
use Rattle.hid_snapshots.specs.Parts.{IsInput}
use Rattle.hid_usages.specs.Reading.{is_input_with, first_byte, whole_report, report_named}
use Rattle.hid_snapshots.proofs.CodeLemmas.{both_true}
use Rattle.hid_snapshots.proofs.ItemLemmas.{got}
use Rattle.hid_snapshots.proofs.PlanLemmas.{input_there}

-- the one place that passes
only_place : {A : Type 0} (test : A → Bool) (xs : List A) (r : ℕ) (x : A) → slice_get xs r ≡ Some x → test x ≡ true → ((k : ℕ) (y : A) → slice_get xs k ≡ Some y → test y ≡ true → k ≡ r) → position test xs ≡ Some r
only_place test xs r x h ok only =
    let within = slice_get_within xs r x h in
    let there : get_or xs r x ≡ x = same_value (slice_get-get_or xs r x within) in
    let at : position_or_len test xs ≡ r = position_or_len_is test xs r x (omega arith) (λ k lt. before k lt) (λ lt. rw there ok) in
    ap (λ (n : ℕ). cond (nat_lt n (length xs)) (Some n) None) at ∙ (let passes : nat_lt r (length xs) ≡ true = grind (arith, nat_tests) in rw passes refl)
  where
    same_value : slice_get xs r ≡ Some (get_or xs r x) → get_or xs r x ≡ x
    same_value e = cc

    before : (k : ℕ) → k < r → test (get_or xs k x) ≡ false
    before k lt =
        let there = slice_get-get_or xs k x (omega (arith, slice_get_within xs r x h)) in
        elim (cases_Bool (test (get_or xs k x))) [ inl e ↦ absurd (let same = only k (get_or xs k x) there e in omega arith) | inr e ↦ e ]

-- the report of this number is the one Input report with its ID
pub input_with : (layout : Contents) (r : ℕ) (report : Report) → IsLayout layout → IsInput layout r → slice_get layout.reports r ≡ Some report → position (is_input_with report.id) layout.reports ≡ Some r
input_with layout r report laid input there = only_place (is_input_with report.id) layout.reports r report there passes only
  where
    kind : same_kind report.kind Input ≡ true
    kind = sym (ap (λ (o : Option Report). elim o as (λ _. Bool) [ None ↦ false | Some x ↦ same_kind x.kind Input ]) there) ∙ input

    passes : is_input_with report.id report ≡ true
    passes = let same : nat_eq report.id report.id ≡ true = grind (arith, nat_tests) in rw (kind, same) refl

    only : (k : ℕ) (y : Report) → slice_get layout.reports k ≡ Some y → is_input_with report.id y ≡ true → k ≡ r
    only k y h ok =
        let both = both_true (same_kind y.kind Input) (nat_eq y.id report.id) ok in
        let id : y.id ≡ report.id = let test = both.1 in grind (arith, nat_tests) in
        laid.one_place k r y report h there (kinds_equal y.kind Input both.0 ∙ sym (kinds_equal report.kind Input kind)) id

-- the bytes fill their report
fills : (layout : Contents) (bytes : List ℕ) (r : ℕ) → length bytes ≡ report_bytes layout r → whole_report layout bytes (Some r) ≡ Ok r
fills layout bytes r whole = let long : nat_lt (length bytes) (report_bytes layout r) ≡ false = grind (arith, nat_tests) in ap (λ (b : Bool). let short : Result ℕ ReportFault = Err Short in cond b short (Ok r)) long

-- the first byte is the ID
first_is_id : (layout : Contents) (r : ℕ) (numbers : ℕ → List ℤ) (bytes : List ℕ) (report : Report) → IsLayout layout → slice_get layout.reports r ≡ Some report → AreBytes bytes → IsEncoding layout r numbers bytes → layout.numbered ≡ true
    → first_byte bytes ≡ Some report.id
first_is_id layout r numbers bytes report laid there are_bytes is numbered = by_bytes bytes long byte
  where
    bare : List ℕ
    bare = report.id ∷ replicate (report_bytes layout r - 1) 0

    id : report_id layout r ≡ report.id
    id = ap (λ (o : Option Report). elim o as (λ _. ℕ) [ None ↦ 0 | Some x ↦ x.id ]) there

    bare_is : bare_report layout r ≡ bare
    bare_is = ap (λ (b : Bool). cond b (report_id layout r ∷ replicate (report_bytes layout r - 1) 0) (replicate (report_bytes layout r) 0)) numbered ∙ ap (λ (n : ℕ). n ∷ replicate (report_bytes layout r - 1) 0) id

    long : 0 < length bytes
    long = let more : report_bytes layout r ≡ (bits_of layout.reports r + 7) / 8 + 1 = ap (λ (b : Bool). (bits_of layout.reports r + 7) / 8 + cond b 1 0) numbered in omega (arith, is.whole)

    bit : (n : ℕ) → n < 8 → bit_of bytes n ≡ bit_of bare n
    bit n lt = is.shows.others n (λ i m h d. inl (let eight : first_bit layout ≡ 8 = ap (λ (b : Bool). cond b 8 0) numbered in omega arith)) ∙ ap (λ (xs : List ℕ). bit_of xs n) bare_is

    byte : get_or bytes 0 0 ≡ report.id
    byte =
        sym (pattern_of-byte bytes 0 (are_bytes 0 0 long)) ∙ pattern_of-same bytes bare 0 0 8 (λ k lt. bit (0 + k) (omega arith)) ∙ pattern_of-byte bare 0 (laid.byte_id r report there)

    by_bytes : (xs : List ℕ) → 0 < length xs → get_or xs 0 0 ≡ report.id → first_byte xs ≡ Some report.id
    by_bytes [] h e = absurd (omega arith)
    by_bytes (x ∷ xs) h e = ap (λ (n : ℕ). Some n) e

-- The bytes of a report name it.
pub names_report : (layout : Contents) (r : ℕ) (numbers : ℕ → List ℤ) (bytes : List ℕ) → IsLayout layout → IsInput layout r → AreBytes bytes → IsEncoding layout r numbers bytes → report_named layout bytes ≡ Ok r
names_report layout r numbers bytes laid input are_bytes is = by_numbered layout.numbered refl
  where
    found : (report : Report) × (slice_get layout.reports r ≡ Some report)
    found = got layout.reports r (input_there layout r input)

    report : Report
    report = found.0

    placed : position (is_input_with report.id) layout.reports ≡ Some r
    placed = input_with layout r report laid input found.1

    read : Bool → Result ℕ ReportFault
    read b = cond b (elim (first_byte bytes) as (λ _. Result ℕ ReportFault) [ None ↦ Err Short | Some id ↦ whole_report layout bytes (position (is_input_with id) layout.reports) ]) (whole_report layout bytes (position (is_input_with 0) layout.reports))

    whole : whole_report layout bytes (position (is_input_with report.id) layout.reports) ≡ Ok r
    whole = ap (whole_report layout bytes) placed ∙ fills layout bytes r is.whole

    by_numbered : (b : Bool) → layout.numbered ≡ b → report_named layout bytes ≡ Ok r
    by_numbered true e =
        ap read e
        ∙ ap (λ (o : Option ℕ). elim o as (λ _. Result ℕ ReportFault) [ None ↦ Err Short | Some id ↦ whole_report layout bytes (position (is_input_with id) layout.reports) ]) (first_is_id layout r numbers bytes report laid found.1 are_bytes is e)
        ∙ whole
    by_numbered false e =
        let zero_id : report.id ≡ 0 = laid.unnumbered r report e found.1 in
        ap read e ∙ ap (λ (n : ℕ). whole_report layout bytes (position (is_input_with n) layout.reports)) (sym zero_id) ∙ whole
