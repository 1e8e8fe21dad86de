-- The Input reports of a layout come first among its reports.
use Rattle.std.proofs.Common.{◌≡◌, ℕ, zero, suc, ◌<◌, Bool, true, false, cond, List, [], ◌∷◌, ◌++◌, length, ◌==◌, refl, sym, ◌∙◌, subst, append_assoc, arith}
use Rattle.std.specs.List.{flat_map}
use Rattle.std.proofs.lemmas.List.Sums.{sum_by-cons}
use Rattle.hid_report_descriptor.specs.declared.report.Report.{Report}
use Rattle.hid_report_descriptor.specs.declared.report.ReportKind.{ReportKind}
use Rattle.hid_report_descriptor.specs.declared.report.ReportKind.TheVariants.{Input, Output, Feature}
use Rattle.hid_report_descriptor.specs.Kinds.{same_kind}
use Rattle.hid_layout.specs.Controls.{is_input}
use Rattle.hid_report_descriptor.specs.Fields.{Field, fields, report_bits}
use Rattle.hid_report_descriptor.specs.Faults.{numbers_from}
use Rattle.hid_layout.specs.Layout.{Contents}
use Rattle.hid_report_descriptor.specs.Reporting.{report_if_any, reports_of_kind, reports_of}
use Rattle.hid_device.specs.Core.{CoreState, IsSound}
use Rattle.hid_device.specs.Inputs.{input_count, AreInputsFirst}
use Rattle.hid_device.specs.Creation.{ParsesTo}

-- each report is an Input report, or none is
abbrev AreAll : Bool → List Report → Type 0
AreAll b [] = Unit {0}
AreAll b (report ∷ reports) = (same_kind report.kind Input ≡ b) × AreAll b reports

all_appended : (b : Bool) (xs ys : List Report) → AreAll b xs → AreAll b ys → AreAll b (xs ++ ys)
all_appended b [] ys h k = k
all_appended b (x ∷ xs) ys h k = (h.0, all_appended b xs ys h.1 k)

one_kind : (fs : List Field) (kind : ReportKind) (id : ℕ) → AreAll (same_kind kind Input) (report_if_any fs kind id)
one_kind fs kind id = by_bits (report_bits kind id fs == 0)
  where
    by_bits : (b : Bool) → AreAll (same_kind kind Input) (let one : Report = record { kind = kind; id = id; bits = report_bits kind id fs } in cond b [] (one ∷ []))
    by_bits true = tt
    by_bits false = (refl, tt)

of_kind : (fs : List Field) (kind : ReportKind) (ids : List ℕ) → AreAll (same_kind kind Input) (flat_map (report_if_any fs kind) ids)
of_kind fs kind [] = tt
of_kind fs kind (id ∷ ids) = all_appended (same_kind kind Input) (report_if_any fs kind id) (flat_map (report_if_any fs kind) ids) (one_kind fs kind id) (of_kind fs kind ids)

count_first : (xs ys : List Report) → AreAll true xs → AreAll false ys → input_count (xs ++ ys) ≡ length xs
count_first [] [] h k = refl
count_first [] (y ∷ ys) h k =
    sum_by-cons (λ (report : Report). cond (same_kind report.kind Input) 1 0) y ys ∙ rw (k.0, count_first [] ys tt k.1) refl
count_first (x ∷ xs) ys h k =
    sum_by-cons (λ (report : Report). cond (same_kind report.kind Input) 1 0) x (xs ++ ys) ∙ rw (h.0, count_first xs ys h.1 k) (omega arith)

input_there : (xs ys : List Report) (r : ℕ) → AreAll true xs → r < length xs → is_input (xs ++ ys) r ≡ true
input_there [] ys r h within = absurd (omega arith)
input_there (x ∷ xs) ys zero h within = h.0
input_there (x ∷ xs) ys (suc r) h within = input_there xs ys r h.1 (omega arith)

no_input : (ys : List Report) (r : ℕ) → AreAll false ys → is_input ys r ≡ true → ⊥
no_input [] r k e = absurd (cc)
no_input (y ∷ ys) zero k e = let f : false ≡ true = sym k.0 ∙ e in absurd (cc)
no_input (y ∷ ys) (suc r) k e = no_input ys r k.1 e

input_first : (xs ys : List Report) (r : ℕ) → AreAll false ys → is_input (xs ++ ys) r ≡ true → r < length xs
input_first [] ys r k e = absurd (no_input ys r k e)
input_first (x ∷ xs) ys zero k e = omega arith
input_first (x ∷ xs) ys (suc r) k e = let h : r < length xs = input_first xs ys r k e in omega arith

first_of_two : (xs ys : List Report) → AreAll true xs → AreAll false ys → AreInputsFirst (xs ++ ys)
first_of_two xs ys h k =
    let count = count_first xs ys h k in
    record {
      first = λ r within. input_there xs ys r h (omega arith);
      no_others = λ r e. let w : r < length xs = input_first xs ys r k e in omega arith;
    }

reports_split : (fs : List Field) → AreInputsFirst (reports_of fs)
unfolding reports_of reports_of_kind
reports_split fs =
    let xs = flat_map (report_if_any fs Input) (numbers_from 0 256) in
    let ys = flat_map (report_if_any fs Output) (numbers_from 0 256) in
    let zs = flat_map (report_if_any fs Feature) (numbers_from 0 256) in
    subst AreInputsFirst (sym (append_assoc xs ys zs))
    (first_of_two xs (ys ++ zs) (of_kind fs Input (numbers_from 0 256))
    (all_appended false ys zs (of_kind fs Output (numbers_from 0 256)) (of_kind fs Feature (numbers_from 0 256))))

pub inputs_first : (descriptor : List ℕ) (layout : Contents) → ParsesTo descriptor layout
    → AreInputsFirst layout.reports
inputs_first descriptor layout lays =
    subst (λ (l : Contents). AreInputsFirst l.reports) (sym lays.laid) (reports_split (fields lays.items))

-- a report whose frames are counted has a number below that of the Input reports
pub counted : (inside core : CoreState) (r : ℕ) → IsSound inside → inside ≡ core → r < length core.reports.frames
    → r < input_count inside.layout.reports
counted inside core r sound same within =
    subst (λ (n : ℕ). r < n) sound.each_frames
    (subst (λ (c : CoreState). r < length c.reports.frames) (sym same) within)

-- a report whose frames are counted is an Input report
pub counted_input : (inside core : CoreState) (r : ℕ) → IsSound inside → inside ≡ core
    → r < length core.reports.frames → is_input inside.layout.reports r ≡ true
counted_input inside core r sound same within = sound.inputs_first.first r (counted inside core r sound same within)
