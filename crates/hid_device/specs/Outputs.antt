-- The reports of a device by kind and ID, and what is kept of those that a host sets (HID 1.11, 5.6, 7.2.1 and 7.2.2).
use Rattle.std.specs.Prelude.{◌≡◌, ℕ, ◌+◌, ◌-◌, Bool, ◌&&◌, ◌==◌, if◌then◌else◌, List, length, map, drop, position, slice_get, slice_set, Option, Some, None}
use Rattle.std.specs.List.{range_with_len}
use Rattle.hid_report_descriptor.specs.declared.report.Report.{Report}
use Rattle.hid_report_descriptor.specs.declared.report.ReportKind.{ReportKind}
use Rattle.hid_report_descriptor.specs.Kinds.{same_kind}
use Rattle.hid_layout.specs.Layout.{Contents}
use Rattle.hid_layout.specs.Reports.{report_bytes}
use Rattle.hid_snapshots.specs.Encoding.{bare_report}
use Rattle.hid_device.specs.Inputs.{input_count}

-- a report of this kind and ID
abbrev pub is_output_named : ReportKind → ℕ → Report → Bool
is_output_named kind id report = same_kind report.kind kind && (report.id == id)

-- The number of the report of this kind and ID, where there is one.
abbrev pub report_number_of : List Report → ReportKind → ℕ → Option ℕ
report_number_of reports kind id = position (is_output_named kind id) reports

-- the reports that a host sets, Output and Feature: they stand after the Input reports
abbrev pub kept_reports : List Report → List Report
kept_reports reports = drop (input_count reports) reports

-- the place of the report of this kind and ID among the Output and Feature reports, if one is there
abbrev pub kept_place : List Report → ReportKind → ℕ → Option ℕ
kept_place reports kind id = position (is_output_named kind id) (kept_reports reports)

-- how many bytes the report at a place among the Output and Feature reports has
abbrev pub kept_bytes : Contents → ℕ → ℕ
kept_bytes layout i = report_bytes layout (input_count layout.reports + i)

-- The Output and Feature reports at first: each is zeros, after its ID where there are IDs (our choice).
abbrev pub bare_outputs : Contents → List (List ℕ)
bare_outputs layout =
    map (bare_report layout)
    (range_with_len (input_count layout.reports) (length layout.reports - input_count layout.reports))

-- bytes in place of others where they are as many
abbrev pub in_place_of : List ℕ → List ℕ → List ℕ
in_place_of output bytes = if length bytes == length output then bytes else output

-- The Output and Feature reports once the one at a place is set to these bytes, whatever they are, where they are as
-- many as it has.
abbrev pub with_report : List (List ℕ) → ℕ → List ℕ → List (List ℕ)
with_report outputs i bytes =
    elim (slice_get outputs i) [ None ↦ outputs | Some output ↦ slice_set outputs i (in_place_of output bytes) ]

-- what is kept of the Output and Feature reports: of each as many bytes as it has
pub record AreOutputs (layout : Contents) (outputs : List (List ℕ)) : Type 0 where
  pub each : length outputs ≡ length (kept_reports layout.reports)
  pub whole : (i : ℕ) (output : List ℕ) → slice_get outputs i ≡ Some output → length output ≡ kept_bytes layout i
