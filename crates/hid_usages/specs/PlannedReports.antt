-- The plans of a layout's Input reports, and the bytes of the last one of each number (our choice).
use Rattle.std.specs.Prelude.{◌≡◌, ℕ, ◌*◌, ◌<◌, ◌≤◌, Bool, true, false, List, [], length, map, position, take, Some, slice_get}
use Rattle.hid_layout.specs.Controls.{items_of}
use Rattle.hid_layout.specs.Layout.{Contents}
use Rattle.hid_layout.specs.Reports.{report_bytes}
use Rattle.hid_snapshots.specs.ControlStates.{FitsView}
use Rattle.hid_snapshots.specs.declared.control_state.ControlState.{ControlState}
use Rattle.hid_snapshots.specs.Parts.{IsInput}
use Rattle.hid_fields.specs.Field.{bit_of}
use Rattle.hid_usages.specs.declared.changed_bits.BitSpan.{BitSpan}
use Rattle.hid_usages.specs.declared.planned_report.PlannedReport.{PlannedReport}
use Rattle.hid_usages.specs.declared.report_index.TheConstants.{NO_REPORT}
use Rattle.hid_usages.specs.declared.report_plans.ReportPlans.{ReportPlans}
use Rattle.hid_usages.specs.declared.report_plans.PlannedView.{PlannedView}
use Rattle.hid_usages.specs.ChangedBits.{kept_bytes, HoldBits, IsOutsideSpan}
use Rattle.hid_usages.specs.Known.{Leaves}
use Rattle.hid_usages.specs.Plans.{IsPlan}
use Rattle.hid_usages.specs.Reading.{is_input_with, report_begun}
use Rattle.hid_usages.specs.Taking.{read_events}

-- a planned report has room for the bytes of the last one of its number
abbrev pub KeepsBytes : PlannedReport → Type 0
KeepsBytes planned = length planned.last.items ≡ kept_bytes planned.room

-- the bytes of the last report
abbrev pub last_bytes : PlannedReport → List ℕ
last_bytes planned = take planned.room planned.last.items

-- a report of the layout has its plan, and room for its bytes
pub record HasPlan (layout : Contents) (r : ℕ) (planned : PlannedReport) : Type 0 where
  pub room : planned.room ≡ report_bytes layout r
  pub kept : KeepsBytes planned
  pub plan : IsPlan layout r planned.plan

-- a report has its plan, and none came yet
pub record IsPlannedAnew (layout : Contents) (r : ℕ) (planned : PlannedReport) : Type 0 where
  pub plan : HasPlan layout r planned
  pub none : planned.is_known ≡ false

-- the bytes of a report are kept, the plan stays
pub record Keeps (before : PlannedReport) (bytes : List ℕ) (silent : Bool) (after : PlannedReport) : Type 0 where
  pub plan : after.plan ≡ before.plan
  pub room : after.room ≡ before.room
  pub kept : KeepsBytes after
  pub bits : HoldBits after.last.items (take before.room bytes)
  pub known : after.is_known ≡ true
  pub quiet : after.is_silent ≡ silent

-- outside of the span, the bits of a report are known to be those of the last one
abbrev pub KnowsOutside : PlannedReport → List ℕ → BitSpan → Type 0
KnowsOutside planned bytes span =
    (n : ℕ) → n < 8 * length bytes → IsOutsideSpan span n
    → (planned.is_known ≡ true) × (bit_of planned.last.items n ≡ bit_of bytes n)

-- A report has its plan, and the last one of its number leaves the view, without an event if it is silent.
pub record IsPlannedReport (layout : Contents) (r : ℕ) (view : List ControlState) (planned : PlannedReport) : Type 0 where
  pub plan : HasPlan layout r planned
  pub left : planned.is_known ≡ true → Leaves layout r (last_bytes planned) view
  pub silent : planned.is_known ≡ true → planned.is_silent ≡ true → read_events layout r (last_bytes planned) view ≡ []

-- Bytes fill a report, and have the bits of the last one, which gave no event.
pub record IsStill (planned : PlannedReport) (bytes : List ℕ) : Type 0 where
  pub whole : planned.room ≤ length bytes
  pub known : planned.is_known ≡ true
  pub silent : planned.is_silent ≡ true
  pub bits : HoldBits planned.last.items (take planned.room bytes)

-- where an index has the place of a report at an ID, that is the Input report with it
abbrev pub IsIndex : Contents → List ℕ → Type 0
IsIndex layout index = (id r : ℕ) → slice_get index id ≡ Some r → r < NO_REPORT → position (is_input_with id) layout.reports ≡ Some r

-- a place that the index has is that of the Input report that bytes begin
abbrev pub IsPlaceOf : Contents → List ℕ → ℕ → Type 0
IsPlaceOf layout bytes place = place < NO_REPORT → report_begun layout bytes ≡ Some place

-- each Input report has its plan, and is found by its ID; the last one of each number leaves the view
pub record ArePlanned (layout : Contents) (view : List ControlState) (plans : ReportPlans) : Type 0 where
  pub index : IsIndex layout plans.index.items
  pub there : (r : ℕ) → IsInput layout r → r < length plans.reports.items
  pub each : (r : ℕ) (planned : PlannedReport) → slice_get plans.reports.items r ≡ Some planned
      → IsPlannedReport layout r view planned

-- a view and the plans suit the layout
pub record IsPlannedView (layout : Contents) (planned : PlannedView) : Type 0 where
  pub fits : FitsView (items_of layout) planned.view
  pub plans : ArePlanned layout planned.view planned.plans

-- up to the last Input report each has its plan, and none came yet
pub record ArePlannedAnew (layout : Contents) (reports : List PlannedReport) : Type 0 where
  pub there : (r : ℕ) → IsInput layout r → r < length reports
  pub each : (r : ℕ) (planned : PlannedReport) → slice_get reports r ≡ Some planned → IsPlannedAnew layout r planned

-- the last report is forgotten
abbrev pub without_last : PlannedReport → PlannedReport
without_last planned = record planned { is_known = false }

-- the last report of each number is forgotten
abbrev pub AreForgotten : List PlannedReport → List PlannedReport → Type 0
AreForgotten before after = after ≡ map without_last before
