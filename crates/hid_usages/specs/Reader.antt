-- What is seen of a reader, and what holds of every one (our choice).
use Rattle.std.specs.Prelude.{ℕ, ◌≡◌, List}
use Rattle.hid_layout.specs.Layout.{Contents}
use Rattle.hid_layout.specs.Controls.{items_of, max_events}
use Rattle.hid_layout.specs.Reports.{IsLayout}
use Rattle.hid_snapshots.specs.ControlStates.{FitsView}
use Rattle.hid_snapshots.specs.declared.control_state.ControlState.{ControlState}
use Rattle.hid_usages.specs.declared.report_plans.ReportPlans.{ReportPlans}
use Rattle.hid_usages.specs.PlannedReports.{ArePlanned}

-- the layout of a device's reports, and a host's view of its controls
pub record ReaderState : Type 0 where
  pub layout : Contents
  pub view : List ControlState

-- what holds of every reader, of the most events that it counts, and of the plans of its reports
pub record IsReader (layout : Contents) (view : List ControlState) (most : ℕ) (plans : ReportPlans) : Type 0 where
  pub laid : IsLayout layout
  pub fits : FitsView (items_of layout) view
  pub most_events : most ≡ max_events (items_of layout)
  pub planned : ArePlanned layout view plans
