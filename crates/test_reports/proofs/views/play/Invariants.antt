use Rattle.hid_layout.specs.Controls.{items_of}
use Rattle.hid_snapshots.specs.ControlStates.{FitsView}
use Rattle.test_reports.proofs.views.play.Given as goal

abbrev pub invariant-loop-step : goal.invariant-loop-step
invariant-loop-step l = FitsView (items_of l.layout) l.view
