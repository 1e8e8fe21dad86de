use Rattle.hid_layout.specs.Controls.{items_of}
use Rattle.hid_snapshots.specs.ControlStates.{FitsSnapshot, FitsShown}
use Rattle.test_reports.proofs.snapshots.play.Given as goal

abbrev pub invariant-loop-step : goal.invariant-loop-step
invariant-loop-step l = record {
  snapshot : FitsSnapshot (items_of l.layout) l.snapshot;
  parts : FitsShown (items_of l.layout) l.parts;
}
