use Rattle.hid_layout.specs.Controls.{items_of}
use Rattle.hid_usages.specs.ControlStates.{FitsSnapshot}
use Rattle.hid_bench.proofs.writing.touch_all.Given as goal

abbrev pub invariant-loop-usage : goal.invariant-loop-usage
invariant-loop-usage l = FitsSnapshot (items_of l.layout) l.snapshot
