use Rattle.std.proofs.Common.{◌≡◌, ◌≤◌, ◌-◌, ◌++◌, take, drop}
use Rattle.hid_device.specs.Inputs.{input_count}
use Rattle.hid_device.specs.Outputs.{bare_outputs}
use Rattle.hid_device.proofs.outputs.reset_outputs.Given as goal

abbrev pub invariant-loop-report : goal.invariant-loop-report
invariant-loop-report l = record {
  from : input_count l.layout.reports ≤ l.report;
  reset : l.outputs ≡ take (l.report - input_count l.layout.reports) (bare_outputs l.layout) ++ drop (l.report - input_count l.layout.reports) l.fn.outputs;
}
