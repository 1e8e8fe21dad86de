use Rattle.std.proofs.Common.{◌≡◌, ◌≤◌, ◌-◌, map, length, vec_capacity}
use Rattle.std.specs.List.{range_with_len}
use Rattle.hid_snapshots.specs.Encoding.{bare_report}
use Rattle.hid_device.specs.Inputs.{input_count}
use Rattle.hid_device.proofs.outputs.bare_outputs.Given as goal

abbrev pub invariant-loop-report : goal.invariant-loop-report
invariant-loop-report l = record {
  from : l.first ≤ l.report;
  bare : l.outputs.items ≡ map (bare_report l.layout) (range_with_len l.first (l.report - l.first));
  first_is : l.first ≡ input_count l.layout.reports;
  count_is : l.count ≡ length l.layout.reports;
  long : length l.outputs.items ≡ l.report - l.first;
  room : vec_capacity l.outputs ≡ l.count - l.first;
}
