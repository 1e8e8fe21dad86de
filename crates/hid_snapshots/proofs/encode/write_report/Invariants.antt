use Rattle.std.proofs.Common.{◌≡◌}
use Rattle.arrayvec.specs.ArrayVec.{array_vec_len}
use Rattle.hid_layout.specs.Reports.{report_bytes}
use Rattle.hid_snapshots.specs.Encoding.{bare_report, part_numbers, Shows, AreBytes}
use Rattle.hid_snapshots.proofs.PlanLemmas.{IsAlong}
use Rattle.hid_snapshots.proofs.encode.write_report.Given as goal

abbrev pub invariant-loop-place : goal.invariant-loop-place
invariant-loop-place g l = record {
  shows : IsAlong l.layout l.report l.place-index (λ i. Shows l.layout l.report (part_numbers l.layout l.shown) i (bare_report l.layout l.report) l.bytes.items);
  bytes : AreBytes l.bytes.items;
  whole : array_vec_len l.bytes ≡ report_bytes l.layout l.report;
}
