use Rattle.std.proofs.Common.{◌≡◌, ℕ, ◌<◌, ◌≤◌}
use Rattle.hid_layout.specs.Reports.{report_bytes}
use Rattle.hid_report_descriptor.specs.declared.limits.TheConstants.{MAX_REAL_REPORT_BYTES}
use Rattle.hid_driver.specs.Pipe.{longest_of}
use Rattle.hid_driver.proofs.pipe.longest_report.Given as goal

abbrev pub invariant-loop-r : goal.invariant-loop-r
invariant-loop-r l = record {
  longest : l.longest ≡ longest_of l.layout l.r;
  all : (k : ℕ) → k < l.r → report_bytes l.layout k ≤ l.longest;
  most : l.longest ≤ MAX_REAL_REPORT_BYTES;
}
