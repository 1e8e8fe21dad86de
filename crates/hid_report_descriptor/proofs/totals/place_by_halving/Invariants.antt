use Rattle.std.proofs.Common.{◌≡◌, ◌-◌, ◌<◌, ◌≤◌, true, false, get_or, length}
use Rattle.hid_report_descriptor.specs.declared.report.Report.{Report}
use Rattle.hid_report_descriptor.specs.Totals.{comes_before}
use Rattle.hid_report_descriptor.proofs.totals.place_by_halving.Given as goal

-- the report before the lower end stands before the one that is sought, and the one at the upper end doesn't
abbrev pub invariant-loop-low : goal.invariant-loop-low
invariant-loop-low l = record {
  order : l.low ≤ l.high;
  within : l.high ≤ length l.reports;
  last : (d : Report) → 0 < l.low → comes_before l.kind l.id (get_or l.reports (l.low - 1) d) ≡ true;
  next : (d : Report) → l.high < length l.reports → comes_before l.kind l.id (get_or l.reports l.high d) ≡ false;
}

abbrev pub decreases-loop-low : goal.decreases-loop-low
decreases-loop-low l = l.high - l.low
