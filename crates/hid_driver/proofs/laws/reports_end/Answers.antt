use Rattle.hid_driver.proofs.CutLemmas.{all_in_packets, report_at_once, report_in_packets}
use Rattle.hid_driver.proofs.laws.reports_end.Goals as goal

pub returns : goal.returns
returns c = record { packets = report_in_packets; bytes = all_in_packets; at_once = report_at_once }
