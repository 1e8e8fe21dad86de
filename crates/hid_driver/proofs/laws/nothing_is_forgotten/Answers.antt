use Rattle.hid_driver.proofs.HoldingLemmas.{ask_holds, moves_hold, protocol_refused, protocol_releases, report_changes, start_due}
use Rattle.hid_driver.proofs.laws.nothing_is_forgotten.Goals as goal

pub returns : goal.returns
returns c = record {
  begins = start_due;
  done = moves_hold;
  ask = ask_holds;
  report = report_changes;
  protocol = protocol_releases;
  refused = protocol_refused;
}
