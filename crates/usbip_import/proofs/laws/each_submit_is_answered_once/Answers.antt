use Rattle.usbip_import.proofs.FlightLemmas.{stays_single}
use Rattle.usbip_import.proofs.laws.each_submit_is_answered_once.Goals as goal

pub returns-clause-single : goal.returns-clause-single
returns-clause-single c = stays_single
