use Rattle.hid_capture.proofs.EndpointLemmas.{endpoints_read, endpoints_stay}
use Rattle.hid_capture.proofs.ReportLemmas.{begins, all_told}
use Rattle.hid_capture.proofs.laws.reports_are_read.Goals as goal

pub returns-clause-endpoints : goal.returns-clause-endpoints
returns-clause-endpoints c t urb interface endpoint read active room has = endpoints_read t urb interface endpoint read active room has

pub returns-clause-begins : goal.returns-clause-begins
returns-clause-begins c t urb interface described reports few = begins t urb interface described reports few

pub returns-clause-reports : goal.returns-clause-reports
returns-clause-reports c t i urbs read on = all_told t i urbs read on

pub returns-clause-stays : goal.returns-clause-stays
returns-clause-stays c t urb configuration interface endpoint known on = endpoints_stay t urb configuration interface endpoint known on
