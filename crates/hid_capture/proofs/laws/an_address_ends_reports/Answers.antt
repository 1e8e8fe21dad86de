use Rattle.hid_capture.proofs.UndescribedLemmas.{begins_undescribed, stays_undescribed, no_report}
use Rattle.hid_capture.proofs.laws.an_address_ends_reports.Goals as goal

pub returns-clause-begins : goal.returns-clause-begins
returns-clause-begins c t bus device = begins_undescribed t bus device

pub returns-clause-stays : goal.returns-clause-stays
returns-clause-stays c t urb bus device none other = stays_undescribed t urb bus device none other

pub returns-clause-reports : goal.returns-clause-reports
returns-clause-reports c t urb none = no_report t urb none
