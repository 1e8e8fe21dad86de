use Rattle.hid_usages.proofs.OneReportLemmas.{sees_one, tells_one, shows_one}
use Rattle.hid_usages.proofs.laws.one_report_is_shown.Goals as goal

pub returns-clause-sees : goal.returns-clause-sees
returns-clause-sees c = sees_one

pub returns-clause-tells : goal.returns-clause-tells
returns-clause-tells c = tells_one

pub returns-clause-shows : goal.returns-clause-shows
returns-clause-shows c = shows_one
