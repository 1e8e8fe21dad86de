use Rattle.hid_gadget.proofs.ReadLemmas.{report_is_whole}
use Rattle.hid_gadget.proofs.laws.reports_are_whole.Goals as goal

pub returns : goal.returns
returns c = report_is_whole
