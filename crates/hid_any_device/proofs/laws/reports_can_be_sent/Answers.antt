use Rattle.hid_any_device.proofs.ReportPieceLemmas.{is_sent, read_as_given, short_keep}
use Rattle.hid_any_device.proofs.laws.reports_can_be_sent.Goals as goal

pub returns-clause-short : goal.returns-clause-short
returns-clause-short c = short_keep

pub returns-clause-whole : goal.returns-clause-whole
returns-clause-whole c = is_sent

pub returns-clause-given : goal.returns-clause-given
returns-clause-given c = read_as_given
