use Rattle.hid_report_descriptor.proofs.Refusals.{no_refusal}
use Rattle.hid_report_descriptor.proofs.laws.accepted_or_refused.Goals as goal

pub returns : goal.returns
returns c limits bytes before cause at a r = no_refusal limits c.prefix_free.ensures bytes before cause at a r
