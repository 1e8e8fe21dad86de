use Rattle.hid_report_descriptor.proofs.Refusals as refusals
use Rattle.hid_report_descriptor.proofs.laws.one_refusal.Goals as goal

pub returns-clause-cause : goal.returns-clause-cause
returns-clause-cause c limits bytes cause other at there r s = (refusals.one_refusal limits c.prefix_free.ensures bytes cause other at there r s).0

pub returns-clause-place : goal.returns-clause-place
returns-clause-place c limits bytes cause other at there r s = (refusals.one_refusal limits c.prefix_free.ensures bytes cause other at there r s).1
