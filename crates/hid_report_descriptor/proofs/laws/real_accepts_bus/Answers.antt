use Rattle.hid_report_descriptor.proofs.WiderLimits.{accepted_too}
use Rattle.hid_report_descriptor.proofs.laws.real_accepts_bus.Goals as goal

pub returns : goal.returns
returns c bytes before a = accepted_too bytes before a
