use Rattle.hid_report_descriptor.proofs.Refusals.{one_list}
use Rattle.hid_report_descriptor.proofs.laws.one_reading.Goals as goal

pub returns : goal.returns
returns c limits bytes before others a b = one_list limits c.prefix_free.ensures bytes before others a b
