use Rattle.std.proofs.Common.{refl}
use Rattle.hid_report_descriptor.proofs.KeptLemmas.{kept_none}
use Rattle.hid_report_descriptor.proofs.field_list.KeptFields.new.Goals as goal

pub returns : goal.returns
returns c = kept_none _ c.in_ok-with_capacity.ensures.items c.in_ok-new.ensures c.in_ok-new-2.ensures refl c.new-3.ensures
