use Rattle.std.proofs.Common.{arith, refl}
use Rattle.hid_report_descriptor.proofs.KeptLemmas.{too_many_there}
use Rattle.hid_report_descriptor.proofs.field_list.KeptFields.keep.Goals as goal

pub returns-then-len-ge-MAX_ITEMS : goal.returns-then-len-ge-MAX_ITEMS
returns-then-len-ge-MAX_ITEMS c fs k = (refl, too_many_there c.args.limits fs _ c.args.self.now k (omega arith))
