use Rattle.hid_report_descriptor.specs.Faults.{numbers_from}
use Rattle.hid_report_descriptor.proofs.ItemListLemmas.{first_of}
use Rattle.hid_report_descriptor.proofs.item_lists.first_numbers.Goals as goal

pub returns : goal.returns
unfolding numbers_from
returns c = first_of c.args.count c.requires
