use Rattle.hid_items.proofs.ReadingLemmas.{one_truncation, one_truncation_items}
use Rattle.hid_items.proofs.laws.one_truncation.Goals as goal

pub returns-clause-place : goal.returns-clause-place
returns-clause-place c bytes at there items others a b = one_truncation bytes at there items others a b

pub returns-clause-items : goal.returns-clause-items
returns-clause-items c bytes at there items others a b = one_truncation_items bytes at there items others a b
