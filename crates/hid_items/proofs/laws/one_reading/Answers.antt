use Rattle.hid_items.proofs.ReadingLemmas.{one_reading}
use Rattle.hid_items.proofs.laws.one_reading.Goals as goal

pub returns : goal.returns
returns c bytes items others a b = one_reading bytes items others a b
