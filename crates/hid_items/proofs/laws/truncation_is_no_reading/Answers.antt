use Rattle.hid_items.proofs.ReadingLemmas.{truncation_is_no_reading}
use Rattle.hid_items.proofs.laws.truncation_is_no_reading.Goals as goal

pub returns : goal.returns
returns c bytes at items others t a = truncation_is_no_reading bytes at items others t a
