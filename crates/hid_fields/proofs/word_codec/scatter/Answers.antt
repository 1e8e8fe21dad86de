use Rattle.std.proofs.Common.{arith}
use Rattle.hid_fields.proofs.WordLemmas.{bytes_of_word, scattered_first}
use Rattle.hid_fields.proofs.word_codec.scatter.Goals as goal

pub returns-in-1 : goal.returns-in-1
returns-in-1 c = let has = bytes_of_word _ _ c.to_le_bytes.ensures in scattered_first _ c.to_le_bytes.result _ 1 c.in-1.is c.requires.fits has.0.0.0.0

pub returns-in-2 : goal.returns-in-2
returns-in-2 c = let has = bytes_of_word _ _ c.to_le_bytes.ensures in scattered_first _ c.to_le_bytes.result _ 2 c.in-2.is c.requires.fits has.0.0.0

pub returns-in-3 : goal.returns-in-3
returns-in-3 c = let has = bytes_of_word _ _ c.to_le_bytes.ensures in scattered_first _ c.to_le_bytes.result _ 3 c.in-3.is c.requires.fits has.0.0

pub returns-in-4 : goal.returns-in-4
returns-in-4 c = let has = bytes_of_word _ _ c.to_le_bytes.ensures in scattered_first _ c.to_le_bytes.result _ 4 c.in-4.is c.requires.fits has.0

pub returns-in_default : goal.returns-in_default
returns-in_default c = scattered_first _ c.to_le_bytes.result _ 5 (omega arith) c.requires.fits (bytes_of_word _ _ c.to_le_bytes.ensures)
