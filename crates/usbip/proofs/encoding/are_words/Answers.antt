use Rattle.std.proofs.Common.{arith}
use Rattle.usbip.proofs.encoding.are_words.Goals as goal

pub returns : goal.returns
returns c = λ i. omega (arith, (c.type_inv.words i).fits)
