use Rattle.std.proofs.Common.{◌<◌, arith}
use Rattle.hid_notation.proofs.TextLemmas.{hex_padded}
use Rattle.hid_notation.proofs.text.HexTextDisplay.fmt.Goals as goal

pub returns-clause-writes : goal.returns-clause-writes
returns-clause-writes g c =
    let fits : c.args.self.now.0 < 65536 = omega arith in
    rw (c.laid_out.ensures, c.in_radix.ensures, hex_padded c.args.self.now.0 fits) at c.write.ensures.writes
