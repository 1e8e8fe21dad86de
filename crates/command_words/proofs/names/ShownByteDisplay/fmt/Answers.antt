use Rattle.std.proofs.Common.{◌<◌, true, arith}
use Rattle.std.proofs.lemmas.Fmt.{hex_byte}
use Rattle.command_words.proofs.names.ShownByteDisplay.fmt.Goals as goal

pub returns-clause-writes : goal.returns-clause-writes
returns-clause-writes g c =
    let fits : c.args.self.now.0 < 256 = omega arith in
    rw (c.laid_out.ensures, c.in_radix.ensures, hex_byte true c.args.self.now.0 fits) at c.write.ensures.writes
