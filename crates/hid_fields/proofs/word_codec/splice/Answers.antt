use Rattle.hid_fields.proofs.WordLemmas.{splice-made}
use Rattle.hid_fields.proofs.word_codec.splice.Goals as goal

pub returns : goal.returns
returns c =
    rw c.from.ensures
    (splice-made c.args.word c.args.shift c.args.width c.args.pattern c.requires.word c.requires.shift c.requires.width c.requires.fits)
