use Rattle.std.proofs.Common.{arith}
use Rattle.hid_fields.proofs.WordLemmas.{byte_put-field, byte_put-others}
use Rattle.hid_fields.proofs.word_codec.WordCodecFieldCodec.put.Goals as goal

pub returns-then-at-eq0-clause-field : goal.returns-then-at-eq0-clause-field
returns-then-at-eq0-clause-field c =
    byte_put-field c.args.bytes.now c.args.at c.args.width c.args.pattern c.if-width-eq8.true c.if-at-eq0.true (omega arith) c.requires.fits

pub returns-then-at-eq0-clause-others : goal.returns-then-at-eq0-clause-others
returns-then-at-eq0-clause-others c = λ n outside.
    byte_put-others c.args.bytes.now c.args.at c.args.width c.args.pattern n c.if-width-eq8.true c.if-at-eq0.true outside
