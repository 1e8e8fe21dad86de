use Rattle.std.proofs.Common.{◌≡◌, ◌+◌, ◌∙◌, ap, arith}
use Rattle.hid_fields.specs.Field.{bit_of}
use Rattle.hid_fields.proofs.FieldLemmas.{pattern_of-next}
use Rattle.hid_fields.proofs.bit_codec.BitCodecFieldCodec.get.Goals as goal

pub loop-index-preserved : goal.loop-index-preserved
loop-index-preserved c =
    let here : c.read_bit.result ≡ bit_of c.args.bytes.now (c.args.at + c.loop-index.index) =
    c.read_bit.ensures ∙ ap (bit_of c.args.bytes.now) c.place_of.ensures
    in
    rw c.loop-index.invariant (pattern_of-next c.args.bytes.now c.args.at c.loop-index.index _ (omega arith) here)
