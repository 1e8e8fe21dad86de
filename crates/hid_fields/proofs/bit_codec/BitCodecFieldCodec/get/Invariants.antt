use Rattle.std.proofs.Common.{◌≡◌}
use Rattle.hid_fields.specs.Field.{pattern_of}
use Rattle.hid_fields.proofs.bit_codec.BitCodecFieldCodec.get.Given as goal

abbrev pub invariant-loop-index : goal.invariant-loop-index
invariant-loop-index l = l.pattern ≡ pattern_of l.bytes l.at l.index
