use Rattle.std.proofs.Common.{◌≡◌, ℕ, ◌%◌, ◌^◌}
use Rattle.hid_fields.specs.Field.{bit_of, pattern_of, IsOutside}
use Rattle.hid_fields.proofs.bit_codec.BitCodecFieldCodec.put.Given as goal

abbrev pub invariant-loop-index : goal.invariant-loop-index
invariant-loop-index l = record {
  so_far : pattern_of l.bytes l.at l.index ≡ l.pattern % 2 ^ l.index;
  others : (n : ℕ) → IsOutside l.at l.index n → bit_of l.bytes n ≡ bit_of l.fn.bytes n;
}
