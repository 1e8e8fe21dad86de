use Rattle.std.proofs.Common.{◌≢◌, ◌+◌, ◌*◌, ◌∙◌, inl, inr, arith}
use Rattle.hid_fields.proofs.FieldLemmas.{pattern_of-written}
use Rattle.hid_fields.proofs.bit_codec.BitCodecFieldCodec.put.Goals as goal

pub loop-index-preserved : goal.loop-index-preserved
loop-index-preserved c = record {
  so_far = pattern_of-written _ _ _ _ _ _ c.place_of.ensures c.write_bit.ensures.bit c.write_bit.ensures.others c.loop-index.invariant.so_far;
  others = λ n h.
      let elsewhere : n ≢ 8 * c.place_of.result.byte + c.place_of.result.bit =
      elim h [ inl a ↦ omega arith | inr b ↦ omega arith ]
      in
      c.write_bit.ensures.others n elsewhere
      ∙ c.loop-index.invariant.others n (elim h [ inl a ↦ inl a | inr b ↦ inr (omega arith) ]);
}
