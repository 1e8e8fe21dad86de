use Rattle.std.proofs.Common.{◌∙◌, sym, arith}
use Rattle.hid_drawing.proofs.MakerLemmas.{nearest_more}
use Rattle.hid_drawing.proofs.origins.global_place.Goals as goal

pub loop-back-preserved : goal.loop-back-preserved
loop-back-preserved c =
    let other = sym c.is_sought.ensures ∙ c.if-is_sought.false in
    let more =
    nearest_more c.args.items.now c.args.prefix c.loop-back.waiting c.args.m c.loop-back.back c.loop-back-test.true (rw c.item_encoding_at-encoded.ensures at other) in
    record {
      same = rw (c.pops_after-waiting.ensures.value, c.item_encoding_at-encoded.ensures)
          (more ∙ c.loop-back.invariant.same);
      bound = omega (arith, c.pops_after-waiting.ensures.bound, c.loop-back.invariant.bound);
    }
