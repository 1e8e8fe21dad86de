use Rattle.std.proofs.Common.{◌∙◌, sym}
use Rattle.hid_drawing.proofs.MakerLemmas.{start_more}
use Rattle.hid_drawing.proofs.origins.locals_start.Goals as goal

pub loop-back-preserved : goal.loop-back-preserved
loop-back-preserved c =
    let other = sym c.is_main.ensures ∙ c.if-is_main.false in
    start_more c.args.items.now c.args.m c.loop-back.back c.loop-back-test.true
    (rw c.item_encoding_at.ensures at other) ∙ c.loop-back.invariant
