use Rattle.std.proofs.Common.{◌≡◌, ℕ, ◌+◌, ◌<◌, min, length, get_or, ap, ◌∙◌, arith}
use Rattle.std.proofs.Math.ListN.{set}
use Rattle.std.proofs.lemmas.List.{get_or_default}
use Rattle.std.proofs.lemmas.List.Edits.{map_over_more}
use Rattle.std.proofs.lemmas.Grind.{common_steps}
use Rattle.hid_bus.specs.ReportState.{most_frames}
use Rattle.hid_device.proofs.frames.count_frame.Goals as goal

pub loop-count-preserved : goal.loop-count-preserved
loop-count-preserved c =
    let counted = λ (n : ℕ). min (n + 1) most_frames in
    let count = get_or c.loop-count.frames c.loop-count.count-index 0 in
    let within : c.loop-count.count-index < length c.args.frames.now = omega arith in
    let is : c.min.result ≡ counted count = grind (arith, common_steps) in
    ap (λ n. set c.loop-count.frames c.loop-count.count-index n) is
    ∙ map_over_more counted c.args.frames.now c.loop-count.frames c.loop-count.count-index count within c.loop-count.invariant (get_or_default c.loop-count.frames c.loop-count.count-index 0 count (omega arith))
