use Rattle.std.proofs.Common.{◌<◌, ap, ◌∙◌, get_or, set, length, arith}
use Rattle.std.proofs.lemmas.List.Edits.{map_over_more}
use Rattle.hid_bus.specs.Rounds.{Frame}
use Rattle.hid_stack.specs.Members.{Member, Scheduled, member_after}
use Rattle.hid_stack.proofs.rig.frame_all.Goals as goal

pub loop-slot-preserved : goal.loop-slot-preserved
loop-slot-preserved c =
    let within : c.loop-slot.slot-index < length c.args.slots.now = omega arith in
    ap (λ (m : Member). set c.loop-slot.slots c.loop-slot.slot-index m) c.frame.ensures
    ∙ map_over_more (λ (m : Member). member_after m (Scheduled Frame)) c.args.slots.now c.loop-slot.slots c.loop-slot.slot-index (get_or c.loop-slot.slots c.loop-slot.slot-index c.slot-item.result)
    within c.loop-slot.invariant (ap (λ (m : Member). get_or c.loop-slot.slots c.loop-slot.slot-index m) c.slot-item.is)
