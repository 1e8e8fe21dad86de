use Rattle.std.proofs.Common.{◌<◌, ap, ◌∙◌, get_or, set, length, arith, Option}
use Rattle.std.proofs.lemmas.List.Edits.{map_over_more}
use Rattle.hid_recording.specs.Session.{PlayedDevice}
use Rattle.hid_recording.specs.Joining.{slot_after_doubt}
use Rattle.hid_recording.proofs.devices.doubt_all.Goals as goal

pub loop-slot-preserved : goal.loop-slot-preserved
loop-slot-preserved c =
    let within : c.loop-slot.slot-index < length c.args.slots.now = omega arith in
    ap (λ (m : Option PlayedDevice). set c.loop-slot.slots c.loop-slot.slot-index m) c.doubt_slot.ensures
    ∙ map_over_more slot_after_doubt c.args.slots.now c.loop-slot.slots c.loop-slot.slot-index
    (get_or c.loop-slot.slots c.loop-slot.slot-index c.slot-item.result)
    within c.loop-slot.invariant
    (ap (λ (m : Option PlayedDevice). get_or c.loop-slot.slots c.loop-slot.slot-index m) c.slot-item.is)
