use Rattle.std.proofs.Common.{arith, ◌≡◌, length, ap, sym, Some, Ok, Err}
use Rattle.hid_loopback.specs.ControlTransfers.{transfer_result}
use Rattle.hid_loopback.proofs.ControlLemmas.{made, room_holds}
use Rattle.hid_loopback.proofs.control_transfers.transfer.Goals as goal

pub returns-in-Ok-hand_on : goal.returns-in-Ok-hand_on
returns-in-Ok-hand_on c =
    let len : length c.carry_out-end.new.answer ≡ c.in-Ok.answer.len = omega (arith, c.carry_out-end.auto.answer, c.deref_mut.ensures.len) in
    made c.in-Control.setup c.in-Control.data.now _ _ _ c.args.driver.now c.hand_on.new.driver c.args.gadget.now c.carry_out-end.new.gadget
    c.carry_out-end.result c.hand_on.result (Ok (Some c.in-Ok-hand_on.moved)) c.in-Control.ensures.0 c.in-Control.ensures.1
    c.carry_out-end.ensures.carries (room_holds c.in-Ok.answer.len c.carry_out-end.new.answer c.in-Ok.answer.items c.deref.result.now len c.deref.ensures.value) c.hand_on.ensures (sym (ap transfer_result c.in-Ok-hand_on.is))

pub returns : goal.returns
returns c =
    let len : length c.carry_out-end.new.answer ≡ c.in-Ok.answer.len = omega (arith, c.carry_out-end.auto.answer, c.deref_mut.ensures.len) in
    made c.in-Control.setup c.in-Control.data.now _ _ _ c.args.driver.now c.hand_on.new.driver c.args.gadget.now c.carry_out-end.new.gadget
    c.carry_out-end.result c.hand_on.result (Err c.in-Err.fault) c.in-Control.ensures.0 c.in-Control.ensures.1
    c.carry_out-end.ensures.carries (room_holds c.in-Ok.answer.len c.carry_out-end.new.answer c.in-Ok.answer.items c.deref.result.now len c.deref.ensures.value) c.hand_on.ensures (sym (ap transfer_result c.in-Err.is))
