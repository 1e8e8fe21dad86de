use Rattle.std.proofs.Common.{◌≡◌, ◌∙◌, Option, Some, None, ap, sym, arith, length}
use Rattle.hid_gadget.specs.Rooms.{with_front}
use Rattle.usbip.specs.declared.message.Reply.TheVariants as replies
use Rattle.usbip.specs.declared.message.SubmitReply.{SubmitReply}
use Rattle.usbip.specs.Messages.{reply_bytes}
use Rattle.usbip_export.specs.ExportedDevices.{answer_bytes, reply_at_submit, submit_data}
use Rattle.usbip_export.specs.Payloads.{HasPayload}
use Rattle.usbip_export.proofs.PayloadLemmas.{none_payload, some_payload, submit_has_payload}
use Rattle.usbip_export.proofs.RoomLemmas.{answer_length, reply_length, unwritten, written_behind}
use Rattle.usbip_export.proofs.exported_device.ExportedDevice.submit.Goals as goal

pub returns-in-Some-clause-room : goal.returns-in-Some-clause-room
returns-in-Some-clause-room c =
    let reply : reply_at_submit c.args.self.now c.args.submit.now ≡ Some c.in-Some.reply = sym c.carry_out.ensures.reply ∙ c.in-Some.is in
    written_behind (reply_bytes (replies.Submit c.in-Some.reply)) (submit_data c.args.self.now c.args.submit.now) c.args.room.now
    c.carry_out.new.room c.put_header.new.room (reply_length (replies.Submit c.in-Some.reply)) (omega (arith, c.requires.room))
    c.carry_out.ensures.payload c.put_header.ensures
    ∙ ap (λ (o : Option SubmitReply). with_front (answer_bytes o (submit_data c.args.self.now c.args.submit.now)) c.args.room.now) (sym reply)

pub returns-in-Some-clause-count : goal.returns-in-Some-clause-count
returns-in-Some-clause-count c =
    let reply : reply_at_submit c.args.self.now c.args.submit.now ≡ Some c.in-Some.reply = sym c.carry_out.ensures.reply ∙ c.in-Some.is in
    let has : HasPayload c.args.submit.now.direction c.args.submit.now.length (submit_data c.args.self.now c.args.submit.now) c.in-Some.reply =
    some_payload c.args.submit.now.direction c.args.submit.now.length (submit_data c.args.self.now c.args.submit.now)
    (reply_at_submit c.args.self.now c.args.submit.now) c.in-Some.reply
    (submit_has_payload c.args.self.now c.args.submit.now).reply reply in
    answer_length c.in-Some.reply (submit_data c.args.self.now c.args.submit.now)
    c.payload_length.result (has.payload ∙ sym c.payload_length.ensures)
    ∙ ap (λ (o : Option SubmitReply). length (answer_bytes o (submit_data c.args.self.now c.args.submit.now))) (sym reply)

pub returns-in-None-clause-room : goal.returns-in-None-clause-room
returns-in-None-clause-room c =
    let reply : reply_at_submit c.args.self.now c.args.submit.now ≡ None = sym c.carry_out.ensures.reply ∙ c.in-None.is in
    let none = none_payload c.args.submit.now.direction c.args.submit.now.length (submit_data c.args.self.now c.args.submit.now)
    (reply_at_submit c.args.self.now c.args.submit.now) (submit_has_payload c.args.self.now c.args.submit.now).reply reply in
    unwritten (submit_data c.args.self.now c.args.submit.now) c.args.room.now c.carry_out.new.room none c.carry_out.ensures.payload
    ∙ ap (λ (o : Option SubmitReply). with_front (answer_bytes o (submit_data c.args.self.now c.args.submit.now)) c.args.room.now) (sym reply)
