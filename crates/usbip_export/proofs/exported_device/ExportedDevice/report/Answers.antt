use Rattle.std.proofs.Common.{◌≡◌, ◌∙◌, Option, Some, None, ap, sym, arith, length}
use Rattle.hid_gadget.specs.Rooms.{with_front}
use Rattle.usbip.specs.declared.message.Reply.TheVariants as replies
use Rattle.usbip.specs.declared.message.SubmitReply.{SubmitReply}
use Rattle.usbip.specs.Messages.{reply_bytes}
use Rattle.usbip_export.specs.ExportedDevices.{answer_bytes, reply_at_report, report_data}
use Rattle.usbip_export.proofs.PayloadLemmas.{oldest_none, oldest_some, report_has_payload}
use Rattle.usbip_export.proofs.RoomLemmas.{answer_length, reply_length, unwritten, written_behind}
use Rattle.usbip_export.proofs.exported_device.ExportedDevice.report.Goals as goal

pub returns-in-Some-clause-room : goal.returns-in-Some-clause-room
returns-in-Some-clause-room c =
    let reply : reply_at_report c.args.self.now ≡ Some c.in-Some.reply = sym c.poll.ensures.reply ∙ c.in-Some.is in
    written_behind (reply_bytes (replies.Submit c.in-Some.reply)) (report_data c.args.self.now) c.args.room.now c.poll.new.room
    c.put_header.new.room (reply_length (replies.Submit c.in-Some.reply)) (omega (arith, c.requires)) c.poll.ensures.payload
    c.put_header.ensures
    ∙ ap (λ (o : Option SubmitReply). with_front (answer_bytes o (report_data c.args.self.now)) c.args.room.now) (sym reply)

pub returns-in-Some-clause-count : goal.returns-in-Some-clause-count
returns-in-Some-clause-count c =
    let reply : reply_at_report c.args.self.now ≡ Some c.in-Some.reply = sym c.poll.ensures.reply ∙ c.in-Some.is in
    answer_length c.in-Some.reply (report_data c.args.self.now) c.in-Some.reply.length
    (oldest_some c.args.self.now.pending (report_data c.args.self.now) (reply_at_report c.args.self.now) c.in-Some.reply
    (report_has_payload c.args.self.now) reply)
    ∙ ap (λ (o : Option SubmitReply). length (answer_bytes o (report_data c.args.self.now))) (sym reply)

pub returns-in-None-clause-room : goal.returns-in-None-clause-room
returns-in-None-clause-room c =
    let reply : reply_at_report c.args.self.now ≡ None = sym c.poll.ensures.reply ∙ c.in-None.is in
    let none = oldest_none c.args.self.now.pending (report_data c.args.self.now) (reply_at_report c.args.self.now)
    (report_has_payload c.args.self.now) reply in
    unwritten (report_data c.args.self.now) c.args.room.now c.poll.new.room none c.poll.ensures.payload
    ∙ ap (λ (o : Option SubmitReply). with_front (answer_bytes o (report_data c.args.self.now)) c.args.room.now) (sym reply)
