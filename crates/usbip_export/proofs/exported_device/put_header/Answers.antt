use Rattle.std.proofs.Common.{◌≡◌, ◌∙◌, ap, sym, length, take}
use Rattle.std.proofs.lemmas.List.{length-take-le}
use Rattle.usbip_export.proofs.RoomLemmas.{reply_length}
use Rattle.usbip_export.proofs.exported_device.put_header.Goals as goal

pub copy_from_slice-requires : goal.copy_from_slice-requires
copy_from_slice-requires c =
    let room : length (take 48 c.args.room.now) ≡ 48 = length-take-le 48 c.args.room.now c.requires in
    let header : length c.deref.result.now ≡ 48 =
    ap length (c.deref.ensures.0 ∙ c.encode_reply-header.ensures.encoded) ∙ reply_length c.args.reply.now in
    room ∙ sym header
