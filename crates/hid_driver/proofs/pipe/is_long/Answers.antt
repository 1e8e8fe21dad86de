use Rattle.std.proofs.Common.{◌≡◌, ◌++◌, ◌+◌, ◌∙◌, ℕ, List, Option, ap, sym, length, length-append}
use Rattle.hid_driver.specs.Pipe.{has_packet_past, length_begun}
use Rattle.hid_driver.proofs.RoomLemmas.{room_when}
use Rattle.hid_driver.proofs.pipe.is_long.Goals as goal

pub returns-clause-room : goal.returns-clause-room
returns-clause-room c = λ none.
    let receiving = c.args.receiver.now.state in
    let all : List ℕ = receiving.collected ++ c.args.bytes.now in
    let len : length c.collected.result.now + length c.args.bytes.now ≡ length all =
    ap (λ (bs : List ℕ). length bs + length c.args.bytes.now) c.collected.ensures ∙ sym (length-append receiving.collected c.args.bytes.now) in
    let past : c.has_packet_past.result ≡ has_packet_past c.args.packet_size (length_begun receiving.layout all) (length all) =
    c.has_packet_past.ensures ∙ ap (has_packet_past c.args.packet_size c.args.begun) len
    ∙ ap (λ (o : Option ℕ). has_packet_past c.args.packet_size o (length all)) c.requires.begun in
    room_when c.args.packet_size receiving.layout all c.requires.size (sym past ∙ none)
