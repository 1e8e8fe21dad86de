use Rattle.std.proofs.Common.{rules}
use Rattle.hid_text.proofs.PollLemmas.{packet_shown, nothing_shown}
use Rattle.hid_text.proofs.poll_text.print_reply.Goals as goal

pub returns-in-Ok : goal.returns-in-Ok
returns-in-Ok c = rw (packet_shown c.in-Ok.packet c.args.bytes.now c.in-Ok.ensures.found) c.print_packet.ensures

pub returns-in-Err : goal.returns-in-Err
returns-in-Err c = rw (nothing_shown c.args.bytes.now c.decode.result c.in-Err.field-0 c.decode.ensures.complete c.in-Err.is) (search rules)
