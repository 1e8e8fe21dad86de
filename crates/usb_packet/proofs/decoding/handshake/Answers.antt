use Rattle.std.proofs.Common.{refl, arith}
use Rattle.usb_packet.specs.PacketRef.{to_owned}
use Rattle.usb_packet.proofs.PidLemmas.{handshake_len}
use Rattle.usb_packet.proofs.decoding.handshake.Goals as goal

pub returns-else-is_empty : goal.returns-else-is_empty
returns-else-is_empty c = (
  (to_owned c.args.packet, refl),
  λ h. grind (arith, handshake_len (to_owned c.args.packet) _ c.requires.handshake h),
)
