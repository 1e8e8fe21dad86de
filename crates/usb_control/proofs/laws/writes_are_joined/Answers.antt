use Rattle.usb_control.specs.declared.device.LastPacket.TheVariants as last_packets
use Rattle.std.proofs.Common.{true, []}
use Rattle.std.specs.Prelude.{nat_lt}
use Rattle.usb_control.proofs.WritingLemmas.{no_effect, writes_from}
use Rattle.usb_control.proofs.laws.writes_are_joined.Goals as goal

pub returns : goal.returns
returns c = record {
  written = λ answer len packets stage last packet bytes all applied.
      let w = writes_from packets answer stage last packet bytes applied len true (record { items = [] }) (nat_lt 0 len) last_packets.Nothing all in
      (w.joined, w.whole);
  once = λ answer begins stage first last packets packet bytes none all. no_effect answer begins stage first last packets packet bytes none all;
}
