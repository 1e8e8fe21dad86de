-- Borrowed packets, whose payload stands elsewhere, each as the packet that it is (USB 2.0, 8.4).
use Rattle.std.specs.Prelude.{◌≤◌, length, Result, Ok, Err}
use Rattle.usb_packet.specs.declared.packet.TheConstants.{MAX_PAYLOAD}
use Rattle.usb_packet.specs.declared.packet.Packet.{Packet}
use Rattle.usb_packet.specs.declared.packet.Packet.TheVariants as packets
use Rattle.usb_packet.specs.declared.packet.PacketRef.{PacketRef}
use Rattle.usb_packet.specs.declared.packet.PacketRef.TheVariants.{Token, Data, Ack, Nak, Stall}
use Rattle.usb_packet.specs.declared.fault.PacketFault.{PacketFault}

-- a borrowed packet as a packet with a payload of its own. Example: DATA0 with a payload of 07 09 is C3 07 09
abbrev pub to_owned : PacketRef → Packet
to_owned (Token kind addr endp) = packets.Token kind addr endp
to_owned (Data one payload) = packets.Data one (record { items = payload.now })
to_owned Ack = packets.Ack
to_owned Nak = packets.Nak
to_owned Stall = packets.Stall

-- the payload of a borrowed packet is no longer than a payload may be
abbrev pub PayloadFits : PacketRef → Type 0
PayloadFits (Data one payload) = length payload.now ≤ MAX_PAYLOAD
PayloadFits (Token kind addr endp) = Unit {0}
PayloadFits Ack = Unit {0}
PayloadFits Nak = Unit {0}
PayloadFits Stall = Unit {0}

-- what is read of bytes, as a packet with a payload of its own, or its fault
abbrev pub to_owned_or_fault : Result PacketRef PacketFault → Result Packet PacketFault
to_owned_or_fault (Ok packet) = Ok (to_owned packet)
to_owned_or_fault (Err fault) = Err fault
