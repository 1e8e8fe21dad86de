-- Data packets of a control transfer (USB 2.0, 8.4.4).
use Rattle.std.specs.Prelude.{ℕ, Bool, List}
use Rattle.usb_packet.specs.declared.packet.Packet.{Packet}
use Rattle.usb_packet.specs.declared.packet.Packet.TheVariants.{Data}

-- DATA1 or DATA0 with these bytes
abbrev pub data_packet : Bool → List ℕ → Packet
data_packet one bytes = Data one (record { items = bytes })
