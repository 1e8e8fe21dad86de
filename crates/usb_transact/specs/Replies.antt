-- What the host takes after a token (USB 2.0, 8.4.6.2, 8.6.2 and 8.6.4): data under the toggle that it expects are
-- fresh.
use Rattle.std.specs.Prelude.{Bool, not, if◌then◌else◌, Option, Some}
use Rattle.std.specs.Bool.{beq}
use Rattle.usb_packet.specs.declared.packet.Packet.{Packet}
use Rattle.usb_packet.specs.declared.packet.Packet.TheVariants.{Data}
use Rattle.usb_packet.specs.declared.packet.Packet.TheVariants as packets
use Rattle.usb_transact.specs.declared.host.Took.{Took}
use Rattle.usb_transact.specs.declared.host.Took.TheVariants.{Fresh, Again, Nak, Stall, Silent}
use Rattle.usb_transact.specs.Host.{HostPipeState}

-- what a host that expects this toggle makes of what came: data under it are Fresh, other data Again, NAK and STALL are
-- themselves, and all else is Silent. Example: after a lost ACK the same data are Again
abbrev pub reply_outcome : Bool → Option Packet → Took
reply_outcome expects (Some (Data one payload)) = if beq one expects then Fresh payload else Again
reply_outcome expects (Some packets.Nak) = Nak
reply_outcome expects (Some packets.Stall) = Stall
reply_outcome expects _ = Silent

-- the host's pipe after what it took: Fresh data alone change the toggle that it expects
abbrev pub host_after : Took → HostPipeState → HostPipeState
host_after (Fresh payload) host = record host { expects = not host.expects }
host_after _ host = host
