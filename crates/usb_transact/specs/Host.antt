-- What a contract sees of the host's end of a pipe, and the token that it sends (USB 2.0, 8.4.1 and 8.6).
use Rattle.std.specs.Prelude.{ℕ, Bool, false}
use Rattle.usb_packet.specs.declared.packet.Packet.{Packet}
use Rattle.usb_packet.specs.declared.packet.Packet.TheVariants.{Token}
use Rattle.usb_packet.specs.declared.packet.TokenKind.TheVariants.{In}

-- the host's end of a pipe: the device and its endpoint, and whether DATA1 is expected
pub record HostPipeState : Type 0 where
  pub addr : ℕ
  pub endp : ℕ
  pub expects : Bool

-- a host's pipe at its start: it expects DATA0
abbrev pub host_at_start : ℕ → ℕ → HostPipeState
host_at_start addr endp = record { addr = addr; endp = endp; expects = false }

-- the IN token to the endpoint of a pipe (8.4.1). Example: for endpoint 1 of address 1 it is 69 81 00
abbrev pub token_to : HostPipeState → Packet
token_to host = Token In host.addr host.endp
