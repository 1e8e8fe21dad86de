-- What a fate lets arrive: a packet as it was sent, or nothing (our choice). TokenLost loses the token and ReplyLost the
-- reply; AckLost loses the host's ACK to data of an IN, and the device's handshake to SETUP and OUT, as ReplyLost does.
use Rattle.std.specs.Prelude.{Some, None}
use Rattle.usb_transact.specs.declared.bus.Phase.TheVariants.{Token, HostData, Reply, Handshake, Acknowledgement}
use Rattle.usb_transact.specs.declared.transaction.Fate.{Fate}
use Rattle.usb_transact.specs.declared.transaction.Fate.TheVariants.{TokenLost, ReplyLost, AckLost}
use Rattle.usb_transact.specs.Bus.{Arrivals}

-- the bytes arrive as they were sent, but in the phases that the fate loses; a handshake of the device is its reply and
-- the acknowledgement of the transaction in one
abbrev pub arrives_under : Fate → Arrivals
arrives_under TokenLost Token bytes = None
arrives_under TokenLost HostData bytes = None
arrives_under ReplyLost Reply bytes = None
arrives_under ReplyLost Handshake bytes = None
arrives_under AckLost Handshake bytes = None
arrives_under AckLost Acknowledgement bytes = None
arrives_under _ _ bytes = Some bytes
