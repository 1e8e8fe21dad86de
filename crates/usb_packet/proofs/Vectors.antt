-- Worked encodings (USB 2.0, 8.3 and 8.4): each is computed by hand from the tables, and a wrong one fails the check.
use Rattle.std.proofs.Common.{◌≡◌, true, false, [], ◌∷◌, refl}
use Rattle.usb_packet.specs.declared.packet.TheConstants.{MAX_ADDRESS, MAX_ENDPOINT, MAX_PAYLOAD}
use Rattle.usb_packet.specs.declared.packet.TokenKind.TheVariants.{Out, In, Setup}
use Rattle.usb_packet.specs.declared.packet.Packet.TheVariants.{Token, Data, Ack, Nak, Stall}
use Rattle.usb_packet.specs.declared.fault.PacketFault.TheVariants.{BadReserved}
use Rattle.usb_packet.specs.PacketEncoding.{encoding}
use Rattle.usb_packet.specs.Fault.{packet_fault_code}

-- the limits, in numbers: addresses of seven bits, endpoints of four, payloads of 64 bytes
addresses_to : MAX_ADDRESS ≡ 127
addresses_to = refl

endpoints_to : MAX_ENDPOINT ≡ 15
endpoints_to = refl

payloads_to : MAX_PAYLOAD ≡ 64
payloads_to = refl

-- SETUP to address 1, endpoint 0
first_setup : encoding (Token Setup 1 0) ≡ 0x2D ∷ 0x01 ∷ 0x00 ∷ []
first_setup = refl

-- IN to address 1, endpoint 1: the endpoint begins in bit 7 of the first byte
first_poll : encoding (Token In 1 1) ≡ 0x69 ∷ 0x81 ∷ 0x00 ∷ []
first_poll = refl

-- IN to address 127, endpoint 15: each bit below the reserved ones is set
highest_token : encoding (Token In 127 15) ≡ 0x69 ∷ 0xFF ∷ 0x07 ∷ []
highest_token = refl

-- OUT to address 2, endpoint 3: the endpoint goes over both bytes
split_endpoint : encoding (Token Out 2 3) ≡ 0xE1 ∷ 0x82 ∷ 0x01 ∷ []
split_endpoint = refl

empty_data : encoding (Data false (record { items = [] })) ≡ 0xC3 ∷ []
empty_data = refl

odd_data : encoding (Data true (record { items = 0x07 ∷ 0x09 ∷ [] })) ≡ 0x4B ∷ 0x07 ∷ 0x09 ∷ []
odd_data = refl

acknowledgement : encoding Ack ≡ 0xD2 ∷ []
acknowledgement = refl

nothing_to_send : encoding Nak ≡ 0x5A ∷ []
nothing_to_send = refl

refusal : encoding Stall ≡ 0x1E ∷ []
refusal = refl

-- "P5" in ASCII
reserved_code : packet_fault_code BadReserved ≡ 0x50 ∷ 0x35 ∷ []
reserved_code = refl
