-- Worked requests, pieces, transfers and descriptors (USB 2.0, 8.5.3, 9.3 and 9.6): each is computed by hand, and a wrong
-- one fails the check.
use Rattle.std.proofs.Common.{◌≡◌, ℕ, true, false, List, [], ◌∷◌, Some, None, Ok, Err, refl}
use Rattle.usb_transact.specs.declared.transaction.Fate.TheVariants.{Clean, ReplyLost, AckLost}
use Rattle.usb_control.specs.declared.setup.Setup.{Setup as Request}
use Rattle.usb_control.specs.declared.device.TheConstants.{MAX_WRITE}
use Rattle.usb_control.specs.declared.host.TheConstants.{MAX_TRIES}
use Rattle.usb_control.specs.declared.pieces.TheConstants.{MAX_PACKET}
use Rattle.usb_control.specs.declared.fault.ControlFault.TheVariants.{Stalled, BusFault}
use Rattle.usb_control.specs.declared.fault.InfoFault.TheVariants as infos
use Rattle.usb_control.specs.SetupBytes.{setup_bytes, setup_of}
use Rattle.usb_control.specs.Transfer.{Shape, Decision, Refused, Accepted, Piece, Status, Past, start, piece_count, read_pieces, Nothing, Decides, TakesEffect}
use Rattle.usb_control.specs.Runs.{place_after_tries, acts}
use Rattle.usb_packet.specs.declared.packet.TokenKind.TheVariants.{Out, In}
use Rattle.usb_packet.specs.declared.packet.Packet.TheVariants.{Token}
use Rattle.usb_control.specs.Packets.{data_packet}
use Rattle.usb_control.specs.Reading.{accepted_payloads}
use Rattle.usb_control.specs.Writing.{given_data}
use Rattle.usb_control.specs.Descriptors.{configuration_of, report_length}

-- the limits, in numbers: bytes of a write that is kept, tries in a row without an answer, bytes of a packet
writes_to : MAX_WRITE ≡ 256
writes_to = refl

tries_to : MAX_TRIES ≡ 3
tries_to = refl

packets_to : MAX_PACKET ≡ 8
packets_to = refl

-- GET_DESCRIPTOR for a device, of 18 bytes
abbrev get_device : Request
get_device = record { request_type = 0x80; request = 0x06; value = 0x0100; index = 0; length = 18 }

get_device_bytes : setup_bytes get_device ≡ 0x80 ∷ 0x06 ∷ 0x00 ∷ 0x01 ∷ 0x00 ∷ 0x00 ∷ 0x12 ∷ 0x00 ∷ []
get_device_bytes = refl

get_device_back : setup_of (0x80 ∷ 0x06 ∷ 0x00 ∷ 0x01 ∷ 0x00 ∷ 0x00 ∷ 0x12 ∷ 0x00 ∷ []) ≡ get_device
get_device_back = refl

-- nine bytes are two pieces; of 18 bytes asked for and given there are three; where 16 of 18 are given, one is empty
two_pieces : piece_count 9 ≡ 2
two_pieces = refl

whole_pieces : read_pieces 18 18 ≡ 3
whole_pieces = refl

empty_piece : read_pieces 18 16 ≡ 3
empty_piece = refl

-- a write of one byte, accepted
abbrev write_one : Shape
write_one = record { reads = false; length = 1 }

abbrev accepts : Decision
accepts = Accepted None

-- the replies to its data and its status are lost once each: five tries, one effect, and it is done
write_place : place_after_tries write_one
    ((Clean, accepts) ∷ (ReplyLost, accepts) ∷ (Clean, accepts) ∷ (ReplyLost, accepts) ∷ (Clean, accepts) ∷ []) start
    ≡ record { host = Past; device = Past; decision = accepts; applied = true; tries = 0; fault = None }
write_place = refl

write_acts : acts write_one ((Clean, accepts) ∷ (ReplyLost, accepts) ∷ (Clean, accepts) ∷ (ReplyLost, accepts) ∷ (Clean, accepts) ∷ []) start ≡ Decides accepts ∷ Nothing ∷ Nothing ∷ TakesEffect ∷ Nothing ∷ []
write_acts = refl

-- its status is answered three times and lost three times: it took effect, and the host has C2
write_lost : place_after_tries write_one
    ((Clean, accepts) ∷ (Clean, accepts) ∷ (ReplyLost, accepts) ∷ (ReplyLost, accepts) ∷ (ReplyLost, accepts)
    ∷ []) start
    ≡ record { host = Status; device = Status; decision = accepts; applied = true; tries = 2; fault = Some BusFault }
write_lost = refl

-- a read of two bytes whose ACK is lost: the device is after, and the status ends the data stage
abbrev read_two : Shape
read_two = record { reads = true; length = 2 }

abbrev answers : Decision
answers = Accepted (Some (7 ∷ 9 ∷ []))

read_behind : place_after_tries read_two ((Clean, answers) ∷ (AckLost, answers) ∷ []) start
    ≡ record { host = Status; device = Piece 0; decision = answers; applied = false; tries = 0; fault = None }
read_behind = refl

read_done : place_after_tries read_two ((Clean, answers) ∷ (AckLost, answers) ∷ (Clean, answers) ∷ []) start
    ≡ record { host = Past; device = Past; decision = answers; applied = false; tries = 0; fault = None }
read_done = refl

-- a refused read: the STALL is lost once, and heard under AckLost, which an IN has no acknowledgement for
read_refused : place_after_tries read_two ((Clean, Refused) ∷ (ReplyLost, Refused) ∷ (AckLost, Refused) ∷ []) start
    ≡ record {
      host = Piece 0;
      device = Piece 0;
      decision = Refused;
      applied = false;
      tries = 1;
      fault =
          Some Stalled;
    }
read_refused = refl

-- DATA1 with 7, twice, nothing, DATA0 with 9: a read accepts 7 and 9
accepted_twice : accepted_payloads true
    (Some (data_packet true (7 ∷ [])) ∷ Some (data_packet true (7 ∷ [])) ∷ None ∷ Some (data_packet false (9 ∷ []))
    ∷ []) ≡ (7 ∷ []) ∷ (9 ∷ []) ∷ []
accepted_twice = refl

-- a write is given data directly after OUT alone: of DATA1 with 5 after IN and after OUT, the second
given_once : given_data false true (Token In 1 0 ∷ data_packet true (5 ∷ []) ∷ Token Out 1 0 ∷ data_packet true (5 ∷ []) ∷ []) ≡ (5 ∷ []) ∷ []
given_once = refl

-- a boot keyboard's configuration: the configuration, an interface of class 03, its HID descriptor, endpoint 1 to the host
abbrev configuration : List ℕ
configuration = 0x09 ∷ 0x02 ∷ 0x22 ∷ 0x00 ∷ 0x01 ∷ 0x01 ∷ 0x00 ∷ 0x80 ∷ 0x32 ∷ []

abbrev interface : List ℕ
interface = 0x09 ∷ 0x04 ∷ 0x00 ∷ 0x00 ∷ 0x01 ∷ 0x03 ∷ 0x01 ∷ 0x01 ∷ 0x00 ∷ []

abbrev hid : List ℕ
hid = 0x09 ∷ 0x21 ∷ 0x11 ∷ 0x01 ∷ 0x00 ∷ 0x01 ∷ 0x22 ∷ 0x3F ∷ 0x00 ∷ []

abbrev endpoint : List ℕ
endpoint = 0x07 ∷ 0x05 ∷ 0x81 ∷ 0x03 ∷ 0x40 ∷ 0x00 ∷ 0x0A ∷ []

hid_length : report_length hid ≡ Some 63
hid_length = refl

keyboard : configuration_of (configuration ∷ interface ∷ hid ∷ endpoint ∷ [])
    ≡ Ok (record { report_length = 63; endpoint = 1; subclass = 1; protocol = 1 })
keyboard = refl

-- the endpoint may stand before the HID descriptor, but not after the next interface
keyboard_turned : configuration_of (configuration ∷ interface ∷ endpoint ∷ hid ∷ [])
    ≡ Ok (record { report_length = 63; endpoint = 1; subclass = 1; protocol = 1 })
keyboard_turned = refl

keyboard_cut : configuration_of (configuration ∷ interface ∷ hid ∷ interface ∷ endpoint ∷ []) ≡ Err infos.NoEndpoint
keyboard_cut = refl
