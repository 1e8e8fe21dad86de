-- Polls as they are printed: what the device sent, by its PID and bytes, then what the host took (our choice:
-- docs/SCRIPT.md). Example: 1 poll NAK nak
use Rattle.std.specs.Prelude.{ℕ, true, false, List, [], ◌∷◌, ◌++◌, length, ◌==◌, ◌&&◌, nat_le, if◌then◌else◌, Option, None, Some, codes}
use Rattle.std.specs.Fmt.{decimal}
use Rattle.usb_packet.specs.declared.packet.TheConstants.{MAX_PAYLOAD}
use Rattle.usb_packet.specs.declared.packet.Packet.{Packet}
use Rattle.usb_packet.specs.declared.packet.Packet.TheVariants.{Token, Data, Ack, Nak, Stall}
use Rattle.usb_packet.specs.PacketEncoding.{data_pid, pid_of}
use Rattle.usb_transact.specs.declared.host.Took.{Took}
use Rattle.usb_transact.specs.declared.host.Took.TheVariants as host
use Rattle.hid_notation.specs.Text.{bytes_text}

-- a packet that a device sends; it sends no other to answer a poll
abbrev pub packet_words : Packet → List ℕ
packet_words (Data false payload) = codes "DATA0" ++ bytes_text payload.items
packet_words (Data true payload) = codes "DATA1" ++ bytes_text payload.items
packet_words Nak = codes "NAK"
packet_words Stall = codes "STALL"
packet_words Ack = codes "none"
packet_words (Token kind addr endp) = codes "none"

-- the packet that a PID and what follows it encode, of those that a device sends (USB 2.0, 8.4.4 and 8.4.5)
unfoldable pub reply_at : ℕ → List ℕ → List ℕ
reply_at first body =
    if (first == data_pid false) && nat_le (length body) MAX_PAYLOAD then codes "DATA0" ++ bytes_text body
    else if (first == data_pid true) && nat_le (length body) MAX_PAYLOAD then codes "DATA1" ++ bytes_text body
    else if (first == pid_of Nak) && (length body == 0) then codes "NAK"
    else if (first == pid_of Stall) && (length body == 0) then codes "STALL"
    else codes "none"

-- what the bytes of a device encode; no byte encodes nothing
abbrev pub reply_words : List ℕ → List ℕ
reply_words [] = codes "none"
reply_words (first ∷ body) = reply_at first body

-- what the device sent, also where it was lost; nothing where the token was
abbrev pub reply_text : Option (List ℕ) → List ℕ
reply_text None = codes "none"
reply_text (Some bytes) = reply_words bytes

-- the word for what the host took
abbrev pub verdict_word : Took → List ℕ
verdict_word (host.Fresh bytes) = codes "fresh"
verdict_word host.Again = codes "again"
verdict_word host.Nak = codes "nak"
verdict_word host.Stall = codes "stall"
verdict_word host.Silent = codes "silent"

-- D poll REPLY VERDICT
unfoldable pub poll_text : ℕ → Option (List ℕ) → Took → List ℕ
poll_text dev reply took = decimal dev ++ codes " poll " ++ reply_text reply ++ 32 ∷ verdict_word took ++ 10 ∷ []
