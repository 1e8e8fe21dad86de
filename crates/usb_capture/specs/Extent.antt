-- How long the next block of a capture is: a pcap file's header, a record of it, or a block of pcapng
-- (draft-ietf-opsawg-pcap, 4 and 5; draft-ietf-opsawg-pcapng, 3.1 and 4.1).
use Rattle.std.specs.Prelude.{ℕ, ◌+◌, ◌%◌, Bool, false, ◌||◌, ◌==◌, nat_lt, if◌then◌else◌, List, length, Option, Some, None, is_some, Result, Ok, Err}
use Rattle.usb_capture.specs.declared.fault.Cause.{Cause}
use Rattle.usb_capture.specs.declared.fault.Cause.TheVariants.{NotCapture, BadOrder, BadLength, TooLong}
use Rattle.usb_capture.specs.declared.field.ByteOrder.{ByteOrder}
use Rattle.usb_capture.specs.declared.field.ByteOrder.TheVariants.{Little, Big}
use Rattle.usb_capture.specs.declared.format.Format.{Format}
use Rattle.usb_capture.specs.declared.format.Format.TheVariants.{Unknown, Pcap, Section}
use Rattle.usb_capture.specs.declared.format.Fraction.{Fraction}
use Rattle.usb_capture.specs.declared.format.Fraction.TheVariants.{Microseconds, Nanoseconds}
use Rattle.usb_capture.specs.Fields.{field}

-- how many bytes have the length: magic number, or type, length and byte-order magic; or the head of a record
abbrev pub head_length : Format → ℕ
head_length Unknown = 12
head_length (Pcap order fraction link) = 16
head_length (Section order) = 12

-- the magic numbers of pcap, read with the lowest byte first
unfoldable pub pcap_kind : ℕ → Option (ByteOrder × Fraction)
pcap_kind magic =
    if magic == 0xA1B2C3D4 then Some (Little, Microseconds)
    else if magic == 0xD4C3B2A1 then Some (Big, Microseconds)
    else if magic == 0xA1B23C4D then Some (Little, Nanoseconds)
    else if magic == 0x4D3CB2A1 then Some (Big, Nanoseconds)
    else None

-- the block type of a section header
abbrev pub section_type : ℕ
section_type = 0x0A0D0D0A

-- a file that begins with these bytes is a capture
abbrev pub is_capture : List ℕ → Bool
is_capture bytes =
    if nat_lt (length bytes) 4 then false
    else is_some (pcap_kind (field Little 0 4 bytes)) || (field Little 0 4 bytes == section_type)

-- the byte order of a section, by its byte-order magic
unfoldable pub section_order : List ℕ → Option ByteOrder
section_order head =
    if field Little 8 4 head == 0x1A2B3C4D then Some Little
    else if field Little 8 4 head == 0x4D3C2B1A then Some Big
    else None

-- the length of a block that says that it is so long; it counts type, both lengths and the bytes that fill it up
unfoldable pub length_extent : ℕ → Result ℕ Cause
length_extent n =
    if nat_lt n 12 then Err BadLength
    else if n % 4 == 0 then (if nat_lt 16777216 n then Err TooLong else Ok n)
    else Err BadLength

-- the length of a section header in this byte order
abbrev pub ordered_extent : Option ByteOrder → List ℕ → Result ℕ Cause
ordered_extent None head = Err BadOrder
ordered_extent (Some order) head = length_extent (field order 4 4 head)

-- the length of a section header, in the byte order that it names
abbrev pub section_extent : List ℕ → Result ℕ Cause
section_extent head = ordered_extent (section_order head) head

-- the length of a block of a section; a header begins another section, with a byte order of its own
abbrev pub block_extent : ByteOrder → List ℕ → Result ℕ Cause
block_extent order head =
    if field order 0 4 head == section_type then section_extent head else length_extent (field order 4 4 head)

-- the length of the first block of a file
abbrev pub first_extent : Option (ByteOrder × Fraction) → List ℕ → Result ℕ Cause
first_extent (Some kind) head = Ok 24
first_extent None head = if field Little 0 4 head == section_type then section_extent head else Err NotCapture

-- the length of a record of a pcap file
abbrev pub record_extent : ℕ → Result ℕ Cause
record_extent captured = if nat_lt 16777216 captured then Err TooLong else Ok (16 + captured)

-- the length of the next block, by its first bytes
unfoldable pub extent : Format → List ℕ → Result ℕ Cause
extent Unknown head = first_extent (pcap_kind (field Little 0 4 head)) head
extent (Pcap order fraction link) head = record_extent (field order 8 4 head)
extent (Section order) head = block_extent order head
