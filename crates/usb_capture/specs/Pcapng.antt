-- Pcapng files (draft-ietf-opsawg-pcapng, 3.1 and 4). A block is padded to a multiple of four.
--
--   block                   0 type, 4 | 4 length, 4 | its fields | its length again, 4
--   section header          0A0D0D0A | 8 byte-order magic, 4 | 12 version 1, 2 | 14 minor version 0 or 2, 2 | 16 section length, 8 | options
--   interface description   1 | 8 link type, 2 | 10 unused, 2 | 12 SnapLen, 4 | 16 options
--   packet (old)            2 | 8 interface, 2 | 10 drops, 2 | as an enhanced packet from 12 on
--   simple packet           3 | 8 original length, 4 | 12 the frame
--   enhanced packet         6 | 8 interface, 4 | 12 timestamp, upper half, 4 | 16 lower half, 4 | 20 captured length, 4
--                             | 24 original length, 4 | 28 the frame | options
use Rattle.std.specs.Prelude.{ℕ, ◌+◌, ◌-◌, ◌*◌, ◌^◌, min, Bool, ◌==◌, ◌&&◌, ◌||◌, nat_lt, if◌then◌else◌, List, length, take, drop, slice_get, Option, Some, None, Result, Ok, Err}
use Rattle.usb_capture.specs.declared.fault.Cause.{Cause}
use Rattle.usb_capture.specs.declared.fault.Cause.TheVariants.{BadOrder, BadTrailer, TooShort, BadVersion, TooManyInterfaces, NoInterface, CutFrame}
use Rattle.usb_capture.specs.declared.field.ByteOrder.{ByteOrder}
use Rattle.usb_capture.specs.declared.format.Clock.{Clock}
use Rattle.usb_capture.specs.declared.format.Format.TheVariants.{Section}
use Rattle.usb_capture.specs.declared.format.Interface.{Interface}
use Rattle.usb_capture.specs.declared.reading.Reading.{Reading}
use Rattle.usb_capture.specs.declared.reading.Reading.TheVariants.{Begins, Described, Captured, PassedOver}
use Rattle.usb_capture.specs.Extent.{section_type, section_order}
use Rattle.usb_capture.specs.Fields.{field}
use Rattle.usb_capture.specs.Options.{clock_after}
use Rattle.usb_capture.specs.Times.{time_of}

-- the length that stands at the end of a block
abbrev pub trailer : ByteOrder → List ℕ → ℕ
trailer order block = field order (length block - 4) 4 block

-- the versions that are read: 1.0, and 1.2, which readers must treat as 1.0
abbrev pub is_version : ℕ → ℕ → Bool
is_version major minor = (major == 1) && ((minor == 0) || (minor == 2))

-- a section header
unfoldable pub section_by : Option ByteOrder → List ℕ → Result Reading Cause
section_by None block = Err BadOrder
section_by (Some order) block =
    if trailer order block == length block
    then (if nat_lt (length block) 28 then Err TooShort
    else if is_version (field order 12 2 block) (field order 14 2 block) then Ok (Begins (Section order))
    else Err BadVersion)
    else Err BadTrailer

-- a section header, in the byte order that it names
abbrev pub section_reading : List ℕ → Result Reading Cause
section_reading block = section_by (section_order block) block

-- a clock of microseconds since 1970
abbrev pub microseconds : Clock
microseconds = record { rate = 1000000; offset = 0 }

-- an interface with a clock
abbrev pub description_of : ByteOrder → List ℕ → Result Clock Cause → Result Reading Cause
description_of order block (Err cause) = Err cause
description_of order block (Ok clock) =
    Ok (Described (record { link = field order 8 2 block; snap_len = field order 12 4 block; clock = clock }))

-- the description of an interface, after so many others
unfoldable pub interface_reading : ByteOrder → ℕ → List ℕ → Result Reading Cause
interface_reading order count block =
    if nat_lt (length block) 20 then Err TooShort
    else if nat_lt count 256
    then description_of order block (clock_after (length block - 20) order microseconds (take (length block - 20) (drop 16 block)))
    else Err TooManyInterfaces

-- the frame of an enhanced or an old packet of an interface, if the section has it
abbrev pub packet_of : ByteOrder → Option Interface → List ℕ → Result Reading Cause
packet_of order None block = Err NoInterface
packet_of order (Some interface) block =
    if nat_lt (length block) (32 + field order 20 4 block) then Err CutFrame
    else Ok (Captured (record {
      time = time_of interface.clock (field order 12 4 block * 2 ^ 32 + field order 16 4 block);
      link = interface.link;
      order = order;
      original_length = field order 24 4 block;
      from = 28;
      captured = field order 20 4 block;
    }))

-- an enhanced or an old packet of the interface with this number
unfoldable pub packet_reading : ByteOrder → List Interface → ℕ → List ℕ → Result Reading Cause
packet_reading order interfaces n block =
    if nat_lt (length block) 32 then Err TooShort else packet_of order (slice_get interfaces n) block

-- how many bytes of a frame an interface captures; 0 is no limit
abbrev pub captured_of : ℕ → ℕ → ℕ
captured_of snap_len n = if snap_len == 0 then n else min snap_len n

-- the frame of a simple packet of the first interface, if the section has it; it has no time
abbrev pub simple_of : ByteOrder → Option Interface → List ℕ → Result Reading Cause
simple_of order None block = Err NoInterface
simple_of order (Some interface) block =
    if nat_lt (length block) (16 + captured_of interface.snap_len (field order 8 4 block)) then Err CutFrame
    else Ok (Captured (record {
      time = None;
      link = interface.link;
      order = order;
      original_length = field order 8 4 block;
      from = 12;
      captured = captured_of interface.snap_len (field order 8 4 block);
    }))

-- a simple packet
unfoldable pub simple_reading : ByteOrder → List Interface → List ℕ → Result Reading Cause
simple_reading order interfaces block =
    if nat_lt (length block) 16 then Err TooShort else simple_of order (slice_get interfaces 0) block

-- a block of a type that is no section header
unfoldable pub typed_reading : ByteOrder → List Interface → ℕ → List ℕ → Result Reading Cause
typed_reading order interfaces type block =
    if type == 1 then interface_reading order (length interfaces) block
    else if type == 2 then packet_reading order interfaces (field order 8 2 block) block
    else if type == 3 then simple_reading order interfaces block
    else if type == 6 then packet_reading order interfaces (field order 8 4 block) block
    else Ok PassedOver

-- a block of a section
unfoldable pub block_reading : ByteOrder → List Interface → List ℕ → Result Reading Cause
block_reading order interfaces block =
    if field order 0 4 block == section_type then section_reading block
    else if trailer order block == length block then typed_reading order interfaces (field order 0 4 block) block
    else Err BadTrailer
