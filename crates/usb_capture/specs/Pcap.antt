-- Pcap files (draft-ietf-opsawg-pcap, 4 and 5).
--
--   header, 24   0 magic number, 4 | 4 version 2, 2 | 6 version 4, 2 | 8 unused, 8 | 16 SnapLen, 4 | 20 link type, 4
--   record       0 seconds, 4 | 4 parts of a second, 4 | 8 captured length, 4 | 12 original length, 4 | 16 the frame
use Rattle.std.specs.Prelude.{ℕ, ◌+◌, ◌-◌, ◌*◌, ◌%◌, ◌^◌, ◌==◌, ◌&&◌, nat_lt, if◌then◌else◌, List, length, Some, Result, Ok, Err}
use Rattle.usb_capture.specs.declared.fault.Cause.{Cause}
use Rattle.usb_capture.specs.declared.fault.Cause.TheVariants.{BadVersion, TooShort}
use Rattle.usb_capture.specs.declared.field.ByteOrder.{ByteOrder}
use Rattle.usb_capture.specs.declared.format.Format.TheVariants.{Pcap}
use Rattle.usb_capture.specs.declared.format.Fraction.{Fraction}
use Rattle.usb_capture.specs.declared.format.Fraction.TheVariants.{Microseconds, Nanoseconds}
use Rattle.usb_capture.specs.declared.reading.Reading.{Reading}
use Rattle.usb_capture.specs.declared.reading.Reading.TheVariants.{Begins, Captured}
use Rattle.usb_capture.specs.Fields.{field}

-- the header; the link type is the lower half of its number
unfoldable pub header_reading : ByteOrder → Fraction → List ℕ → Result Reading Cause
header_reading order fraction block =
    if nat_lt (length block) 24 then Err TooShort
    else if (field order 4 2 block == 2) && (field order 6 2 block == 4)
    then Ok (Begins (Pcap order fraction (field order 20 4 block % 2 ^ 16)))
    else Err BadVersion

-- how many nanoseconds a part of a second has
abbrev pub part_of : Fraction → ℕ
part_of Microseconds = 1000
part_of Nanoseconds = 1

-- in nanoseconds since 1970
unfoldable pub record_time : Fraction → ℕ → ℕ → ℕ
record_time fraction seconds parts = seconds * 10 ^ 9 + parts * part_of fraction

-- a record
unfoldable pub record_reading : ByteOrder → Fraction → ℕ → List ℕ → Reading
record_reading order fraction link block = Captured (record {
  time = Some (record_time fraction (field order 0 4 block) (field order 4 4 block));
  link = link;
  order = order;
  original_length = field order 12 4 block;
  from = 16;
  captured = length block - 16;
})
