-- Values worked out by hand (draft-ietf-opsawg-pcap, draft-ietf-opsawg-pcapng, libpcap's usb.h).
use Rattle.std.proofs.Common.{◌≡◌, ℕ, List, [], ◌∷◌, refl, Some, None, Ok, Err}
use Rattle.usb_capture.specs.declared.fault.Cause.TheVariants.{BadLength, TooLong, BadClock, BadVersion}
use Rattle.usb_capture.specs.declared.field.ByteOrder.TheVariants.{Little, Big}
use Rattle.usb_capture.specs.declared.format.Clock.{Clock}
use Rattle.usb_capture.specs.declared.format.Format.TheVariants.{Unknown, Section}
use Rattle.usb_capture.specs.declared.format.Fraction.TheVariants.{Microseconds, Nanoseconds}
use Rattle.usb_capture.specs.declared.reading.Reading.TheVariants.{Begins}
use Rattle.usb_capture.specs.declared.urb.Transfer.TheVariants.{Interrupt}
use Rattle.usb_capture.specs.declared.urb.UrbEvent.TheVariants.{Stalled, Failed}
use Rattle.usb_capture.specs.Fields.{field}
use Rattle.usb_capture.specs.Extent.{pcap_kind, section_order, length_extent, extent}
use Rattle.usb_capture.specs.Gathering.{block_length}
use Rattle.usb_capture.specs.Options.{padded_length}
use Rattle.usb_capture.specs.Pcap.{record_time}
use Rattle.usb_capture.specs.Pcapng.{section_by}
use Rattle.usb_capture.specs.Reading.{reading}
use Rattle.usb_capture.specs.Times.{time_of, clock_rate}
use Rattle.usb_capture.specs.UrbRecord.{transfer_of}
use Rattle.usb_capture.specs.Usbmon.{usbmon_event}

-- 01 02 03 04 behind the first byte, in both orders
two_little : field Little 1 2 (0x01 ∷ 0x02 ∷ 0x03 ∷ 0x04 ∷ []) ≡ 0x0302
unfolding field
two_little = refl

two_big : field Big 1 2 (0x01 ∷ 0x02 ∷ 0x03 ∷ 0x04 ∷ []) ≡ 0x0203
unfolding field
two_big = refl

-- the magic number of nanoseconds, as a machine of the other order writes it
nanoseconds_big : pcap_kind 0x4D3CB2A1 ≡ Some (Big, Nanoseconds)
unfolding pcap_kind
nanoseconds_big = refl

-- the longest block, and one that is four bytes longer; lengths of 8 and of 13
longest : length_extent 16777216 ≡ Ok 16777216
unfolding length_extent
longest = refl

too_long : length_extent 16777220 ≡ Err TooLong
unfolding length_extent
too_long = refl

too_short : length_extent 8 ≡ Err BadLength
unfolding length_extent
too_short = refl

uneven : length_extent 13 ≡ Err BadLength
unfolding length_extent
uneven = refl

-- five bytes are filled up to eight, and eight aren't
filled : padded_length 5 ≡ 8
unfolding padded_length
filled = refl

full : padded_length 8 ≡ 8
unfolding padded_length
full = refl

-- one second and two microseconds
record_microseconds : record_time Microseconds 1 2 ≡ 1000002000
unfolding record_time
record_microseconds = refl

-- one and a half seconds of a clock of 1024 ticks, one second later, and one second earlier
abbrev clock : ℕ → Clock
clock offset = record { rate = 1024; offset = offset }

rate_1024 : clock_rate 0x8A ≡ Ok 1024
unfolding clock_rate
rate_1024 = refl

rate_too_high : clock_rate 20 ≡ Err BadClock
unfolding clock_rate
rate_too_high = refl

later : time_of (clock 1) 1536 ≡ Some 2500000000
unfolding time_of
later = refl

earlier : time_of (clock 0xFFFFFFFFFFFFFFFF) 1536 ≡ Some 500000000
unfolding time_of
earlier = refl

before_1970 : time_of (clock 0xFFFFFFFFFFFFFFFE) 1536 ≡ None
unfolding time_of
before_1970 = refl

-- a section header of 28 bytes, of the lowest byte first
abbrev section_bytes : ℕ → ℕ → List ℕ
section_bytes major minor =
    0x0A ∷ 0x0D ∷ 0x0D ∷ 0x0A ∷ 0x1C ∷ 0 ∷ 0 ∷ 0 ∷ 0x4D ∷ 0x3C ∷ 0x2B ∷ 0x1A ∷ major ∷ 0 ∷ minor ∷ 0
    ∷ 0xFF ∷ 0xFF ∷ 0xFF ∷ 0xFF ∷ 0xFF ∷ 0xFF ∷ 0xFF ∷ 0xFF ∷ 0x1C ∷ 0 ∷ 0 ∷ 0 ∷ []

section_length : block_length Unknown (section_bytes 1 0) ≡ Ok (Some 28)
unfolding block_length extent pcap_kind section_order length_extent field
section_length = refl

section_begins : reading Unknown [] (section_bytes 1 0) ≡ Ok (Begins (Section Little))
unfolding reading pcap_kind section_order section_by field
section_begins = refl

section_of_two : reading Unknown [] (section_bytes 2 0) ≡ Err BadVersion
unfolding reading pcap_kind section_order section_by field
section_of_two = refl

-- minor version 2 is taken for 0, and 1 isn't
section_of_one_two : reading Unknown [] (section_bytes 1 2) ≡ Ok (Begins (Section Little))
unfolding reading pcap_kind section_order section_by field
section_of_one_two = refl

section_of_one_one : reading Unknown [] (section_bytes 1 1) ≡ Err BadVersion
unfolding reading pcap_kind section_order section_by field
section_of_one_one = refl

-- -32 and -71 of a completion, and the number of an interrupt transfer
stall : usbmon_event 0x43 0xFFFFFFE0 ≡ Some Stalled
unfolding usbmon_event
stall = refl

failure : usbmon_event 0x43 0xFFFFFFB9 ≡ Some (Failed 0xFFFFFFB9)
unfolding usbmon_event
failure = refl

interrupt : transfer_of 1 ≡ Some Interrupt
unfolding transfer_of
interrupt = refl
