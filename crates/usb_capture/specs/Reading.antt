-- What a whole block of a capture says, after those before it.
use Rattle.std.specs.Prelude.{◌≡◌, ◌⊎◌, ℕ, ◌+◌, ◌≤◌, List, [], ◌∷◌, ◌++◌, length, Option, Some, None, Result, Ok, Err}
use Rattle.usb_capture.specs.declared.fault.Cause.{Cause}
use Rattle.usb_capture.specs.declared.fault.Cause.TheVariants.{Memory}
use Rattle.usb_capture.specs.declared.field.ByteOrder.{ByteOrder}
use Rattle.usb_capture.specs.declared.field.ByteOrder.TheVariants.{Little}
use Rattle.usb_capture.specs.declared.format.Format.{Format}
use Rattle.usb_capture.specs.declared.format.Format.TheVariants.{Unknown, Pcap, Section}
use Rattle.usb_capture.specs.declared.format.Fraction.{Fraction}
use Rattle.usb_capture.specs.declared.format.Interface.{Interface}
use Rattle.usb_capture.specs.declared.reading.FrameHead.{FrameHead}
use Rattle.usb_capture.specs.declared.reading.Reading.{Reading}
use Rattle.usb_capture.specs.declared.reading.Reading.TheVariants.{Begins, Described, Captured, PassedOver}
use Rattle.usb_capture.specs.Extent.{pcap_kind}
use Rattle.usb_capture.specs.Fields.{field}
use Rattle.usb_capture.specs.Pcap.{header_reading, record_reading}
use Rattle.usb_capture.specs.Pcapng.{section_reading, block_reading}

-- the first block of a file
abbrev pub first_reading : Option (ByteOrder × Fraction) → List ℕ → Result Reading Cause
first_reading (Some kind) block = header_reading kind.0 kind.1 block
first_reading None block = section_reading block

-- what a block says, where the blocks before it left this format and these interfaces
unfoldable pub reading : Format → List Interface → List ℕ → Result Reading Cause
reading Unknown interfaces block = first_reading (pcap_kind (field Little 0 4 block)) block
reading (Pcap order fraction link) interfaces block = Ok (record_reading order fraction link block)
reading (Section order) interfaces block = block_reading order interfaces block

-- a frame lies in its block
abbrev pub HasFrame : Reading → ℕ → Type 0
HasFrame (Captured head) n = head.from + head.captured ≤ n
HasFrame (Begins format) n = Unit {0}
HasFrame (Described interface) n = Unit {0}
HasFrame PassedOver n = Unit {0}

-- the format and the interfaces, as the blocks so far say
pub record Known : Type 0 where
  pub format : Format
  pub interfaces : List Interface

-- the form of a capture after a block
abbrev pub format_after : Format → Reading → Format
format_after format (Begins begun) = begun
format_after format (Described interface) = format
format_after format (Captured head) = format
format_after format PassedOver = format

-- the interfaces of a section after a block: it begins without any
abbrev pub interfaces_after : List Interface → Reading → List Interface
interfaces_after interfaces (Begins begun) = []
interfaces_after interfaces (Described interface) = interfaces ++ interface ∷ []
interfaces_after interfaces (Captured head) = interfaces
interfaces_after interfaces PassedOver = interfaces

-- what is known after a block
abbrev pub known_after : Known → Reading → Known
known_after known content =
    record { format = format_after known.format content; interfaces = interfaces_after known.interfaces content }

-- the frame of a block, without its bytes
abbrev pub frame_head_of : Reading → Option FrameHead
frame_head_of (Captured head) = Some head
frame_head_of (Begins format) = None
frame_head_of (Described interface) = None
frame_head_of PassedOver = None

-- what a block gave, and what is known after it
abbrev pub Accepts : Format → List Interface → List ℕ → Result (Option FrameHead) Cause → Format → List Interface → Type 0
Accepts format interfaces block (Ok head) format' interfaces' =
    (content : Reading) × (reading format interfaces block ≡ Ok content) × HasFrame content (length block)
    × (format' ≡ format_after format content) × (interfaces' ≡ interfaces_after interfaces content) × (head ≡ frame_head_of content)
Accepts format interfaces block (Err cause) format' interfaces' =
    (cause ≡ Memory) ⊎ (reading format interfaces block ≡ Err cause)
