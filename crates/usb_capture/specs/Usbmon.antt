-- The frames of Linux's usbmon (libpcap's usb.h), with a header of 64 bytes, or of the first 48 of them. Numbers are in the
-- order of the file.
--
--   0 id, 8 | 8 'S' 'C' 'E', 1 | 9 transfer, 1 | 10 endpoint's address, 1 | 11 device, 1 | 12 bus, 2 | 14 0 where a SETUP packet is, 1
--   | 15 unused, 13 | 28 status, 4 | 32 unused, 8 | 40 SETUP packet, 8 | 48 unused, 12 | 60 isochronous packets, 4
--   | a description of 16 bytes for each of these | the data
--
-- The lengths at 32 and 36 and the flag at 15 are not looked at: QEMU writes others than usbmon.
use Rattle.std.specs.Prelude.{ℕ, ◌+◌, ◌*◌, ◌==◌, ◌&&◌, nat_lt, if◌then◌else◌, Bool, List, length, take, drop, Option, Some, None, Result, Ok, Err}
use Rattle.usb_capture.specs.declared.field.ByteOrder.{ByteOrder}
use Rattle.usb_capture.specs.declared.urb.Transfer.{Transfer}
use Rattle.usb_capture.specs.declared.urb.UrbEvent.{UrbEvent}
use Rattle.usb_capture.specs.declared.urb.UrbEvent.TheVariants.{Submitted, Failed}
use Rattle.usb_capture.specs.declared.urb_fault.UrbFault.{UrbFault}
use Rattle.usb_capture.specs.declared.urb_fault.UrbFault.TheVariants.{TooShort, BadEvent, BadTransfer}
use Rattle.usb_capture.specs.Fields.{field, byte}
use Rattle.usb_capture.specs.UrbRecord.{UrbRecord, transfer_of, is_control, is_isochronous, endpoint_of, direction_of, event_of}

-- what came of a URB, by the letter and the status; -32 (EPIPE) means STALL
unfoldable pub usbmon_event : ℕ → ℕ → Option UrbEvent
usbmon_event letter status =
    if letter == 0x53 then Some Submitted
    else if letter == 0x43 then Some (event_of status 0xFFFFFFE0)
    else if letter == 0x45 then Some (Failed status)
    else None

-- a SETUP packet is there where a control transfer is submitted, and the flag is 0
unfoldable pub usbmon_setup : Transfer → List ℕ → Option (List ℕ)
usbmon_setup transfer header =
    if is_control transfer && (byte 8 header == 0x53) && (byte 14 header == 0)
    then Some (take 8 (drop 40 header)) else None

-- the bytes between the header and the data
unfoldable pub isochronous_bytes : ByteOrder → ℕ → Transfer → List ℕ → ℕ
isochronous_bytes order size transfer bytes =
    if (size == 64) && is_isochronous transfer then 16 * field order 60 4 bytes else 0

-- a URB whose data begin at the place `from`
unfoldable pub usbmon_record : ByteOrder → ℕ → List ℕ → Bool → UrbEvent → Transfer → UrbRecord
usbmon_record order from bytes truncated event transfer = record {
  id = field order 0 8 bytes;
  bus = field order 12 2 bytes;
  device = byte 11 bytes;
  endpoint = endpoint_of (byte 10 bytes);
  direction = direction_of (byte 10 bytes);
  transfer = transfer;
  event = event;
  setup = usbmon_setup transfer bytes;
  payload = drop from bytes;
  is_truncated = truncated;
}

-- a frame that has its header, by what came of the URB and by its transfer
abbrev pub usbmon_by : ByteOrder → ℕ → List ℕ → Bool → Option UrbEvent → Option Transfer → Result UrbRecord UrbFault
usbmon_by order size bytes truncated None transfer = Err BadEvent
usbmon_by order size bytes truncated (Some event) None = Err BadTransfer
usbmon_by order size bytes truncated (Some event) (Some transfer) =
    if nat_lt (length bytes) (size + isochronous_bytes order size transfer bytes) then Err TooShort
    else Ok (usbmon_record order (size + isochronous_bytes order size transfer bytes) bytes truncated event transfer)

-- the URB of a frame with a header of `size` bytes, of which these bytes were captured
unfoldable pub usbmon_urb : ByteOrder → ℕ → List ℕ → Bool → Result UrbRecord UrbFault
usbmon_urb order size bytes truncated =
    if nat_lt (length bytes) size then Err TooShort
    else usbmon_by order size bytes truncated (usbmon_event (byte 8 bytes) (field order 28 4 bytes)) (transfer_of (byte 9 bytes))
