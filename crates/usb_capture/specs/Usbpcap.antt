-- The frames of USBPcap. Their numbers have the lowest byte first.
--
--   0 length of the header, 2 | 2 id, 8 | 10 status, 4 | 14 function, 2 | 16 flags, 1: the lowest is 1 in an answer | 17 bus, 2
--   | 19 device, 2 | 21 endpoint's address, 1 | 22 transfer, 1 | 23 length of the data, 4
--   | of control transfers: 27 stage, 1: 0 setup, 1 data, 2 status, 3 complete | the data
--
-- The data of a setup stage begin with the SETUP packet.
use Rattle.std.specs.Prelude.{ℕ, ◌%◌, ◌==◌, ◌&&◌, nat_lt, if◌then◌else◌, Bool, true, false, List, length, take, drop, Option, Some, None, Result, Ok, Err}
use Rattle.usb_capture.specs.declared.field.ByteOrder.TheVariants.{Little}
use Rattle.usb_capture.specs.declared.urb.Transfer.{Transfer}
use Rattle.usb_capture.specs.declared.urb.UrbEvent.{UrbEvent}
use Rattle.usb_capture.specs.declared.urb.UrbEvent.TheVariants.{Submitted}
use Rattle.usb_capture.specs.declared.urb_fault.UrbFault.{UrbFault}
use Rattle.usb_capture.specs.declared.urb_fault.UrbFault.TheVariants.{TooShort, BadTransfer}
use Rattle.usb_capture.specs.Fields.{field, byte}
use Rattle.usb_capture.specs.UrbRecord.{UrbRecord, transfer_of, is_control, endpoint_of, direction_of, event_of}

-- what came of a URB, by the flags and the status; C0000004 (USBD_STATUS_STALL_PID) means STALL
unfoldable pub usbpcap_event : ℕ → ℕ → UrbEvent
usbpcap_event flags status = if flags % 2 == 0 then Submitted else event_of status 0xC0000004

-- the bytes that a header has at least
abbrev pub header_least : Transfer → ℕ
header_least transfer = if is_control transfer then 28 else 27

-- the data begin with a SETUP packet
unfoldable pub has_setup : Transfer → List ℕ → Bool
has_setup transfer bytes = is_control transfer && (byte 27 bytes == 0)

-- a URB, by its header, its SETUP packet and its data
unfoldable pub usbpcap_record : List ℕ → Bool → Transfer → UrbEvent → Option (List ℕ) → List ℕ → UrbRecord
usbpcap_record header truncated transfer event setup payload = record {
  id = field Little 2 8 header;
  bus = field Little 17 2 header;
  device = field Little 19 2 header;
  endpoint = endpoint_of (byte 21 header);
  direction = direction_of (byte 21 header);
  transfer = transfer;
  event = event;
  setup = setup;
  payload = payload;
  is_truncated = truncated;
}

-- a URB whose data may begin with a SETUP packet
abbrev pub usbpcap_data : List ℕ → Bool → Transfer → UrbEvent → Bool → List ℕ → Result UrbRecord UrbFault
usbpcap_data header truncated transfer event false rest = Ok (usbpcap_record header truncated transfer event None rest)
usbpcap_data header truncated transfer event true rest =
    if nat_lt (length rest) 8 then Err TooShort
    else Ok (usbpcap_record header truncated transfer event (Some (take 8 rest)) (drop 8 rest))

-- a frame whose header has this length
abbrev pub usbpcap_sized : List ℕ → Bool → Transfer → ℕ → Result UrbRecord UrbFault
usbpcap_sized bytes truncated transfer size =
    if nat_lt size (header_least transfer) then Err TooShort
    else if nat_lt (length bytes) size then Err TooShort
    else usbpcap_data bytes truncated transfer (usbpcap_event (byte 16 bytes) (field Little 10 4 bytes)) (has_setup transfer bytes) (drop size bytes)

-- a frame whose transfer is of this type
abbrev pub usbpcap_by : List ℕ → Bool → Option Transfer → Result UrbRecord UrbFault
usbpcap_by bytes truncated None = Err BadTransfer
usbpcap_by bytes truncated (Some transfer) = usbpcap_sized bytes truncated transfer (field Little 0 2 bytes)

-- the URB of a frame of which these bytes were captured
unfoldable pub usbpcap_urb : List ℕ → Bool → Result UrbRecord UrbFault
usbpcap_urb bytes truncated =
    if nat_lt (length bytes) 27 then Err TooShort else usbpcap_by bytes truncated (transfer_of (byte 22 bytes))
