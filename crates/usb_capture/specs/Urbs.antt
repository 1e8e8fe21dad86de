-- The URB of a frame, by its link type.
use Rattle.std.specs.Prelude.{◌==◌, nat_lt, if◌then◌else◌, Bool, length, Result, Err}
use Rattle.usb_capture.specs.declared.urb_fault.UrbFault.{UrbFault}
use Rattle.usb_capture.specs.declared.urb_fault.UrbFault.TheVariants.{OtherLink}
use Rattle.usb_capture.specs.FrameRecord.{FrameRecord}
use Rattle.usb_capture.specs.UrbRecord.{UrbRecord}
use Rattle.usb_capture.specs.Usbmon.{usbmon_urb}
use Rattle.usb_capture.specs.Usbpcap.{usbpcap_urb}

-- fewer bytes of a frame were captured than it had
abbrev pub is_truncated : FrameRecord → Bool
is_truncated frame = nat_lt (length frame.bytes) frame.original_length

-- the URB of a frame of one of the three link types that have URBs
unfoldable pub urb_of : FrameRecord → Result UrbRecord UrbFault
urb_of frame =
    if frame.link == 220 then usbmon_urb frame.order 64 frame.bytes (is_truncated frame)
    else if frame.link == 189 then usbmon_urb frame.order 48 frame.bytes (is_truncated frame)
    else if frame.link == 249 then usbpcap_urb frame.bytes (is_truncated frame)
    else Err OtherLink
