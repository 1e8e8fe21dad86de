-- Faults as they are printed (our choice).
use Rattle.std.specs.Prelude.{ℕ, List, codes}
use Rattle.usb_capture.specs.declared.fault.Cause.{Cause}
use Rattle.usb_capture.specs.declared.fault.Cause.TheVariants.{NotCapture, BadOrder, BadLength, TooLong, BadTrailer, TooShort, BadVersion, TooManyInterfaces, BadOption, BadClock, NoInterface, CutFrame, Cut, Memory}
use Rattle.usb_capture.specs.declared.urb_fault.UrbFault.{UrbFault}
use Rattle.usb_capture.specs.declared.urb_fault.UrbFault.TheVariants as urb

-- why a capture ends, as its code and words
abbrev pub cause_text : Cause → List ℕ
cause_text NotCapture = codes "K1: the file is neither pcap nor pcapng"
cause_text BadOrder = codes "K2: a section without its byte order"
cause_text BadLength = codes "K3: the length of a block is under 12, or no multiple of 4"
cause_text TooLong = codes "K4: a block of over 16777216 bytes"
cause_text BadTrailer = codes "K5: the two lengths of a block differ"
cause_text TooShort = codes "K6: a block is too short for its fields"
cause_text BadVersion = codes "K7: the version is neither pcap 2.4 nor pcapng 1.0 or 1.2"
cause_text TooManyInterfaces = codes "K8: over 256 interfaces"
cause_text BadOption = codes "K9: an option of an interface has a wrong length"
cause_text BadClock = codes "K10: the ticks of an interface's clock are too short"
cause_text NoInterface = codes "K11: a frame of an interface that isn't described"
cause_text CutFrame = codes "K12: a frame is longer than its block"
cause_text Cut = codes "K13: the file ends in the middle of a block"
cause_text Memory = codes "K14: out of memory"

-- why a frame is no URB, as its code and words
abbrev pub urb_fault_text : UrbFault → List ℕ
urb_fault_text urb.OtherLink = codes "Q1: the frame is of no USB capture"
urb_fault_text urb.TooShort = codes "Q2: the frame is shorter than its header"
urb_fault_text urb.BadEvent = codes "Q3: the frame is neither a submission, a completion nor an error"
urb_fault_text urb.BadTransfer = codes "Q4: the frame has no type of transfer"
