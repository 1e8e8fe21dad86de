-- What ended a file early (our choice: docs/RECORDINGS.md).
use Rattle.std.specs.Prelude.{ℕ, List, codes, Option, None, Some}
use Rattle.hid_recording.specs.declared.fault.RecordingFault.{RecordingFault}
use Rattle.hid_recording.specs.declared.capture_fault.CaptureCause.{CaptureCause}
use Rattle.hid_recording.specs.declared.capture_fault.CaptureCause.TheVariants.{Run, Format}
use Rattle.hid_recording.specs.declared.capture_fault.CaptureRunFault.{CaptureRunFault}
use Rattle.hid_recording.specs.declared.fault.Cause.{Cause}
use Rattle.hid_recording.specs.declared.fault.Cause.TheVariants.{Refused}
use Rattle.hid_recording.specs.declared.fault.Refusal.TheVariants.{Layout}
use Rattle.hid_recording.specs.declared.live.LiveFault.{LiveFault}
use Rattle.hid_recording.specs.Refusals.{cause_text}
use Rattle.hid_input.specs.Faults as input
use Rattle.usb_capture.specs.FaultText as capture
use Rattle.hidplay.specs.Other.{other_text}
use Rattle.hidplay.specs.declared.fault.FileFault.{FileFault}
use Rattle.hidplay.specs.declared.fault.Place.{Place}
use Rattle.hidplay.specs.declared.fault.Place.TheVariants.{Start, Line, Frame, Byte, Report}
use Rattle.hidplay.specs.declared.fault.Why.{Why}
use Rattle.hidplay.specs.declared.fault.Why.TheVariants.{Recording, Capture, Descriptor, Other}

-- what a place counts, and its number; none at the start of a file
abbrev pub place_of_file : Place → Option (List ℕ × ℕ)
place_of_file Start = None
place_of_file (Line n) = Some (codes "line", n)
place_of_file (Frame n) = Some (codes "frame", n)
place_of_file (Byte n) = Some (codes "byte", n)
place_of_file (Report n) = Some (codes "report", n)

-- why a file ended, as its code and words; of a descriptor that can't be read, and of a file that isn't played, in words
abbrev pub why_text : Why → List ℕ
why_text (Recording cause) = cause_text cause
why_text (Capture cause) = capture.cause_text cause
why_text (Descriptor cause) = input.cause_text cause
why_text (Other file) = other_text file

-- what ended a recording, at its line
abbrev pub at_line : RecordingFault → FileFault
at_line fault = record { place = Line fault.line; why = Recording fault.cause; played = fault.played }

-- where a capture ended: at a frame, or at the block that can't be read
abbrev pub place_of : CaptureCause → ℕ → Place
place_of (Run cause) frame = Frame frame
place_of (Format fault) frame = Byte fault.at

-- why a capture ended
abbrev pub why_of : CaptureCause → Why
why_of (Run cause) = Recording cause
why_of (Format fault) = Capture fault.cause

-- what ended a capture, at its frame or its byte
abbrev pub at_frame : CaptureRunFault → FileFault
at_frame fault = record { place = place_of fault.cause fault.frame; why = why_of fault.cause; played = fault.played }

-- where a live device ended: in its descriptor, which comes first, or at a report
abbrev pub place_of_live : Cause → ℕ → Place
place_of_live (Refused (Layout fault report)) number = Start
place_of_live cause number = Report number

-- what ended a live device, at its report
abbrev pub at_report : LiveFault → FileFault
at_report fault =
    record { place = place_of_live fault.cause fault.report; why = Recording fault.cause; played = fault.played }
