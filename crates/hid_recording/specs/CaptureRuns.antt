-- What a run of a capture wrote and answered (our choice: docs/RECORDINGS.md).
use Rattle.std.specs.Prelude.{⊤, ◌≡◌, ◌⊎◌, ℕ, List, [], ◌∷◌, ◌++◌, take, Option, Result, Ok, Err, IfSome}
use Rattle.std.specs.Io.KnownBytes.{Appends}
use Rattle.usb_capture.specs.Blocks as blocks
use Rattle.usb_capture.specs.Capture.{end_in}
use Rattle.usb_capture.specs.FrameRecord.{FrameRecord}
use Rattle.usb_capture.specs.Place.{Place, begin, step}
use Rattle.usb_capture.specs.declared.fault.CaptureFault.{CaptureFault}
use Rattle.usb_capture.specs.declared.fault.Cause as formats
use Rattle.usb_capture.specs.declared.fault.Cause.TheVariants as format_causes
use Rattle.hid_capture.specs.Tracking.{Tracking, nothing_known}
use Rattle.hid_capture.specs.declared.undescribed.UndescribedEndpoint.{UndescribedEndpoint}
use Rattle.hid_recording.specs.declared.capture_fault.CaptureCause.{CaptureCause}
use Rattle.hid_recording.specs.declared.capture_fault.CaptureCause.TheVariants.{Run, Format}
use Rattle.hid_recording.specs.declared.capture_fault.CaptureRunFault.{CaptureRunFault}
use Rattle.hid_recording.specs.declared.fault.Cause.{Cause}
use Rattle.hid_recording.specs.declared.fault.Cause.TheVariants as causes
use Rattle.hid_recording.specs.declared.counted.Counted.TheVariants.{Frames}
use Rattle.hid_recording.specs.declared.options.Options.{Options}
use Rattle.hid_recording.specs.declared.summary.Summary.{Summary}
use Rattle.hid_recording.specs.Acts.{ActsEnd}
use Rattle.hid_recording.specs.FrameActs.{Given, said_of_frame, FramesGive}
use Rattle.hid_recording.specs.LineOutput.{with_line_counted}
use Rattle.hid_recording.specs.Moments.{time_text, frame_time}
use Rattle.hid_recording.specs.Player.{summary_of}
use Rattle.hid_recording.specs.Session.{Session, at_first, saturating_sum}
use Rattle.usb_capture.specs.Gathering.{IsPartial}

-- where the bytes of a capture stand, what is known of its devices, and the session, whose lines are the frames so far
pub record CapturePlace : Type 0 where
  pub place : Place
  pub tracking : Tracking
  pub session : Session

-- nothing of a capture came yet
abbrev pub capture_at_first : Options → CapturePlace
capture_at_first options =
    record { place = begin; tracking = nothing_known; session = at_first options Frames }

-- Bytes came and a text was written: they have these frames, and the text is that of the frames.
pub record PlaysOn (given : Option Given) (old : CapturePlace) (bytes written : List ℕ) (new : CapturePlace) : Type 0 where
  pub frames : List FrameRecord
  pub blocks : blocks.Advances old.place bytes frames new.place
  pub told : FramesGive given old.tracking old.session frames written new.tracking new.session

-- ---- ends

-- a cause that may come between two frames: of the reader, the writer or memory
abbrev pub IsOutside : Cause → Type 0
IsOutside causes.Read = ⊤
IsOutside causes.TooManyReads = ⊤
IsOutside causes.Write = ⊤
IsOutside causes.Memory = ⊤
IsOutside (causes.Refused refusal) = ⊥
IsOutside causes.LineTooLong = ⊥
IsOutside causes.Unended = ⊥

-- the bytes that come at a place can't be read: a block is refused, or they end in the middle of one
abbrev pub IsUnreadable : Place → List ℕ → CaptureFault → Type 0
IsUnreadable place rest fault =
    ((piece : List ℕ) × (more : List ℕ) × (rest ≡ piece ++ more) × (step place piece ≡ Err fault))
    ⊎ ((rest ≡ []) × (end_in place.known.format place.at place.begun ≡ Err fault))

-- The next frame is in these bytes, and the run ended in one of its acts.
pub record FrameEnds (given : Option Given) (now : CapturePlace) (rest part : List ℕ) (cause : Cause) : Type 0 where
  pub piece : List ℕ
  pub more : List ℕ
  pub split : rest ≡ piece ++ more
  pub frame : FrameRecord
  pub after : Place
  pub block : blocks.Advances now.place piece (frame ∷ []) after
  pub ends : ActsEnd (time_text (frame_time frame.time)) (with_line_counted now.session)
      (said_of_frame given now.tracking frame).acts part cause

-- what is left to write at the end of a run, where these bytes come next
abbrev pub CaptureEnds : Option Given → CapturePlace → List ℕ → List ℕ → CaptureCause → Type 0
CaptureEnds given now rest part (Format fault) = (part ≡ []) × IsUnreadable now.place rest fault
CaptureEnds given now rest part (Run cause) = (IsOutside cause × (part ≡ [])) ⊎ FrameEnds given now rest part cause

-- a run that ended at a place, before the next frame
abbrev pub end_fault : CapturePlace → CaptureCause → CaptureRunFault
end_fault now cause = record {
  frame = saturating_sum now.session.lines 1;
  cause = cause;
  played = summary_of now.session now.session.lines;
}

-- ---- runs

-- All bytes of a capture were played, and a block ends with them. The counts are those of the session after them, and these are
-- the endpoints whose data came without a report descriptor.
pub record CaptureFinishes (given : Option Given) (start : CapturePlace) (bytes written : List ℕ) (summary : Summary)
    (endpoints : List UndescribedEndpoint) : Type 0 where
  pub last : CapturePlace
  pub plays : PlaysOn given start bytes written last
  pub ended : last.place.begun ≡ []
  pub counts : summary ≡ summary_of last.session last.session.lines
  pub undescribed : endpoints ≡ last.tracking.undescribed

-- The run ended at the frame after the first ones: the whole text of those was written, and what the end leaves of that
-- frame's. What was played before it is counted.
pub record CaptureStops (given : Option Given) (start : CapturePlace) (bytes written : List ℕ) (fault : CaptureRunFault)
    : Type 0 where
  pub first : List ℕ
  pub rest : List ℕ
  pub split : bytes ≡ first ++ rest
  pub text : List ℕ
  pub now : CapturePlace
  pub plays : PlaysOn given start first text now
  pub part : List ℕ
  pub ends : CaptureEnds given now rest part fault.cause
  pub whole : written ≡ text ++ part
  pub place : fault ≡ end_fault now fault.cause

-- what a run of these bytes wrote and answered
abbrev pub CaptureRunsTo : Option Given → CapturePlace → List ℕ → List ℕ → Result Summary CaptureRunFault
    → List UndescribedEndpoint → Type 0
CaptureRunsTo given start bytes written (Ok summary) endpoints =
    CaptureFinishes given start bytes written summary endpoints
CaptureRunsTo given start bytes written (Err fault) endpoints = CaptureStops given start bytes written fault

-- The writer's bytes grew by what a run of the reader's bytes writes from a place on, if the bytes of both are known.
abbrev pub AppendsCaptureFrom : Option Given → CapturePlace → Option (List ℕ) → Option (List ℕ) → Option (List ℕ)
    → Result Summary CaptureRunFault → List UndescribedEndpoint → Type 0
AppendsCaptureFrom given start reader old new result endpoints =
    IfSome reader (λ bytes. (written : List ℕ) × Appends old new written
    × CaptureRunsTo given start bytes written result endpoints)

-- the writer's bytes grew by what a run of the reader's bytes, which are a capture, writes
abbrev pub AppendsCapture : Options → Option Given → Option (List ℕ) → Option (List ℕ) → Option (List ℕ)
    → Result Summary CaptureRunFault → List UndescribedEndpoint → Type 0
AppendsCapture options given reader old new result endpoints =
    AppendsCaptureFrom given (capture_at_first options) reader old new result endpoints

-- the frame at which a run ended: the one after the last, where all were played
abbrev pub frame_of : Result Summary CaptureRunFault → ℕ
frame_of (Ok summary) = saturating_sum summary.lines 1
frame_of (Err fault) = fault.frame

-- what was played when a run of a capture ended
abbrev pub capture_summary : Result Summary CaptureRunFault → Summary
capture_summary (Ok summary) = summary
capture_summary (Err fault) = fault.played

-- why a run ends where a capture can't be read, or memory ran out for its block
abbrev pub cause_of_format : formats.Cause → CaptureFault → CaptureCause
cause_of_format format_causes.Memory fault = Run causes.Memory
cause_of_format cause fault = Format fault

-- ---- piece by piece

-- less than a block has begun at a place
abbrev pub IsBetween : CapturePlace → Type 0
IsBetween now = IsPartial now.place.known.format now.place.begun

-- bytes up to the end of a block were taken, or ended the run, whatever comes then
abbrev pub StepTells : Option Given → CapturePlace → List ℕ → List ℕ → Result ℕ CaptureRunFault → CapturePlace → Type 0
StepTells given old bytes written (Ok n) new = PlaysOn given old (take n bytes) written new
StepTells given old bytes written (Err fault) new =
    (more : List ℕ) → CaptureStops given old (bytes ++ more) written fault

-- known bytes grew by what was written of bytes up to the end of a block
abbrev pub AppendsStep : Option (List ℕ) → Option (List ℕ) → Option Given → CapturePlace → List ℕ → Result ℕ CaptureRunFault
    → CapturePlace → Type 0
AppendsStep before after given old bytes result new =
    (written : List ℕ) × Appends before after written × StepTells given old bytes written result new

-- a piece was taken, or ended the run, whatever comes then
abbrev pub PieceTells : Option Given → CapturePlace → List ℕ → List ℕ → Result (Unit {0}) CaptureRunFault → CapturePlace
    → Type 0
PieceTells given old bytes written (Ok _) new = PlaysOn given old bytes written new
PieceTells given old bytes written (Err fault) new =
    (more : List ℕ) → CaptureStops given old (bytes ++ more) written fault

-- known bytes grew by what was written of a piece
abbrev pub AppendsPiece : Option (List ℕ) → Option (List ℕ) → Option Given → CapturePlace → List ℕ
    → Result (Unit {0}) CaptureRunFault → CapturePlace → Type 0
AppendsPiece before after given old bytes result new =
    (written : List ℕ) × Appends before after written × PieceTells given old bytes written result new

-- what the end of the bytes gives at a place
abbrev pub EndsSo : CapturePlace → Result Summary CaptureRunFault → Type 0
EndsSo now (Ok summary) =
    (now.place.begun ≡ []) × (summary ≡ summary_of now.session now.session.lines)
EndsSo now (Err fault) =
    (why : CaptureFault) × (end_in now.place.known.format now.place.at now.place.begun ≡ Err why)
    × (fault ≡ end_fault now (Format why))
