use Rattle.std.proofs.Common.{[], refl, sym}
use Rattle.std.proofs.KnownBytes.{Appends-nil}
use Rattle.usb_capture.specs.Capture.{frame_shown, place_of, state_of}
use Rattle.usb_capture.specs.FrameRecord.{frame_record}
use Rattle.hid_capture.specs.Tracking.{tracking_of}
use Rattle.hid_recording.specs.CaptureRun.{capture_place}
use Rattle.hid_recording.specs.FrameActs.{given_of}
use Rattle.hid_recording.specs.Player.{session_of}
use Rattle.hid_recording.specs.declared.capture_fault.CaptureCause.TheVariants.{Run}
use Rattle.hid_recording.proofs.CaptureLemmas.{end_is, unread_stops, frame_stops}
use Rattle.hid_recording.proofs.capture_run.CaptureRun.step.Goals as goal

pub returns-in-Err-clause-told : goal.returns-in-Err-clause-told
returns-in-Err-clause-told g c = (
  [],
  Appends-nil _,
  unread_stops (given_of c.args.self.now.devices.given) (capture_place c.args.self.now) (state_of c.args.self.now.capture) (state_of c.take.new.self) c.args.bytes.now c.in-Err.fault c.end_at.result refl c.requires.accepted c.in-Err.ensures.taken c.requires.between
      (end_is (capture_place c.args.self.now) c.summary-played.result c.cause_of_format.result _ c.end_at.result c.summary-played.ensures c.cause_of_format.ensures c.end_at.ensures),
)

pub returns-in-Err-frame-clause-told : goal.returns-in-Err-frame-clause-told
returns-in-Err-frame-clause-told g c =
    let told = c.in-Err-frame.ensures.told in (
      told.0,
      told.1,
      frame_stops (given_of c.args.self.now.devices.given) (capture_place c.args.self.now) (place_of c.take.new.self) c.args.bytes.now told.0 c.in-Ok.taken (frame_shown c.take.new.self) (frame_record c.in-Some.frame) c.in-Err-frame.cause
          (tracking_of c.frame-in-Some.new.self.tracker) (session_of c.frame-in-Some.new.self.player) c.end_at-in-Err-frame.result c.requires.between c.in-Ok.ensures.advanced (sym c.in-Some.ensures) told.2
          (end_is (capture_place c.args.self.now) c.summary-played.result _ (Run c.in-Err-frame.cause) c.end_at-in-Err-frame.result c.summary-played.ensures refl c.end_at-in-Err-frame.ensures),
    )
