-- A capture that is being played, seen as its place: for proofs (our choice).
use Rattle.usb_capture.specs.Capture.{place_of}
use Rattle.hid_capture.specs.Tracking.{tracking_of}
use Rattle.hid_recording.specs.declared.capture_run.CaptureRun.{CaptureRun}
use Rattle.hid_recording.specs.CaptureRuns.{CapturePlace}
use Rattle.hid_recording.specs.Player.{session_of}

-- the place at which a capture stands
abbrev pub capture_place : CaptureRun → CapturePlace
capture_place run = record {
  place = place_of run.capture;
  tracking = tracking_of run.devices.tracker;
  session = session_of run.devices.player;
}
