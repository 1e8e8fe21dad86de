use Rattle.std.proofs.Common.{refl, ap}
use Rattle.usb_capture.specs.FrameRecord.{frame_record}
use Rattle.usb_capture.specs.UrbRecord.{urb_record}
use Rattle.usb_capture.specs.Urbs.{urb_of}
use Rattle.hid_capture.specs.Tracking.{tracking_of}
use Rattle.hid_recording.specs.FrameActs.{given_of, said_of_frame}
use Rattle.hid_recording.specs.LineOutput.{with_line_counted}
use Rattle.hid_recording.specs.Moments.{time_text, frame_time}
use Rattle.hid_recording.specs.Player.{session_of}
use Rattle.hid_recording.proofs.ActLemmas.{no_urb_told, urb_told}
use Rattle.hid_recording.proofs.capture_player.CapturePlayer.frame.Goals as goal

pub returns-in_default-clause-told : goal.returns-in_default-clause-told
unfolding said_of_frame
returns-in_default-clause-told g c =
    no_urb_told _ (time_text (frame_time c.args.frame.now.time)) (with_line_counted (session_of c.args.self.now.player)) (session_of c.begin_frame.new.self) (given_of c.args.self.now.given)
    (tracking_of c.args.self.now.tracker) (tracking_of c.args.self.now.tracker) c.in_default.field-0 (urb_of (frame_record c.args.frame.now)) c.in_default.ensures refl c.begin_frame.ensures

pub returns-clause-told : goal.returns-clause-told
unfolding said_of_frame
returns-clause-told g c =
    urb_told _ _ (time_text (frame_time c.args.frame.now.time)) (time_text c.unwrap_or.result) (with_line_counted (session_of c.args.self.now.player)) (session_of c.begin_frame.new.self) (session_of c.play.new.self.player)
    (given_of c.args.self.now.given) (tracking_of c.args.self.now.tracker) (tracking_of c.take.new.self) (tracking_of c.play.new.self.tracker) c.in_ok-content.content (urb_record c.in-Ok.urb) (urb_of (frame_record c.args.frame.now)) c.play.result
    c.in-Ok.ensures c.in_ok-content.ensures.content (ap (λ n. time_text n) c.unwrap_or.ensures) c.begin_frame.ensures c.play.ensures.told
