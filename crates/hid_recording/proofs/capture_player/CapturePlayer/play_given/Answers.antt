use Rattle.usb_capture.specs.UrbRecord.{urb_record}
use Rattle.hid_recording.specs.Player.{session_of}
use Rattle.hid_recording.proofs.ActLemmas.{given_early, given_told}
use Rattle.hid_recording.proofs.capture_player.CapturePlayer.play_given.Goals as goal

pub returns-in_err-tell-clause-told : goal.returns-in_err-tell-clause-told
returns-in_err-tell-clause-told g c =
    given_early _ _ _ (session_of c.args.self.now.player) (session_of c.tell-2.new.self.player) (session_of c.tell-2.new.self.player) c.args.descriptor.now (urb_record c.args.urb.now) c.args.content c.in-Some.interface c.in_err-tell.field-0.0 c.from_residual.result
    c.in-Some.ensures c.in_err-tell.ensures.told c.from_residual.ensures.1

pub returns-clause-told : goal.returns-clause-told
returns-clause-told g c =
    let first = c.in_ok-tell.ensures.told in
    given_told _ _ _ _ (session_of c.args.self.now.player) (session_of c.tell-2.new.self.player) (session_of c.tell-3.new.self.player) c.args.descriptor.now (urb_record c.args.urb.now) c.args.content c.content_of_data.result c.in-Some.interface first.0 c.tell-3.result
    c.in-Some.ensures first.2 first.1 c.content_of_data.ensures c.tell-3.ensures.told
