use Rattle.std.proofs.Common.{[], refl, ◌∙◌, subst, arith, Ok, Err}
use Rattle.std.specs.Prelude.{slice_get}
use Rattle.std.proofs.KnownBytes.{Appends-nil}
use Rattle.hid_capture.specs.Tracking.{Tracking, tracking_of}
use Rattle.hid_recording.specs.Acts.{AppendsActs}
use Rattle.hid_recording.specs.FrameActs.{disconnection_in}
use Rattle.hid_recording.specs.Moments.{time_text}
use Rattle.hid_recording.specs.Player.{session_of}
use Rattle.hid_recording.proofs.ActLemmas.{disconnection_ends, disconnections_more}
use Rattle.hid_recording.proofs.capture_player.CapturePlayer.disconnect.Goals as goal

pub loop-number-init : goal.loop-number-init
loop-number-init g c = (([], Appends-nil _, (refl, refl)), refl, refl)

pub returns-in_err-disconnect_number-clause-told : goal.returns-in_err-disconnect_number-clause-told
returns-in_err-disconnect_number-clause-told g c =
    let before = c.loop-number.invariant.0 in
    let one = subst (λ (t : Tracking). AppendsActs (g.W.Write.contents c.loop-number.writer) (g.W.Write.contents c.disconnect_number.new.writer) (time_text c.args.time) (session_of c.loop-number.self.player)
    (disconnection_in c.args.bus c.args.device c.loop-number.number (slice_get t.interfaces c.loop-number.number)) (Err c.in_err-disconnect_number.field-0.0) (session_of c.disconnect_number.new.self.player)) c.loop-number.invariant.1 c.in_err-disconnect_number.ensures.told in
    disconnection_ends _ _ _ _ (session_of c.args.self.now.player) (session_of c.loop-number.self.player) (session_of c.disconnect_number.new.self.player) (session_of c.disconnect_number.new.self.player) c.args.bus c.args.device (tracking_of c.args.self.now.tracker).interfaces
    c.loop-number.number before.0 c.in_err-disconnect_number.field-0.0 c.from_residual.result (omega arith) before.2 before.1 one c.from_residual.ensures.1

pub returns-in_err-disconnect_number-clause-tracker : goal.returns-in_err-disconnect_number-clause-tracker
returns-in_err-disconnect_number-clause-tracker g c = c.in_err-disconnect_number.ensures.tracker ∙ c.loop-number.invariant.1

pub returns-in_err-disconnect_number-clause-given : goal.returns-in_err-disconnect_number-clause-given
returns-in_err-disconnect_number-clause-given g c = c.in_err-disconnect_number.ensures.given ∙ c.loop-number.invariant.2

pub loop-number-preserved : goal.loop-number-preserved
loop-number-preserved g c =
    let before = c.loop-number.invariant.0 in
    let one = subst (λ (t : Tracking). AppendsActs (g.W.Write.contents c.loop-number.writer) (g.W.Write.contents c.disconnect_number.new.writer) (time_text c.args.time) (session_of c.loop-number.self.player)
    (disconnection_in c.args.bus c.args.device c.loop-number.number (slice_get t.interfaces c.loop-number.number)) (Ok tt) (session_of c.disconnect_number.new.self.player)) c.loop-number.invariant.1 c.in_ok-disconnect_number.ensures.told in (
      disconnections_more _ _ _ _ (session_of c.args.self.now.player) (session_of c.loop-number.self.player) (session_of c.disconnect_number.new.self.player) c.args.bus c.args.device (tracking_of c.args.self.now.tracker).interfaces
          c.loop-number.number before.0 before.2 before.1 one,
      c.in_ok-disconnect_number.ensures.tracker ∙ c.loop-number.invariant.1,
      c.in_ok-disconnect_number.ensures.given ∙ c.loop-number.invariant.2,
    )
