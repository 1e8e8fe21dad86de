use Rattle.std.proofs.Common.{◌≡◌, subst, IsErrAnd}
use Rattle.std.specs.Prelude.{string_bytes}
use Rattle.hid_recording.specs.Acts.{act_of}
use Rattle.hid_recording.specs.Pieces.{cause_of}
use Rattle.hid_recording.specs.Player.{session_of}
use Rattle.hid_recording.proofs.ActLemmas.{act_ends, act_written, act_unwritten}
use Rattle.hid_recording.proofs.player.Player.act.Goals as goal

pub returns-in_err-play_act : goal.returns-in_err-play_act
returns-in_err-play_act g c =
    act_ends _ _ c.args.time.now (session_of c.args.self.now) (act_of c.args.act) c.in_err-play_act.field-0.0 _ _ c.in_err-play_act.ensures c.from_residual.ensures.1

pub returns-in_err-write_text : goal.returns-in_err-write_text
returns-in_err-write_text g c =
    let h = c.in_ok-play_act.ensures in
    act_unwritten _ _ _ c.args.time.now (session_of c.args.self.now) (act_of c.args.act) h.0 (string_bytes c.play_act.new.self.text)
    c.as_bytes.result.now c.from_residual-in_err-write_text.result (session_of c.play_act.new.self) _ h.1 h.2 c.as_bytes.ensures.value
    c.in_err-write_text.ensures.prefix
    (subst (λ f. IsErrAnd c.from_residual-in_err-write_text.result (λ e. e ≡ cause_of f)) c.in_err-write_text.ensures.cause c.from_residual-in_err-write_text.ensures.1)

pub returns : goal.returns
returns g c =
    let h = c.in_ok-play_act.ensures in
    act_written _ _ _ c.args.time.now (session_of c.args.self.now) (act_of c.args.act) h.0 (string_bytes c.play_act.new.self.text)
    c.as_bytes.result.now (session_of c.play_act.new.self) h.1 h.2 c.as_bytes.ensures.value c.in_ok-write_text.ensures.ok
