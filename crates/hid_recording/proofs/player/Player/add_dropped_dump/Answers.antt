use Rattle.std.specs.Prelude.{string_bytes}
use Rattle.std.proofs.Common.{◌++◌, refl, ap, ◌∙◌}
use Rattle.hid_recording.specs.LineOutput.{session_refusal_line}
use Rattle.hid_recording.specs.Player.{session_of}
use Rattle.hid_recording.specs.Refusals.{refusal_line}
use Rattle.hid_recording.specs.Session.{Session}
use Rattle.hid_recording.proofs.PieceLemmas.{carried, carries_more, flow_cut, line_memory}
use Rattle.hid_recording.proofs.player.Player.add_dropped_dump.Goals as goal

pub returns-in_err-let_go-clause-text : goal.returns-in_err-let_go-clause-text
returns-in_err-let_go-clause-text g c =
    let session = session_of c.args.self.now in
    rw (← c.described_device-device.ensures)
    (flow_cut _ _ _ _ (session_refusal_line session c.args.refusal) _ _ _ c.in_err-let_go.ensures.text c.from_residual.ensures.1)

pub returns-in_err-add_refusal-clause-text : goal.returns-in_err-add_refusal-clause-text
returns-in_err-add_refusal-clause-text g c =
    let session = session_of c.args.self.now in
    rw (← c.described_device-device.ensures)
    (line_memory _ _ _ _ _ (session_refusal_line session c.args.refusal) _ _ _ c.in_ok-let_go.ensures.text refl c.from_residual-in_err-add_refusal.ensures.1)

pub returns-clause-text : goal.returns-clause-text
returns-clause-text g c =
    rw (← c.described_device-device.ensures)
    (carries_more _ _ _ _ _ _ _ _ c.in_ok-let_go.ensures.text
    (carried _ _ _ _ (c.in_ok-add_refusal.ensures.text
    ∙ ap (λ (s : Session). string_bytes c.let_go.new.self.text ++ refusal_line s.options s.counted s.lines c.args.refusal) c.in_ok-let_go.ensures.session)))
