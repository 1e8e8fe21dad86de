use Rattle.std.specs.Prelude.{string_bytes}
use Rattle.std.proofs.Common.{◌≡◌, ◌++◌, Some, refl, subst}
use Rattle.hid_recording.specs.Acts.{turned_to}
use Rattle.hid_recording.specs.LineOutput.{DescriptionGives, report_outcome, outcome_of_release, text_back, without_named}
use Rattle.hid_recording.specs.Pieces.{CutsOff}
use Rattle.hid_recording.proofs.PieceLemmas.{told_part}
use Rattle.hid_recording.specs.Gathering.{Outputs}
use Rattle.hid_recording.specs.Player.{session_of}
use Rattle.hid_recording.specs.Session.{Session}
use Rattle.hid_recording.proofs.player.Player.play_act.Goals as goal

pub returns-in_ok-turn_to-in-Descriptor : goal.returns-in_ok-turn_to-in-Descriptor
returns-in_ok-turn_to-in-Descriptor g c =
    rw c.in-Descriptor.is (subst (λ (s : Session). Outputs (g.W.Write.contents c.args.writer.now) (g.W.Write.contents c.describe.new.writer) (DescriptionGives c.in-Descriptor.bytes.now s) c.describe.result (string_bytes c.describe.new.self.text) (session_of c.describe.new.self)) c.in_ok-turn_to-in-Descriptor.ensures c.describe.ensures.outcome)

pub returns-in_ok-turn_to-in-Report : goal.returns-in_ok-turn_to-in-Report
returns-in_ok-turn_to-in-Report g c =
    rw c.in-Report.is (subst (λ (s : Session). Outputs (g.W.Write.contents c.args.writer.now) (g.W.Write.contents c.report.new.writer) (λ o. o ≡ report_outcome c.args.time.now c.in-Report.bytes.now s) c.report.result (string_bytes c.report.new.self.text) (session_of c.report.new.self)) c.in_ok-turn_to-in-Report.ensures c.report.ensures.outcome)

pub returns-in_err-let_go-in-Disconnection : goal.returns-in_err-let_go-in-Disconnection
returns-in_err-let_go-in-Disconnection g c =
    let n = c.in-Disconnection.device.number in
    let session = turned_to (session_of c.args.self.now) n c.args.time.now in
    let fault = c.in_err-let_go-in-Disconnection.field-0.0 in
    rw c.in-Disconnection.is (told_part (g.W.Write.contents c.args.writer.now) (g.W.Write.contents c.let_go.new.writer) (λ o. o ≡ outcome_of_release session n) (string_bytes c.clear.new.self) (text_back session n)
    (without_named session (Some n)) fault c.from_residual-in_err-let_go-in-Disconnection.result (string_bytes c.let_go.new.self.text) (session_of c.let_go.new.self)
    (subst (λ (s : Session). CutsOff (g.W.Write.contents c.args.writer.now) (g.W.Write.contents c.let_go.new.writer) (string_bytes c.clear.new.self ++ text_back s n) fault)
    c.in_ok-turn_to-in-Disconnection.ensures c.in_err-let_go-in-Disconnection.ensures.text) c.clear.ensures.bytes refl
    c.from_residual-in_err-let_go-in-Disconnection.ensures.1)
