use Rattle.std.proofs.Common.{◌≡◌, ◌++◌, Some, Err, refl}
use Rattle.std.specs.Prelude.{string_bytes}
use Rattle.hid_recording.specs.declared.fault.TextFault.TheVariants as faults
use Rattle.hid_recording.specs.LineOutput.{AfterRelease, outcome_of_device, described_text, text_back, with_descriptor, without_named}
use Rattle.hid_recording.specs.Player.{session_of}
use Rattle.hid_recording.proofs.PieceLemmas.{cut_before, cut_there, told_part}
use Rattle.hid_recording.proofs.PlayerLemmas.{replaced_told}
use Rattle.hid_recording.proofs.player.Player.replace.Goals as goal

pub returns-in-Err-clause-outcome : goal.returns-in-Err-clause-outcome
returns-in-Err-clause-outcome g c =
    let session = session_of c.args.self.now in
    let last = with_descriptor (without_named session (Some session.current)) c.args.recorded in
    told_part _ _ (AfterRelease session (λ s o. o ≡ outcome_of_device s c.args.recorded)) (string_bytes c.clear.new.self)
    (text_back session session.current ++ described_text session.options session.current c.args.recorded.layout) last c.in-Err.fault (Err c.from.result) (string_bytes c.clear.new.self) session
    (cut_before (g.W.Write.contents c.args.writer.now) (g.W.Write.contents c.let_go.new.writer) (string_bytes c.clear.new.self) (text_back session session.current) (described_text session.options session.current c.args.recorded.layout) c.in-Err.fault (rw c.current_device-device.ensures at c.in-Err.ensures.text)) c.clear.ensures.bytes
    (replaced_told session last c.args.recorded refl) c.from.ensures

pub returns-in_err-install-clause-outcome : goal.returns-in_err-install-clause-outcome
returns-in_err-install-clause-outcome g c =
    let session = session_of c.args.self.now in
    let last = with_descriptor (without_named session (Some session.current)) c.args.recorded in
    told_part _ _ (AfterRelease session (λ s o. o ≡ outcome_of_device s c.args.recorded)) (string_bytes c.clear.new.self)
    (text_back session session.current ++ described_text session.options session.current c.args.recorded.layout) last faults.Memory c.from_residual.result _ _
    (cut_before (g.W.Write.contents c.args.writer.now) (g.W.Write.contents c.let_go.new.writer) (string_bytes c.clear.new.self) (text_back session session.current) (described_text session.options session.current c.args.recorded.layout) faults.Memory
    (cut_there (g.W.Write.contents c.args.writer.now) (g.W.Write.contents c.let_go.new.writer) (string_bytes c.clear.new.self) (text_back session session.current) (string_bytes c.let_go.new.self.text) (rw c.current_device-device.ensures at c.in_default.ensures.text))) c.clear.ensures.bytes
    (replaced_told session last c.args.recorded refl) c.from_residual.ensures.1
