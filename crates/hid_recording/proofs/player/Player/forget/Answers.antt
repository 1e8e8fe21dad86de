use Rattle.std.proofs.Common.{◌++◌, Some, rules, refl, ap, ◌∙◌}
use Rattle.std.specs.Prelude.{string_bytes}
use Rattle.hid_recording.specs.Session.{Session}
use Rattle.hid_recording.specs.LineOutput.{AfterRelease, DescriptorIsRefused, session_refusal_line, text_back, with_refusal, without_named}
use Rattle.hid_recording.specs.Player.{session_of}
use Rattle.hid_recording.specs.declared.fault.Refusal.TheVariants as refusals
use Rattle.hid_recording.specs.declared.fault.TextFault.TheVariants as faults
use Rattle.hid_recording.proofs.PieceLemmas.{carried, carried_told, carries_more, cut_before, cut_there, told_nothing, told_part}
use Rattle.hid_recording.proofs.PlayerLemmas.{forgotten_told, forgotten_ends}
use Rattle.hid_recording.proofs.player.Player.forget.Goals as goal

pub returns-in_err-report-clause-outcome : goal.returns-in_err-report-clause-outcome
returns-in_err-report-clause-outcome g c =
    told_nothing _ (AfterRelease (session_of c.args.self.now) (DescriptorIsRefused c.args.descriptor.now c.args.fault)) _ _ _ c.from_residual.ensures.1

pub returns-then-self-clause-outcome : goal.returns-then-self-clause-outcome
returns-then-self-clause-outcome g c =
    (refl, forgotten_ends (session_of c.args.self.now) c.args.descriptor.now c.args.fault c.in_ok-report.report (search rules) c.in_ok-report.ensures.report)

pub returns-in_err-let_go-clause-outcome : goal.returns-in_err-let_go-clause-outcome
returns-in_err-let_go-clause-outcome g c =
    let session = session_of c.args.self.now in
    let why = refusals.Layout c.args.fault c.in_ok-report.report in
    let last = with_refusal (without_named session (Some session.current)) in
    told_part _ _ (AfterRelease session (DescriptorIsRefused c.args.descriptor.now c.args.fault)) (string_bytes c.clear.new.self)
    (text_back session session.current ++ session_refusal_line session why) last _ _ _ _
    (cut_before _ _ (string_bytes c.clear.new.self) (text_back session session.current) (session_refusal_line session why) _ (rw c.current_device-device.ensures at c.in_err-let_go.ensures.text)) c.clear.ensures.bytes
    (forgotten_told session last c.args.descriptor.now c.args.fault c.in_ok-report.report (search rules) c.in_ok-report.ensures.report refl)
    c.from_residual-in_err-let_go.ensures.1

pub returns-in_err-add_refusal-clause-outcome : goal.returns-in_err-add_refusal-clause-outcome
returns-in_err-add_refusal-clause-outcome g c =
    let session = session_of c.args.self.now in
    let why = refusals.Layout c.args.fault c.in_ok-report.report in
    let last = with_refusal (without_named session (Some session.current)) in
    told_part _ _ (AfterRelease session (DescriptorIsRefused c.args.descriptor.now c.args.fault)) (string_bytes c.clear.new.self)
    (text_back session session.current ++ session_refusal_line session why) last faults.Memory _ _ _
    (cut_before (g.W.Write.contents c.args.writer.now) (g.W.Write.contents c.let_go.new.writer) (string_bytes c.clear.new.self) (text_back session session.current) (session_refusal_line session why) faults.Memory
    (cut_there (g.W.Write.contents c.args.writer.now) (g.W.Write.contents c.let_go.new.writer) (string_bytes c.clear.new.self) (text_back session session.current) (string_bytes c.let_go.new.self.text) (rw c.current_device-device.ensures at c.in_ok-let_go.ensures.text))) c.clear.ensures.bytes
    (forgotten_told session last c.args.descriptor.now c.args.fault c.in_ok-report.report (search rules) c.in_ok-report.ensures.report refl)
    c.from_residual-in_err-add_refusal.ensures.1

pub returns-clause-outcome : goal.returns-clause-outcome
returns-clause-outcome g c =
    let session = session_of c.args.self.now in
    let why = refusals.Layout c.args.fault c.in_ok-report.report in
    let gone = rw c.current_device-device.ensures at c.in_ok-let_go.ensures.session in
    carried_told _ _ (AfterRelease session (DescriptorIsRefused c.args.descriptor.now c.args.fault)) _ (text_back session session.current ++ session_refusal_line session why) _ _
    (carries_more _ _ _ _ _ _ _ _ (rw c.current_device-device.ensures at c.in_ok-let_go.ensures.text)
    (carried _ _ (session_refusal_line session why) _ (c.in_ok-add_refusal.ensures.text
    ∙ ap (λ (s : Session). string_bytes c.let_go.new.self.text ++ session_refusal_line s why) gone))) c.clear.ensures.bytes
    (forgotten_told session (session_of c.add_refusal.new.self) c.args.descriptor.now c.args.fault c.in_ok-report.report (search rules) c.in_ok-report.ensures.report
    (c.in_ok-add_refusal.ensures.session ∙ ap with_refusal gone))
