use Rattle.std.specs.Prelude.{string_bytes}
use Rattle.std.specs.Option.{option_map}
use Rattle.hid_recording.specs.declared.line_fields.DeviceNumber.{DeviceNumber}
use Rattle.std.proofs.Common.{◌≡◌, ◌++◌, rules, refl, ◌∙◌}
use Rattle.hid_recording.specs.LineOutput.{outcome_of_unread_descriptor, named_text_back, dropped_dump_text, without_named, with_refusal, with_dropped_dump}
use Rattle.hid_recording.specs.Player.{session_of}
use Rattle.hid_recording.proofs.PieceLemmas.{carried_told, carries_more, cut_before, cut_after, told_nothing, told_part}
use Rattle.hid_recording.proofs.PlayerLemmas.{unread_whole}
use Rattle.hid_recording.proofs.player.Player.lose_descriptor.Goals as goal

pub returns-in_err-device-clause-outcome : goal.returns-in_err-device-clause-outcome
returns-in_err-device-clause-outcome g c =
    told_nothing _ (λ o. o ≡ outcome_of_unread_descriptor (session_of c.args.self.now) c.args.interface c.args.refusal) _ _ _ c.from_residual.ensures.1

pub returns-in_err-let_go-clause-outcome : goal.returns-in_err-let_go-clause-outcome
returns-in_err-let_go-clause-outcome g c =
    let session = session_of c.args.self.now in
    let now = session_of c.described_by.new.self in
    let device = option_map (λ (some : DeviceNumber). some.number) c.in_ok-device.device in
    let next = without_named now device in
    let last = with_refusal (with_dropped_dump next) in
    let text = string_bytes c.described_by.new.self.text in
    told_part _ _ (λ o. o ≡ outcome_of_unread_descriptor session c.args.interface c.args.refusal) text
    (named_text_back now device ++ dropped_dump_text next c.args.refusal) last _ _ _ _
    (cut_before _ _ text (named_text_back now device) (dropped_dump_text next c.args.refusal) _ c.in_err-let_go.ensures.text) (c.described_by.ensures.text ∙ c.clear.ensures.bytes)
    (unread_whole session now next last c.args.interface _ c.args.refusal (search rules) c.in_ok-device.ensures.session c.in_ok-device.ensures.number refl refl)
    c.from_residual-in_err-let_go.ensures.1

pub returns-in_err-add_dropped_dump-clause-outcome : goal.returns-in_err-add_dropped_dump-clause-outcome
returns-in_err-add_dropped_dump-clause-outcome g c =
    let session = session_of c.args.self.now in
    let now = session_of c.described_by.new.self in
    let next = session_of c.let_go.new.self in
    let last = with_refusal (with_dropped_dump next) in
    let device = option_map (λ (some : DeviceNumber). some.number) c.in_ok-device.device in
    let text = string_bytes c.described_by.new.self.text in
    told_part _ _ (λ o. o ≡ outcome_of_unread_descriptor session c.args.interface c.args.refusal) text
    (named_text_back now device ++ dropped_dump_text next c.args.refusal) last _ _ _ _
    (cut_after _ _ _ text (named_text_back now device) _ (dropped_dump_text next c.args.refusal) _ c.in_ok-let_go.ensures.text c.in_err-add_dropped_dump.ensures.text) (c.described_by.ensures.text ∙ c.clear.ensures.bytes)
    (unread_whole session now next last c.args.interface _ c.args.refusal (search rules) c.in_ok-device.ensures.session c.in_ok-device.ensures.number c.in_ok-let_go.ensures.session refl)
    c.from_residual-in_err-add_dropped_dump.ensures.1

pub returns-clause-outcome : goal.returns-clause-outcome
returns-clause-outcome g c =
    let session = session_of c.args.self.now in
    let now = session_of c.described_by.new.self in
    let next = session_of c.let_go.new.self in
    let device = option_map (λ (some : DeviceNumber). some.number) c.in_ok-device.device in
    carried_told _ _ (λ o. o ≡ outcome_of_unread_descriptor session c.args.interface c.args.refusal) _
    (named_text_back now device ++ dropped_dump_text next c.args.refusal) _ _
    (carries_more _ _ _ _ _ _ _ _ c.in_ok-let_go.ensures.text c.in_ok-add_dropped_dump.ensures.text) (c.described_by.ensures.text ∙ c.clear.ensures.bytes)
    (unread_whole session now next (session_of c.add_dropped_dump.new.self) c.args.interface _ c.args.refusal (search rules) c.in_ok-device.ensures.session c.in_ok-device.ensures.number
    c.in_ok-let_go.ensures.session c.in_ok-add_dropped_dump.ensures.session)
