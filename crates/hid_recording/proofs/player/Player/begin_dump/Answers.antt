use Rattle.std.specs.Prelude.{string_bytes, map}
use Rattle.std.specs.Option.{option_map}
use Rattle.std.proofs.Common.{◌≡◌, ◌++◌, None, rules, tests, refl, ap, subst, ◌∙◌}
use Rattle.hid_recording.specs.declared.dump.Dump.{Dump}
use Rattle.hid_recording.specs.declared.fault.Refusal.TheVariants as refusals
use Rattle.hid_recording.specs.declared.fault.TextFault.TheVariants as faults
use Rattle.hid_recording.specs.declared.line_fields.DeviceNumber.{DeviceNumber}
use Rattle.hid_recording.specs.Dumps.{described_device, empty_dump, number_of_address, with_address}
use Rattle.hid_recording.specs.Gathering.{Outputs}
use Rattle.hid_recording.specs.Joining.{slot_after_doubt}
use Rattle.hid_recording.specs.Refusals.{refusal_line}
use Rattle.hid_recording.specs.Session.{Session}
use Rattle.hid_recording.specs.LineOutput.{outcome_of_dump_head, outcome_of_dropped_dump, dumped_device, named_text_back, session_refusal_line, with_dump, with_refusal}
use Rattle.hid_recording.specs.Player.{gathering_of, session_of}
use Rattle.hid_recording.proofs.PieceLemmas.{carried, carried_told, carries_more, cut_before, cut_there, outputs_is, told_part}
use Rattle.hid_recording.proofs.PlayerLemmas.{begun_after, begun_session, dump_begun_told, too_many_told}
use Rattle.hid_recording.proofs.player.Player.begin_dump.Goals as goal

pub returns-in_err-let_go-clause-outcome : goal.returns-in_err-let_go-clause-outcome
returns-in_err-let_go-clause-outcome g c =
    let session = session_of c.args.self.now in
    let device = option_map (λ (some : DeviceNumber). some.number) c.described_device.result in
    let back = named_text_back session device in
    let line = session_refusal_line session refusals.Unended in
    let last = begun_after session c.args.address c.args.content c.args.time.now c.in-Ok.device.number in
    told_part _ _ (λ o. o ≡ outcome_of_dump_head session c.args.address c.args.content c.args.time.now) (string_bytes c.clear.new.self) (back ++ line) last _ _ _ _
    (cut_before _ _ (string_bytes c.clear.new.self) back line _ c.in_err-let_go.ensures.text) c.clear.ensures.bytes
    (dump_begun_told session last c.args.address c.args.content c.args.time.now _ device c.in-Ok.device.number c.in_ok-number.ensures.number (search (rules, tests))
    (c.described_device.ensures ∙ ap (λ (d : Dump). described_device d.content d.device) c.replace-before.ensures.value) (search (rules, tests)) (search (rules, tests)) refl)
    c.from_residual-in_err-let_go.ensures.1

pub returns-in_err-add_refusal-clause-outcome : goal.returns-in_err-add_refusal-clause-outcome
returns-in_err-add_refusal-clause-outcome g c =
    let session = session_of c.args.self.now in
    let device = option_map (λ (some : DeviceNumber). some.number) c.described_device.result in
    let back = named_text_back session device in
    let line = session_refusal_line session refusals.Unended in
    let last = begun_after session c.args.address c.args.content c.args.time.now c.in-Ok.device.number in
    told_part _ _ (λ o. o ≡ outcome_of_dump_head session c.args.address c.args.content c.args.time.now) (string_bytes c.clear.new.self) (back ++ line) last faults.Memory _ _ _
    (cut_before (g.W.Write.contents c.args.writer.now) (g.W.Write.contents c.let_go.new.writer) (string_bytes c.clear.new.self) back line faults.Memory
    (cut_there (g.W.Write.contents c.args.writer.now) (g.W.Write.contents c.let_go.new.writer) (string_bytes c.clear.new.self) back (string_bytes c.let_go.new.self.text) c.in_ok-let_go.ensures.text)) c.clear.ensures.bytes
    (dump_begun_told session last c.args.address c.args.content c.args.time.now _ device c.in-Ok.device.number c.in_ok-number.ensures.number (search (rules, tests))
    (c.described_device.ensures ∙ ap (λ (d : Dump). described_device d.content d.device) c.replace-before.ensures.value) (search (rules, tests)) (search (rules, tests)) refl)
    c.from_residual-in_err-add_refusal.ensures.1

pub returns-in-Err-clause-outcome : goal.returns-in-Err-clause-outcome
returns-in-Err-clause-outcome g c =
    let session = session_of c.args.self.now in
    let full : number_of_address session.addresses c.args.address ≡ None = search (rules, tests) in
    let why : c.in-Err.refusal ≡ refusals.TooManyDevices = search (rules, tests) in
    outputs_is _ _ _ _ _ _ _ (too_many_told session c.args.address c.args.content c.args.time.now c.number.new.self.known.items full c.in_ok-number.ensures.known)
    (subst (λ w. Outputs (g.W.Write.contents c.args.writer.now) (g.W.Write.contents c.drop_dump.new.writer)
    (λ o. o ≡ outcome_of_dropped_dump (record session { addresses = c.number.new.self.known.items }) w) c.drop_dump.result (string_bytes c.drop_dump.new.self.text) (session_of c.drop_dump.new.self)) why c.drop_dump.ensures.outcome)

pub returns-clause-outcome : goal.returns-clause-outcome
returns-clause-outcome g c =
    let session = session_of c.args.self.now in
    let device = option_map (λ (some : DeviceNumber). some.number) c.described_device.result in
    let back = named_text_back session device in
    let line = session_refusal_line session refusals.Unended in
    let named : device ≡ dumped_device session = c.described_device.ensures ∙ ap (λ (d : Dump). described_device d.content d.device) c.replace-before.ensures.value in
    let opened : gathering_of c.replace-before.new.dest ≡ empty_dump c.args.content c.in-Ok.device.number c.args.time.now =
    ap gathering_of c.replace-before.ensures.after ∙ rw (c.in_ok-begun.ensures.open.0, c.in_ok-begun.ensures.open.1, c.in_ok-begun.ensures.device, c.in_ok-begun.ensures.time, c.in_ok-begun.ensures.empty) refl in
    let now : Session = record session { addresses = c.number.new.self.known.items; gathered = gathering_of c.replace-before.new.dest } in
    let begun : now ≡ with_dump session c.args.address c.args.content c.args.time.now c.in-Ok.device.number =
    ap (λ k. (let s : Session = record session { addresses = k; gathered = gathering_of c.replace-before.new.dest } in s)) c.in_ok-number.ensures.known
    ∙ ap (λ d. (let s : Session = record session { addresses = with_address session.addresses c.args.address; gathered = d } in s)) opened in
    let next = session_of c.let_go.new.self in
    let doubted : (let s : Session = record next { current = c.doubt.new.self.current; devices = c.doubt.new.self.slots.items } in s)
    ≡ record next { devices = map slot_after_doubt next.devices } = rw (c.doubt.ensures.0, c.doubt.ensures.1) refl in
    carried_told _ _ (λ o. o ≡ outcome_of_dump_head session c.args.address c.args.content c.args.time.now) _ (back ++ line) _ _
    (carries_more _ _ _ _ _ _ _ _ c.in_ok-let_go.ensures.text (carried _ _ line _ (c.in_ok-add_refusal.ensures.text
    ∙ ap (λ (s : Session). string_bytes c.let_go.new.self.text ++ refusal_line s.options s.counted s.lines refusals.Unended) c.in_ok-let_go.ensures.session))) c.clear.ensures.bytes
    (dump_begun_told session (session_of c.add_refusal.new.self) c.args.address c.args.content c.args.time.now _ device c.in-Ok.device.number c.in_ok-number.ensures.number (search (rules, tests))
    named (search (rules, tests)) (search (rules, tests))
    (begun_session session now next (session_of c.add_refusal.new.self) c.args.address c.args.content c.args.time.now c.in-Ok.device.number device begun named c.in_ok-let_go.ensures.session
    (c.in_ok-add_refusal.ensures.session ∙ ap with_refusal doubted)))
