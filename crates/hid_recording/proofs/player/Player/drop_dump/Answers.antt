use Rattle.std.proofs.Common.{◌≡◌, rules, refl}
use Rattle.hid_recording.specs.LineOutput.{outcome_of_dropped_dump, dropped_dump_text, with_refusal, with_dropped_dump}
use Rattle.hid_recording.specs.Player.{session_of}
use Rattle.hid_recording.proofs.PieceLemmas.{carried_told, told_part}
use Rattle.hid_recording.proofs.PlayerLemmas.{dropped_told}
use Rattle.hid_recording.proofs.player.Player.drop_dump.Goals as goal

pub returns-in_err-add_dropped_dump-clause-outcome : goal.returns-in_err-add_dropped_dump-clause-outcome
returns-in_err-add_dropped_dump-clause-outcome g c =
    let session = session_of c.args.self.now in
    let last = with_refusal (with_dropped_dump session) in
    told_part _ _ (λ o. o ≡ outcome_of_dropped_dump session c.args.refusal) _ (dropped_dump_text session c.args.refusal) last _ _ _ _
    c.in_err-add_dropped_dump.ensures.text c.clear.ensures.bytes (dropped_told session last c.args.refusal (search rules) refl) c.from_residual.ensures.1

pub returns-clause-outcome : goal.returns-clause-outcome
returns-clause-outcome g c =
    let session = session_of c.args.self.now in
    carried_told _ _ (λ o. o ≡ outcome_of_dropped_dump session c.args.refusal) _ (dropped_dump_text session c.args.refusal) _ _
    c.in_ok-add_dropped_dump.ensures.text c.clear.ensures.bytes
    (dropped_told session (session_of c.add_dropped_dump.new.self) c.args.refusal (search rules) c.in_ok-add_dropped_dump.ensures.session)
