use Rattle.std.proofs.Common.{◌≡◌, Some, rules, ap}
use Rattle.hid_recording.specs.LineOutput.{stream_outcome}
use Rattle.hid_recording.specs.Player.{session_of}
use Rattle.hid_recording.specs.Words.{time_of}
use Rattle.hid_recording.proofs.PieceLemmas.{outputs_is}
use Rattle.hid_recording.proofs.player.Player.stream.Goals as goal

pub returns-in-Some-clause-outcome : goal.returns-in-Some-clause-outcome
returns-in-Some-clause-outcome g c =
    let known : Some c.in-Some.time.now ≡ time_of c.args.time.now = search rules in
    outputs_is _ _ _ _ _ _ _ (ap (λ t. stream_outcome t c.args.bytes.now (session_of c.args.self.now)) known) c.chunk.ensures.outcome
