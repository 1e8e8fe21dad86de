use Rattle.std.proofs.Common.{rules, tests}
use Rattle.hid_recording.specs.Player.{session_of}
use Rattle.hid_recording.proofs.PlayerLemmas.{descriptor_refused, descriptor_accepted}
use Rattle.hid_recording.proofs.player.Player.describe.Goals as goal

pub returns-in-Ok-clause-outcome : goal.returns-in-Ok-clause-outcome
returns-in-Ok-clause-outcome g c =
    let accepted = c.in-Ok.ensures.ok in
    descriptor_accepted _ _ (session_of c.args.self.now) c.args.descriptor.now accepted.0 _ _ _ _ accepted.1 accepted.2 c.replace.ensures.outcome

pub returns-else-is_memory-clause-outcome : goal.returns-else-is_memory-clause-outcome
returns-else-is_memory-clause-outcome g c =
    descriptor_refused _ _ (session_of c.args.self.now) c.args.descriptor.now c.in-Err.fault _ _ _
    (search (rules, tests)) c.in-Err.ensures.err c.forget.ensures.outcome
