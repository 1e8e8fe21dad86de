use Rattle.std.proofs.Common.{rules, tests}
use Rattle.hid_recording.specs.Player.{session_of}
use Rattle.hid_recording.proofs.PieceLemmas.{outputs_is}
use Rattle.hid_recording.proofs.PlayerLemmas.{stray_told}
use Rattle.hid_recording.proofs.player.Player.gather_none.Goals as goal

pub returns-then-not-self-clause-outcome : goal.returns-then-not-self-clause-outcome
returns-then-not-self-clause-outcome g c =
    outputs_is _ _ _ _ _ _ _ (stray_told (session_of c.args.self.now) (search (rules, tests))) c.drop_dump.ensures.outcome
