use Rattle.std.proofs.Common.{arith, rules, tests, refl}
use Rattle.hid_recording.specs.Player.{session_of}
use Rattle.hid_recording.proofs.PlayerLemmas.{report_meant}
use Rattle.hid_recording.proofs.player.Player.play_line.Goals as goal

pub returns-in-69-clause-outcome : goal.returns-in-69-clause-outcome
returns-in-69-clause-outcome g c =
    report_meant _ _ (session_of c.args.self.now) c.args.line.now _ _ _ _ (omega (arith, c.in-69.len_at_least)) (search (rules, tests)) (search (rules, tests)) refl
    c.play_report.ensures.outcome
