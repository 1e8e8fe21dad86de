use Rattle.std.proofs.Common.{rules, tests, ap}
use Rattle.hid_recording.specs.Player.{session_of}
use Rattle.hid_recording.specs.Records.{items_of}
use Rattle.hid_recording.proofs.PieceLemmas.{outputs_is}
use Rattle.hid_recording.proofs.PlayerLemmas.{stray_given, unread_given, long_given}
use Rattle.hid_recording.proofs.player.Player.gather.Goals as goal

pub returns-then-is_none-clause-outcome : goal.returns-then-is_none-clause-outcome
returns-then-is_none-clause-outcome g c =
    outputs_is _ _ _ _ _ _ _ (stray_given (session_of c.args.self.now) (items_of c.args.bytes) c.args.self.now.dump.content (search (rules, tests))) c.gather_none.ensures.outcome

pub returns-in-Err-clause-outcome : goal.returns-in-Err-clause-outcome
returns-in-Err-clause-outcome g c =
    outputs_is _ _ _ _ _ _ _ (unread_given (session_of c.args.self.now) (items_of c.args.bytes) c.in-Err.unread c.args.self.now.dump.content (ap items_of c.in-Err.is) (search (rules, tests))) c.drop_dump.ensures.outcome

pub returns-then-saturating_add-gt-MAX_DUMP-clause-outcome : goal.returns-then-saturating_add-gt-MAX_DUMP-clause-outcome
returns-then-saturating_add-gt-MAX_DUMP-clause-outcome g c =
    outputs_is _ _ _ _ _ _ _ (long_given (session_of c.args.self.now) c.in-Ok.bytes.items (items_of c.args.bytes) c.args.self.now.dump.content (ap items_of c.in-Ok.is) (search (rules, tests)) (search (rules, tests))) c.drop_dump-then-saturating_add-gt-MAX_DUMP.ensures.outcome
