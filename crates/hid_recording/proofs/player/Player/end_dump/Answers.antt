use Rattle.std.proofs.Common.{rules}
use Rattle.hid_recording.specs.Player.{session_of}
use Rattle.hid_recording.proofs.PlayerLemmas.{dump_described, dump_streamed}
use Rattle.hid_recording.proofs.player.Player.end_dump.Goals as goal

pub returns-in-Descriptor-clause-outcome : goal.returns-in-Descriptor-clause-outcome
returns-in-Descriptor-clause-outcome g c = dump_described _ _ (session_of c.args.self.now) c.args.self.now.dump.content _ _ _ _ _ c.describe.ensures.outcome (search rules) (search rules) (search rules)

pub returns-clause-outcome : goal.returns-clause-outcome
returns-clause-outcome g c = dump_streamed _ _ (session_of c.args.self.now) c.args.self.now.dump.content c.as_slice-in-Stream.result.now c.as_slice-in-Stream-2.result.now _ _ _ _ c.stream.ensures.outcome (search rules) (search rules) (search rules) (search rules)
