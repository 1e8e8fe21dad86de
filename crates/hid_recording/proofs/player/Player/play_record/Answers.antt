use Rattle.std.proofs.Common.{rules}
use Rattle.hid_recording.specs.Player.{session_of}
use Rattle.hid_recording.specs.Records.{record_of, items_of, Blank, Begins, Bytes, Descriptor, Report, Unread}
use Rattle.hid_recording.proofs.PlayerLemmas.{said_meant, refused_meant}
use Rattle.hid_recording.proofs.player.Player.play_record.Goals as goal

pub select-requires : goal.select-requires
select-requires g c = c.in-Ok-Device.device.small

pub returns-in-Ok-Blank-clause-outcome : goal.returns-in-Ok-Blank-clause-outcome
returns-in-Ok-Blank-clause-outcome g c =
    said_meant _ _ (session_of c.args.self.now) (record_of c.args.line.now) Blank _ _ _ (search rules) c.end_dump.ensures.outcome

pub returns-in-Ok-Descriptor-clause-outcome : goal.returns-in-Ok-Descriptor-clause-outcome
returns-in-Ok-Descriptor-clause-outcome g c =
    said_meant _ _ (session_of c.args.self.now) (record_of c.args.line.now) (Descriptor c.in-Ok-Descriptor.bytes.items) _ _ _ (search rules) (rw c.as_slice.ensures.value at c.describe.ensures.outcome)

pub returns-in-Ok-Unread-clause-outcome : goal.returns-in-Ok-Unread-clause-outcome
returns-in-Ok-Unread-clause-outcome g c =
    said_meant _ _ (session_of c.args.self.now) (record_of c.args.line.now) (Unread c.in-Ok-Unread.interface c.in-Ok-Unread.refusal) _ _ _ (search rules) c.lose_descriptor.ensures.outcome

pub returns-in-Ok-Report-clause-outcome : goal.returns-in-Ok-Report-clause-outcome
returns-in-Ok-Report-clause-outcome g c =
    said_meant _ _ (session_of c.args.self.now) (record_of c.args.line.now) (Report c.in-Ok-Report.time.now c.in-Ok-Report.bytes.items) _ _ _ (search rules) (rw c.as_slice-in-Ok-Report.ensures.value at c.report.ensures.outcome)

pub returns-in-Ok-Begins-clause-outcome : goal.returns-in-Ok-Begins-clause-outcome
returns-in-Ok-Begins-clause-outcome g c =
    said_meant _ _ (session_of c.args.self.now) (record_of c.args.line.now) (Begins c.in-Ok-Begins.address c.in-Ok-Begins.content c.in-Ok-Begins.time.now) _ _ _ (search rules) c.begin_dump.ensures.outcome

pub returns-in-Ok-Bytes-clause-outcome : goal.returns-in-Ok-Bytes-clause-outcome
returns-in-Ok-Bytes-clause-outcome g c =
    said_meant _ _ (session_of c.args.self.now) (record_of c.args.line.now) (Bytes (items_of c.in-Ok-Bytes.bytes)) _ _ _ (search rules) c.gather.ensures.outcome

pub returns-in-Err-Refused-clause-outcome : goal.returns-in-Err-Refused-clause-outcome
returns-in-Err-Refused-clause-outcome g c =
    refused_meant _ _ (session_of c.args.self.now) (record_of c.args.line.now) c.in-Err-Refused.refusal _ _ _ (search rules) c.drop_dump.ensures.outcome
