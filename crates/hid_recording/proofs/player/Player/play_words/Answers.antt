use Rattle.std.proofs.Common.{rules}
use Rattle.hid_recording.specs.Player.{session_of}
use Rattle.hid_recording.specs.Records.{report_record, Report}
use Rattle.hid_recording.proofs.PlayerLemmas.{said_meant, refused_meant}
use Rattle.hid_recording.proofs.player.Player.play_words.Goals as goal

pub returns-in-Ok : goal.returns-in-Ok
returns-in-Ok g c =
    record { outcome = said_meant _ _ (session_of c.args.self.now) (report_record c.args.text.now) (Report c.in-Ok.time.now c.as_slice.result.now) _ _ _ (search rules) c.report.ensures.outcome }

pub returns-in-Err-Refused : goal.returns-in-Err-Refused
returns-in-Err-Refused g c =
    record { outcome = refused_meant _ _ (session_of c.args.self.now) (report_record c.args.text.now) c.in-Err-Refused.refusal _ _ _ (search rules) c.drop_dump.ensures.outcome }
