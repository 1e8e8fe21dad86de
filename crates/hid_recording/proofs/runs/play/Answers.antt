use Rattle.std.proofs.Common.{refl}
use Rattle.hid_recording.proofs.FlushLemmas.{never_flushed}
use Rattle.hid_recording.proofs.runs.play.Goals as goal

pub returns-in-Err : goal.returns-in-Err
returns-in-Err g c =
    never_flushed c.args.options _ _ _ _ c.play_lines-end.result _ c.line_of.ensures refl c.summary_until.ensures c.play_lines-end.ensures.ran c.flush.ensures.bytes
