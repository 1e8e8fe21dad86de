use Rattle.std.proofs.Common.{[], refl}
use Rattle.hid_recording.specs.CaptureRuns.{capture_at_first}
use Rattle.hid_recording.proofs.CaptureLemmas.{never_flushed}
use Rattle.hid_recording.proofs.capture_run.play_capture.Goals as goal

pub returns-in-Err : goal.returns-in-Err
returns-in-Err g c =
    never_flushed _ (capture_at_first c.args.options) _ _ _ _ c.play_frames-played.result.end _ c.play_frames-played.result.undescribed.items [] (rw (c.frame_of.ensures, c.capture_summary.ensures) refl) c.play_frames-played.ensures c.flush.ensures.bytes
