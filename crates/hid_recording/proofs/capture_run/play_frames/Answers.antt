use Rattle.std.proofs.Common.{[], sym, subst}
use Rattle.usb_capture.proofs.ExtentLemmas.{nothing_begun}
use Rattle.usb_capture.specs.declared.format.Format.TheVariants.{Unknown}
use Rattle.hid_recording.specs.CaptureRuns.{CapturePlace, IsBetween, capture_at_first}
use Rattle.hid_recording.specs.declared.capture_fault.CaptureCause.TheVariants.{Run}
use Rattle.hid_recording.specs.declared.fault.Cause.TheVariants as causes
use Rattle.std.proofs.Common.{ap}
use Rattle.hid_recording.proofs.CaptureLemmas.{end_is, never_begun}
use Rattle.hid_recording.proofs.capture_run.play_frames.Goals as goal

pub play_pieces-end-requires-clause-between : goal.play_pieces-end-requires-clause-between
play_pieces-end-requires-clause-between g c = subst (λ (p : CapturePlace). IsBetween p) (sym c.new-run.ensures.place) (nothing_begun Unknown)

pub returns-in-Err : goal.returns-in-Err
returns-in-Err g c =
    never_begun _ (capture_at_first c.args.options) _ _ c.end_at.result [] (nothing_begun Unknown)
    (end_is (capture_at_first c.args.options) c.none.result _ (Run causes.Memory) c.end_at.result c.none.ensures (ap Run c.in-Err.ensures.memory) c.end_at.ensures)
