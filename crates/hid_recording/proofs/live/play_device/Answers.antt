use Rattle.std.proofs.Common.{refl, ◌∙◌}
use Rattle.hid_recording.specs.LiveRuns.{before_first}
use Rattle.hid_recording.specs.Player.{session_of}
use Rattle.hid_recording.specs.declared.fault.Cause.TheVariants as causes
use Rattle.hid_recording.proofs.LiveLemmas.{never_begun, descriptor_ends, described_run, live_end_is}
use Rattle.hid_recording.proofs.live.play_device.Goals as goal

pub returns-in-Err : goal.returns-in-Err
returns-in-Err g c =
    never_begun c.args.options c.args.descriptor.now _ _ c.fault_at.result
    (live_end_is (before_first c.args.options) c.none.result c.in-Err.cause causes.Memory c.fault_at.result c.none.ensures c.in-Err.ensures.memory c.fault_at.ensures)

pub returns-in-Err-tell : goal.returns-in-Err-tell
returns-in-Err-tell g c =
    descriptor_ends c.args.options c.args.descriptor.now _ _ _ (session_of c.new-run.result.player) (session_of c.tell.new.self.player) c.in-Err-tell.cause c.fault_at-in-Err-tell.result
    (c.new-run.ensures ∙ c.in-Ok.ensures.new) c.in-Err-tell.ensures
    (live_end_is (before_first c.args.options) c.none-in-Err-tell.result c.in-Err-tell.cause c.in-Err-tell.cause c.fault_at-in-Err-tell.result c.none-in-Err-tell.ensures refl c.fault_at-in-Err-tell.ensures)

pub returns : goal.returns
returns g c =
    described_run c.args.options c.args.descriptor.now _ _ _ _ (session_of c.new-run.result.player) (session_of c.tell.new.self.player) (session_of c.set_options.new.self) c.play_reports.result
    (c.new-run.ensures ∙ c.in-Ok.ensures.new) c.in_default.ensures c.set_options.ensures c.play_reports.ensures
