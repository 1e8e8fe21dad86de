use Rattle.std.proofs.Common.{[], refl, take}
use Rattle.std.proofs.KnownBytes.{Appends-nil, Appends-kept}
use Rattle.hid_recording.specs.Player.{session_of}
use Rattle.hid_recording.specs.declared.fault.Cause.TheVariants as causes
use Rattle.hid_recording.proofs.LiveLemmas.{came_none, outside_run, report_ends, report_played, all_run}
use Rattle.hid_recording.proofs.live.play_reports.Goals as goal

pub loop-init : goal.loop-init
loop-init g c = ([], [], came_none _, Appends-nil _, (refl, refl))

pub returns-then-is_err : goal.returns-then-is_err
returns-then-is_err g c =
    let before = c.loop.invariant in
    outside_run (session_of c.args.run.now.player) (session_of c.loop.run.player) _ _ _ _ before.0 before.1 causes.Write c.fault.result before.2
    (Appends-kept _ _ _ before.1 before.3 c.flush.ensures.bytes) before.4 tt c.fault.ensures

pub returns-in-Gone : goal.returns-in-Gone
returns-in-Gone g c =
    let before = c.loop.invariant in
    all_run (session_of c.args.run.now.player) (session_of c.loop.run.player) _ _ _ _ _ _ before.0 before.1 c.in-Gone.time c.receive.new.buffer c.end.result before.2
    (Appends-kept _ _ _ before.1 before.3 c.flush.ensures.bytes) before.4 c.in-Gone.ensures.sent c.end.ensures

pub returns-in-Failed : goal.returns-in-Failed
returns-in-Failed g c =
    let before = c.loop.invariant in
    outside_run (session_of c.args.run.now.player) (session_of c.loop.run.player) _ _ _ _ before.0 before.1 causes.Read c.fault-in-Failed.result before.2
    (Appends-kept _ _ _ before.1 before.3 c.flush.ensures.bytes) before.4 tt c.fault-in-Failed.ensures

pub returns-in_err-report-in-Report : goal.returns-in_err-report-in-Report
returns-in_err-report-in-Report g c =
    let before = c.loop.invariant in
    report_ends (session_of c.args.run.now.player) (session_of c.loop.run.player) (session_of c.report.new.self.player) _ _ _ _ _ _ before.0 before.1
    c.in-Report.length c.in-Report.time c.receive.new.buffer (take c.in-Report.length c.receive.new.buffer) c.in_err-report-in-Report.field-0.0 _ before.2
    (Appends-kept _ _ _ before.1 before.3 c.flush.ensures.bytes) before.4 c.in-Report.ensures.sent refl c.in_err-report-in-Report.ensures c.from_residual.ensures.1

pub loop-preserved : goal.loop-preserved
loop-preserved g c =
    let before = c.loop.invariant in
    report_played (session_of c.args.run.now.player) (session_of c.loop.run.player) (session_of c.report.new.self.player) _ _ _ _ _ _ before.0 before.1
    c.in-Report.length c.in-Report.time c.receive.new.buffer (take c.in-Report.length c.receive.new.buffer) before.2
    (Appends-kept _ _ _ before.1 before.3 c.flush.ensures.bytes) before.4 c.in-Report.ensures.sent refl c.in_ok-report-in-Report.ensures

pub returns : goal.returns
returns g c =
    let before = c.loop.invariant in
    outside_run (session_of c.args.run.now.player) (session_of c.loop.run.player) _ _ _ _ before.0 before.1 causes.TooManyReads c.fault-2.result before.2
    before.3 before.4 tt c.fault-2.ensures
